-- A record meets the law of demand 3, and nothing else does, by any rule. What carries the law (`Standing`): a full record is
-- one of the pieces offered, every piece offered has at most its sum, and those that were offered sooner have less. The one
-- real step: a cutting before i scores at most what stands there, so with a further piece it scores at most what that piece was
-- offered with (`sum_mono`). Assumes nothing.
use Rattle.std.specs.Prelude.{Option, None, Some}
use mathlib.Core.Path.{◌≡◌, refl, sym, ap, subst, ◌∙◌}
use mathlib.Core.Bool.{Bool, true, false, not, ◌&&◌, ◌||◌, cond}
use mathlib.Core.List.{List, [], ◌∷◌}
use mathlib.Core.Logic.{◌⊎◌, inl, inr, ⊎_elim}
use Prim.Native.Nat.{ℕ, zero, suc, ◌+◌, ◌-◌, ◌≤◌, ◌<◌}
use native.Mathlib.Nat.{zero-add}
use native.Mathlib.Omega.{arith}
use lib.Dec.{T, eqb, eqb→eq, ltb→lt}
use Rattle.doubles.specs.Double.{Double, not_a_number, infinite, finite, plus_zero, sum, less, same, at_most, is_number}
use Rattle.doubles.proofs.Order.{less-at-most, at-most-refl, not-less-at-most, at-most-antisymm, at-most-trans, at-most-less-trans, same-equal}
use Rattle.doubles.proofs.Sums.{sum_number, sum_mono, never-minus-zero}
use Rattle.cutting.specs.Cuttings.{Piece, Rule, Slot, nth, Cutting, empty, then, total, Through, whole, Best}
use Rattle.cutting.specs.Records.{offered, candidate, offered_all, best}
use Rattle.cutting.proofs.Laws.{keeps, takes}
use Rattle.refusal.proofs.Lists.{none-some, true-false, below_or}
use Rattle.cutting.proofs.Working.{Pieces, stands_at, some_same, looked}
use Rattle.cutting.proofs.Working.{worked, passed, none_before, stands-first, stands-record, record-stands}

pub is_true : (t : Bool) → T t → t ≡ true
is_true true h = refl
is_true false h = absurd h

pub of-true : {t : Bool} → t ≡ true → T t
of-true {t} e = subst T (sym e) tt

of-false : {t : Bool} → t ≡ false → T (not t)
of-false {t} e = subst (λ (b : Bool). T (not b)) (sym e) tt

not-both : (t : Bool) → T t → T (not t) → ⊥
not-both true p q = absurd q
not-both false p q = absurd p

both : (a b : Bool) → T (a && b) → T a × T b
both true true t = (tt, tt)
both true false t = absurd t
both false b t = absurd t

-- a number strictly less is not the same
same-less : (a b : Double) → T (same a b) → T (less a b) → ⊥
unfolding same less
same-less not_a_number b e l = absurd e
same-less (infinite s) not_a_number e l = absurd e
same-less (infinite true) (infinite true) e l = absurd l
same-less (infinite true) (infinite false) e l = absurd e
same-less (infinite false) (infinite t) e l = absurd l
same-less (infinite s) (finite t n) e l = absurd e
same-less (finite s m) not_a_number e l = absurd e
same-less (finite s m) (infinite t) e l = absurd e
same-less (finite false m) (finite false n) e l =
    let h : m ≡ n = eqb→eq m n (both (eqb m n) (true || eqb m 0) e).0 in
    omega (arith, ltb→lt m n l)
same-less (finite false m) (finite true n) e l = absurd l
same-less (finite true m) (finite false n) e l =
    let w = both (eqb m n) (false || eqb m 0) e in
    let h : m ≡ n = eqb→eq m n w.0 in
    let z : m ≡ 0 = eqb→eq m 0 w.1 in
    omega (arith, ltb→lt 0 (m + n) l)
same-less (finite true m) (finite true n) e l =
    let h : m ≡ n = eqb→eq m n (both (eqb m n) (true || eqb m 0) e).0 in
    omega (arith, ltb→lt n m l)

none_true : (t : Bool) → (T t → ⊥) → T (not t)
none_true true h = absurd (h tt)
none_true false h = tt

same-at-most : (a b : Double) → T (is_number a) → T (is_number b) → T (same a b) → T (at_most b a)
same-at-most a b m n e = not-less-at-most a b m n (none_true (less a b) (same-less a b e))

pub zero_number : T (is_number plus_zero)
unfolding is_number
zero_number = tt

pub zero-plus : plus_zero ≡ finite true 0 → ⊥
zero-plus e = let z : true ≡ false = cc in true-false refl z

-- ---- what is offered, and in which order

-- piece k from i comes before piece m from `from`
abbrev pub Sooner : ℕ → ℕ → ℕ → ℕ → Type 0
Sooner i k from m = (i < from) ⊎ ((i ≡ from) × (k < m))

sooner-more : {i k from m : ℕ} → Sooner i k from (suc m) → Sooner i k from m ⊎ ((i ≡ from) × (k ≡ m))
sooner-more (inl l) = inl (inl l)
sooner-more {k = k} {m = m} (inr w) = ⊎_elim (λ (h : k < m). inl (inr (w.0, h))) (λ (h : m ≤ k). inr (w.0, let l = w.1 in omega arith)) (below_or k m)

sooner-wide : {i k from m : ℕ} → Sooner i k from m → Sooner i k from (suc m)
sooner-wide (inl l) = inl l
sooner-wide (inr w) = inr (w.0, let l = w.1 in omega arith)

sooner-start : {i k from m : ℕ} → Sooner i k from m → Sooner i k (suc from) 0
sooner-start (inl l) = inl (omega arith)
sooner-start (inr w) = inl (let e = w.0 in omega arith)

pub sooner-below : {i k from : ℕ} → Sooner i k from 0 → i < from
sooner-below (inl l) = l
sooner-below (inr w) = absurd (let l = w.1 in omega arith)

module _ {end : ℕ} {rule : Rule} (g : Pieces end rule) where
  -- piece k from i to j is offered with the sum y, which counts
  pub record Offer (j i k : ℕ) (y : Double) : Type 0 where
    pub till : Double
    pub stands : stands_at rule i ≡ Some till
    pub piece : Piece
    pub is : nth (rule.pieces i j) k ≡ Some piece
    pub sums : sum till piece.score ≡ y
    pub counts : T (rule.counts y)

  -- a full record at j when the starts below `from` have been worked, and the first m pieces from there
  pub record Standing (from m j : ℕ) (r : Slot) : Type 0 where
    pub place : ℕ
    pub offer : Offer j r.start place r.score
    pub named : offer.piece.id ≡ r.id
    pub below : Sooner r.start place from m
    pub greatest : (i k : ℕ) (y : Double) → Sooner i k from m → Offer j i k y → T (at_most y r.score)
    pub earlier : (i k : ℕ) (y : Double) → Sooner i k r.start place → Offer j i k y → T (less y r.score)

  abbrev Status : ℕ → ℕ → ℕ → Option Slot → Type 0
  Status from m j o = ((o ≡ None) × ((i k : ℕ) (y : Double) → Sooner i k from m → Offer j i k y → ⊥)) ⊎ ((r : Slot) × (o ≡ Some r) × Standing from m j r)

  -- the same piece by another number
  moved : {j i m a b : ℕ} {y : Double} → (a ≡ i) × (b ≡ m) → Offer j a b y → Offer j i m y
  moved {j} {i} {m} {a} {b} {y} h f = subst (λ (n : ℕ). Offer j i n y) h.1 (subst (λ (n : ℕ). Offer j n b y) h.0 f)

  -- a record that stays stands at a later turn, where all that has been offered by then is at most its sum
  kept :
      {from m to k j : ℕ} {r : Slot} (s : Standing from m j r) → Sooner r.start s.place to k
      → ((a b : ℕ) (y : Double) → Sooner a b to k → Offer j a b y → T (at_most y r.score)) → Standing to k j r
  kept s below most =
      record {
        place = s.place;
        offer = s.offer;
        named = s.named;
        below = below;
        greatest = most;
        earlier = s.earlier;
      }

  -- a later turn, by which nothing more has been offered
  widened :
      (from m to k j : ℕ) (o : Option Slot) → ((a b : ℕ) → Sooner a b from m → Sooner a b to k)
      → ((a b : ℕ) (y : Double) → Sooner a b to k → Offer j a b y → Sooner a b from m) → Status from m j o → Status to k j o
  widened from m to k j o up down (inl w) = inl (w.0, λ a b y l f. w.1 a b y (down a b y l f) f)
  widened from m to k j o up down (inr w) =
      let s = w.2 in
      inr (w.0, w.1, kept s (up w.0.start s.place s.below) (λ a b y l f. s.greatest a b y (down a b y l f) f))

  -- with nothing offered by piece m from i
  still : (i m j : ℕ) (o : Option Slot) → ((y : Double) → Offer j i m y → ⊥) → Status i m j o → Status i (suc m) j o
  still i m j o no_such =
      widened i m i (suc m) j o (λ a b l. sooner-wide l)
      (λ a b y l f.
      ⊎_elim (λ (h : Sooner a b i m). h) (λ (h : (a ≡ i) × (b ≡ m)). absurd (no_such y (moved h f))) (sooner-more l))

  -- with no more pieces from i
  later :
      (i m j : ℕ) (o : Option Slot) → ((k : ℕ) (y : Double) → m ≤ k → Offer j i k y → ⊥) → Status i m j o → Status (suc i) 0 j o
  later i m j o no_such =
      widened i m (suc i) 0 j o (λ a b l. sooner-start l)
      (λ a b y l f.
      ⊎_elim (λ (h : a < i). inl h)
      (λ (h : i ≤ a).
      let e : a ≡ i = let q = sooner-below l in omega arith in
      ⊎_elim (λ (q : b < m). inr (e, q)) (λ (q : m ≤ b). absurd (no_such b y q (moved (e, refl) f))) (below_or b m))
      (below_or a i))

  module _ (i j m : ℕ) (x : Double) (p : Piece) (stands : stands_at rule i ≡ Some x) (is : nth (rule.pieces i j) m ≡ Some p) where
    abbrev cand : Double
    cand = sum x p.score

    -- piece m from i has one sum
    one-sum : (y : Double) → Offer j i m y → y ≡ cand
    one-sum y f =
        let a : f.till ≡ x = some_same (sym f.stands ∙ stands) in
        let b : f.piece ≡ p = some_same (sym f.is ∙ is) in
        sym f.sums ∙ ap (λ (z : Double). sum z f.piece.score) a ∙ ap (λ (q : Piece). sum x q.score) b

    module _ (counts : T (rule.counts cand)) where
      abbrev here : Offer j i m cand
      here = record { till = x; stands = stands; piece = p; is = is; sums = refl; counts = counts }

      at_here : (r : Slot) → ((a b : ℕ) (y : Double) → Sooner a b i m → Offer j a b y → T (at_most y r.score)) → T (at_most cand r.score) → (a b : ℕ) (y : Double) → Sooner a b i (suc m) → Offer j a b y → T (at_most y r.score)
      at_here r all most a b y l f =
          ⊎_elim (λ (h : Sooner a b i m). all a b y h f)
          (λ (h : (a ≡ i) × (b ≡ m)). subst (λ (z : Double). T (at_most z r.score)) (sym (one-sum y (moved h f))) most)
          (sooner-more l)

      -- it stands, where all before it are strictly less
      fresh : ((a b : ℕ) (y : Double) → Sooner a b i m → Offer j a b y → T (less y cand)) → Standing i (suc m) j (candidate x i p)
      unfolding candidate
      fresh all =
          record {
            place = m;
            offer = here;
            named = refl;
            below = inr (refl, omega arith);
            greatest = at_here (candidate x i p) (λ a b y l f. less-at-most y cand (all a b y l f)) (at-most-refl cand (g.number cand counts));
            earlier = all;
          }

      -- offered to a full record
      weigh : (r : Slot) → Standing i m j r → (t : Bool) → less r.score cand ≡ t → (q : Slot) × (offered (Some r) (candidate x i p) ≡ q) × Standing i (suc m) j q
      unfolding candidate
      weigh r s true h =
          (candidate x i p, takes r (candidate x i p) h, fresh (λ a b y l f. at-most-less-trans y r.score cand (s.greatest a b y l f) (of-true h)))
      weigh r s false h = (
        r,
        keeps r (candidate x i p) h,
        kept s (sooner-wide s.below)
            (at_here r s.greatest
            (not-less-at-most r.score cand (g.number r.score s.offer.counts) (g.number cand counts) (of-false h))),
      )

      offers : (o : Option Slot) → Status i m j o → Status i (suc m) j (Some (offered o (candidate x i p)))
      unfolding offered
      offers o (inl w) =
          inr (candidate x i p, ap (λ (u : Option Slot). Some (offered u (candidate x i p))) w.0, fresh (λ a b y l f. absurd (w.1 a b y l f)))
      offers o (inr w) =
          let v = weigh w.0 w.2 (less w.0.score cand) refl in
          inr (v.0, ap (λ (u : Option Slot). Some (offered u (candidate x i p))) w.1 ∙ ap Some v.1, v.2)

    -- piece m from i is offered where its sum counts
    turn : (o : Option Slot) → Status i m j o → (t : Bool) → rule.counts cand ≡ t → Status i (suc m) j (cond t (Some (offered o (candidate x i p))) o)
    turn o s true e = offers (of-true e) o s
    turn o s false e = still i m j o (λ y f. not-both (rule.counts y) f.counts (subst (λ (z : Double). T (not (rule.counts z))) (sym (one-sum y f)) (of-false e))) s

  -- the pieces from i that are left
  turns :
      (i j : ℕ) (x : Double) → stands_at rule i ≡ Some x → (m : ℕ) (ps : List Piece) (o : Option Slot) → ((k : ℕ) → nth (rule.pieces i j) (m + k) ≡ nth ps k)
      → Status i m j o → Status (suc i) 0 j (offered_all rule.counts (Some x) i ps o)
  unfolding offered_all candidate nth
  turns i j x e m [] o rest s =
      later i m j o
      (λ k y l f.
      let there : m + (k - m) ≡ k = omega arith in
      none-some (sym (rest (k - m)) ∙ ap (nth (rule.pieces i j)) there ∙ f.is))
      s
  turns i j x e m (p ∷ ps) o rest s =
      turns i j x e (suc m) ps (cond (rule.counts (sum x p.score)) (Some (offered o (candidate x i p))) o)
      (λ k. ap (nth (rule.pieces i j)) (let z : suc m + k ≡ m + suc k = omega arith in z) ∙ rest (suc k))
      (turn i j m x p e (ap (nth (rule.pieces i j)) (let z : m ≡ m + 0 = omega arith in z) ∙ rest 0) o s (rule.counts (sum x p.score)) refl)

  pub status : (from j : ℕ) → Status from 0 j (best rule from j)
  status zero j = inl (none_before rule j, λ i k y l f. absurd (let h = sooner-below l in omega arith))
  status (suc i) j =
      ⊎_elim
      (λ (e : stands_at rule i ≡ None).
      subst (Status (suc i) 0 j) (sym (passed rule i j e)) (later i 0 j (best rule i j) (λ k y l f. none-some (sym e ∙ f.stands)) (status i j)))
      (λ (w : (x : Double) × (stands_at rule i ≡ Some x)).
      subst (Status (suc i) 0 j) (sym (worked rule i j w.0 w.1))
      (turns i j w.0 w.1 0 (rule.pieces i j) (best rule i j) (λ k. ap (nth (rule.pieces i j)) (zero-add k)) (status i j)))
      (looked (stands_at rule i))

  -- ---- positions that are reached

  pub stood : (from j : ℕ) (r : Slot) → best rule from j ≡ Some r → Standing from 0 j r
  stood from j r e = ⊎_elim (λ v. absurd (none-some (sym v.0 ∙ e))) (λ v. subst (Standing from 0 j) (some_same (sym v.1 ∙ e)) v.2) (status from j)

  -- a position after the first has a record where something stands
  pub filled : (j : ℕ) (x : Double) → 0 < j → stands_at rule j ≡ Some x → (r : Slot) × (best rule j j ≡ Some r) × (r.score ≡ x) × Standing j 0 j r
  filled j x l e = let w = record-stands rule j x l e in (w.0, w.1, w.2, stood j j w.0 w.1)

  -- what stands counts
  pub stands-counts : (j : ℕ) (x : Double) → stands_at rule j ≡ Some x → T (rule.counts x)
  stands-counts zero x e = subst (λ (z : Double). T (rule.counts z)) (some_same (sym (stands-first rule) ∙ e)) g.zero-counts
  stands-counts (suc j) x e = let w = filled (suc j) x (omega arith) e in subst (λ (z : Double). T (rule.counts z)) w.2 w.3.offer.counts

  -- and something stands where a piece is offered
  pub taken_in : (j i k : ℕ) (y : Double) → Offer j i k y → (r : Slot) × (best rule j j ≡ Some r) × T (at_most y r.score)
  taken_in j i k y f =
      let l : Sooner i k j 0 = inl (g.forward i j k f.piece f.is) in
      ⊎_elim (λ v. absurd (v.1 i k y l f)) (λ v. (v.0, v.1, v.2.greatest i k y l f)) (status j j)

  -- ---- the law

  -- where a cutting's sum counts something stands, and it is at least that sum
  pub at-most-best : {j : ℕ} (c : Cutting rule j) → T (rule.counts (total c)) → (x : Double) × (stands_at rule j ≡ Some x) × T (at_most (total c) x)
  unfolding total
  at-most-best empty t = (plus_zero, stands-first rule, at-most-refl plus_zero zero_number)
  at-most-best (then {i = i} c j k p e) t =
      let finite = g.finite i j k p e in
      let w = at-most-best c (g.back (total c) p.score finite t) in
      let more : T (at_most (sum (total c) p.score) (sum w.0 p.score)) = sum_mono (total c) w.0 p.score finite w.2 in
      let y = sum w.0 p.score in
      let f : Offer j i k y = record { till = w.0; stands = w.1; piece = p; is = e; sums = refl; counts = g.up (sum (total c) p.score) y t more } in
      let v = taken_in j i k y f in
      let l : i < j = g.forward i j k p e in
      (v.0.score, stands-record rule j v.0 (omega arith) v.1, at-most-trans (sum (total c) p.score) y v.0.score more v.2)

  -- and some cutting has just that sum
  pub attained : (n j : ℕ) (x : Double) → j ≤ n → stands_at rule j ≡ Some x → (c : Cutting rule j) × (total c ≡ x)
  unfolding total
  attained zero zero x l e = (empty, some_same (sym (stands-first rule) ∙ e))
  attained (suc n) zero x l e = (empty, some_same (sym (stands-first rule) ∙ e))
  attained zero (suc j) x l e = absurd (omega arith)
  attained (suc n) (suc j) x l e =
      let w = filled (suc j) x (omega arith) e in
      let s = w.3 in
      let f = s.offer in
      let v = attained n w.0.start f.till (let h = sooner-below s.below in omega arith) f.stands in
      (then v.0 (suc j) s.place f.piece f.is, ap (λ (z : Double). sum z f.piece.score) v.1 ∙ f.sums ∙ w.2)

  -- no sum of pieces fails to be a number
  pub total-number : {j : ℕ} (c : Cutting rule j) → T (is_number (total c))
  unfolding total
  total-number empty = zero_number
  total-number (then {i = i} c j k p e) = sum_number (total c) p.score (total-number c) (g.finite i j k p e)

  -- The record at j "holds the greatest left-to-right rounded sum of any allowed cutting before it, names the last piece of
  -- such a cutting (the earliest start among equals)".
  pub is-best : (j : ℕ) (r : Slot) → best rule j j ≡ Some r → Best rule j r
  unfolding total
  is-best j r full =
      record {
        greatest = λ c. most c (rule.counts (total c)) refl;
        reached = record { before = v.0; place = s.place; last = f.piece; is = f.is };
        named = s.named;
        scored = ap (λ (z : Double). sum z f.piece.score) v.1 ∙ f.sums;
        earliest = λ i t e. not-sooner i t e (below_or r.start i) (below_or t.place s.place);
      }
    where
      s : Standing j 0 j r
      s = stood j j r full

      f : Offer j r.start s.place r.score
      f = s.offer

      v : (c : Cutting rule r.start) × (total c ≡ f.till)
      v = attained r.start r.start f.till (omega arith) f.stands

      positive : 0 < j
      positive = let h : r.start < j = sooner-below s.below in omega arith

      most : (c : Cutting rule j) (t : Bool) → rule.counts (total c) ≡ t → T (at_most (total c) r.score)
      most c true e =
          let w = at-most-best c (of-true e) in
          subst (λ (z : Double). T (at_most (total c) z)) (some_same (sym w.1 ∙ stands-record rule j r positive full)) w.2
      most c false e =
          not-less-at-most r.score (total c) (g.number r.score f.counts) (total-number c)
          (none_true (less r.score (total c)) (λ h. not-both (rule.counts (total c)) (g.up r.score (total c) f.counts (less-at-most r.score (total c) h)) (of-false e)))

      -- what was offered sooner has less
      too-soon : (i : ℕ) (t : Through rule i j) → T (same (total (whole t)) r.score) → Sooner i t.place r.start s.place → ⊥
      too-soon i t e l =
          let c = t.before in
          let p = t.last in
          let finite = g.finite i j t.place p t.is in
          let whole-counts : T (rule.counts (sum (total c) p.score)) = g.up r.score (sum (total c) p.score) f.counts (same-at-most (sum (total c) p.score) r.score (total-number (whole t)) (g.number r.score f.counts) e) in
          let w = at-most-best c (g.back (total c) p.score finite whole-counts) in
          let y = sum w.0 p.score in
          let more : T (at_most (sum (total c) p.score) y) = sum_mono (total c) w.0 p.score finite w.2 in
          let q : Offer j i t.place y = record { till = w.0; stands = w.1; piece = p; is = t.is; sums = refl; counts = g.up (sum (total c) p.score) y whole-counts more } in
          same-less (sum (total c) p.score) r.score e (at-most-less-trans (sum (total c) p.score) y r.score more (s.earlier i t.place y l q))

      not-sooner :
          (i : ℕ) (t : Through rule i j) → T (same (total (whole t)) r.score) → (r.start < i) ⊎ (i ≤ r.start) → (t.place < s.place) ⊎ (s.place ≤ t.place)
          → (r.start < i) ⊎ ((r.start ≡ i) × (s.place ≤ t.place))
      not-sooner i t e (inl l) q = inl l
      not-sooner i t e (inr l) q =
          ⊎_elim (λ (h : i < r.start). absurd (too-soon i t e (inl h)))
          (λ (h : r.start ≤ i).
          let one : i ≡ r.start = omega arith in
          ⊎_elim (λ (k : t.place < s.place). absurd (too-soon i t e (inr (one, k)))) (λ (k : s.place ≤ t.place). inr (sym one, k)) q)
          (below_or i r.start)

-- ---- only one slot is the best

abbrev slot : ℕ → ℕ → Double → Slot
slot start id score = record { start = start; id = id; score = score }

pub same-slot : (a b : Slot) → a.start ≡ b.start → a.id ≡ b.id → a.score ≡ b.score → a ≡ b
same-slot a b p q r =
    ap (λ (x : ℕ). slot x a.id a.score) p
    ∙ ap (λ (x : ℕ). slot b.start x a.score) q
    ∙ ap (λ (x : Double). slot b.start b.id x) r

-- each at most as late as the other
meet : (i j k m : ℕ) → (i < j) ⊎ ((i ≡ j) × (k ≤ m)) → (j < i) ⊎ ((j ≡ i) × (m ≤ k)) → (i ≡ j) × (k ≡ m)
meet i j k m (inl l) (inl h) = absurd (omega arith)
meet i j k m (inl l) (inr h) = absurd (let e = h.0 in omega arith)
meet i j k m (inr l) (inl h) = absurd (let e = l.0 in omega arith)
meet i j k m (inr l) (inr h) = (l.0, let a = l.1 in let b = h.1 in omega arith)

module _ {rule : Rule} where
  -- sums from +0 are never -0
  pub total-not-minus : {j : ℕ} (c : Cutting rule j) → total c ≡ finite true 0 → ⊥
  unfolding total
  total-not-minus empty = zero-plus
  total-not-minus (then c j k p e) = never-minus-zero (total c) p.score (total-not-minus c)

  pub only-best : (j : ℕ) (a b : Slot) → Best rule j a → Best rule j b → a ≡ b
  only-best j a b p q =
      let ca = whole p.reached in
      let cb = whole q.reached in
      let most : T (at_most a.score b.score) = subst (λ (x : Double). T (at_most x b.score)) p.scored (q.greatest ca) in
      let least : T (at_most b.score a.score) = subst (λ (x : Double). T (at_most x a.score)) q.scored (p.greatest cb) in
      let one : T (same a.score b.score) = at-most-antisymm a.score b.score most least in
      let other : T (same b.score a.score) = at-most-antisymm b.score a.score least most in
      let first = p.earliest b.start q.reached (subst (λ (x : Double). T (same x a.score)) (sym q.scored) other) in
      let second = q.earliest a.start p.reached (subst (λ (x : Double). T (same x b.score)) (sym p.scored) one) in
      let both_ways = meet a.start b.start p.reached.place q.reached.place first second in
      let starts = both_ways.0 in
      let scores : a.score ≡ b.score =
      same-equal a.score b.score (λ e. total-not-minus ca (p.scored ∙ e)) (λ e. total-not-minus cb (q.scored ∙ e)) one
      in
      let pieces : p.reached.last ≡ q.reached.last = some_same (sym p.reached.is ∙ ap (λ (i : ℕ). nth (rule.pieces i j) p.reached.place) starts ∙ ap (nth (rule.pieces b.start j)) both_ways.1 ∙ q.reached.is) in
      same-slot a b starts (sym p.named ∙ ap (λ (x : Piece). x.id) pieces ∙ q.named) scores
