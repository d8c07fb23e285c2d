-- The records followed back from where something stands are a cutting of the text before it: a chain of pieces from 0 that ends
-- there, with the record's score, that covers every byte once and has no more pieces than characters. Each is an induction on
-- how many records are followed; the piece that a record names comes after those of the record where it starts. Assumes
-- nothing.
use Rattle.std.specs.Prelude.{Option, None, Some}
use mathlib.Core.Path.{◌≡◌, refl, sym, ap, subst, ◌∙◌}
use mathlib.Core.List.{List, [], ◌∷◌, ◌++◌, map}
use Prim.Native.Nat.{ℕ, zero, suc, ◌+◌, ◌-◌, ◌≤◌, ◌<◌}
use native.Mathlib.Omega.{arith}
use lib.ListN.{length, take, drop, length-append}
use lib.Seq.{take-add, drop-drop}
use Rattle.doubles.specs.Double.{Double, plus_zero, sum}
use Rattle.cutting.specs.Cuttings.{Piece, Rule, Slot, Step, nth, Chain, added, joined}
use Rattle.cutting.specs.Records.{best, followed}
use Rattle.cutting.specs.Tracing.{Ends, no_more, and_then}
use Rattle.cutting.proofs.Working.{Pieces, stands_at, some_same, none_before, stands-first, stands-record}
use Rattle.cutting.proofs.Best.{Standing, sooner-below, filled}

-- a piece as the path has it
abbrev pub piece-to : ℕ → ℕ → Step
piece-to end id = record { end = end; id = id }

pub map_more {ℓ κ} : {A : Type ℓ} {B : Type κ} (f : A → B) (xs : List A) (x : A) → map f (xs ++ (x ∷ [])) ≡ map f xs ++ (f x ∷ [])
map_more f [] x = refl
map_more f (y ∷ xs) x = ap (λ l. f y ∷ l) (map_more f xs x)

-- ---- one piece more at the end

chain_more :
    (rule : Rule) (at i j k : ℕ) (es : List Step) (ps : List Piece) (p : Piece) (id : ℕ) → Chain rule at es i ps
    → nth (rule.pieces i j) k ≡ Some p → p.id ≡ id → Chain rule at (es ++ (piece-to j id ∷ [])) j (ps ++ (p ∷ []))
chain_more rule at i j k [] [] p id c e named =
    (k, subst (λ (n : ℕ). nth (rule.pieces n j) k ≡ Some p) (sym c) e, named, refl)
chain_more rule at i j k [] (q ∷ ps) p id c e named = absurd c
chain_more rule at i j k (s ∷ es) [] p id c e named = absurd c
chain_more rule at i j k (s ∷ es) (q ∷ ps) p id c e named =
    (c.0, c.1, c.2, chain_more rule s.end i j k es ps p id c.3 e named)

-- its score is added last
added_more : (x : Double) (ps : List Piece) (p : Piece) → added x (ps ++ (p ∷ [])) ≡ sum (added x ps) p.score
unfolding added
added_more x [] p = refl
added_more x (q ∷ ps) p = added_more (sum x q.score) ps p

module _ {end : ℕ} {rule : Rule} (g : Pieces end rule) where
  -- a chain goes forward, and its pieces joined are the text between its ends
  chain-forward : (at j : ℕ) (es : List Step) (ps : List Piece) → Chain rule at es j ps → at ≤ j
  chain-forward at j [] [] c = omega (arith, c)
  chain-forward at j [] (p ∷ ps) c = absurd c
  chain-forward at j (e ∷ es) [] c = absurd c
  chain-forward at j (e ∷ es) (p ∷ ps) c =
      omega (arith, g.forward at e.end c.0 p c.1, chain-forward e.end j es ps c.3)

  chain-joined :
      (s : List ℕ) (at j : ℕ) (es : List Step) (ps : List Piece) → Chain rule at es j ps
      → joined s at es ≡ take (j - at) (drop at s)
  unfolding joined
  chain-joined s at j [] [] c = ap (λ (n : ℕ). take n (drop at s)) (let e : 0 ≡ j - at = omega (arith, c) in e)
  chain-joined s at j [] (p ∷ ps) c = absurd c
  chain-joined s at j (e ∷ es) [] c = absurd c
  chain-joined s at j (e ∷ es) (p ∷ ps) c =
      let k = e.end in
      let one : at < k = g.forward at k c.0 p c.1 in
      let two : k ≤ j = chain-forward k j es ps c.3 in
      let all : (k - at) + (j - k) ≡ j - at = omega arith in
      let there : at + (k - at) ≡ k = omega arith in
      ap (λ (u : List ℕ). take (k - at) (drop at s) ++ u)
      (chain-joined s k j es ps c.3
      ∙ ap (λ (n : ℕ). take (j - k) (drop n s)) (sym there)
      ∙ ap (take (j - k)) (sym (drop-drop (k - at) at s)))
      ∙ sym (take-add (k - at) (j - k) (drop at s))
      ∙ ap (λ (n : ℕ). take n (drop at s)) all

  -- the ends of a chain rise, and lie inside
  pub chain-ends :
      (at j : ℕ) (es : List Step) (ps : List Piece) → Chain rule at es j ps → Ends end at (map (λ e. e.end) es)
  chain-ends at j [] ps c = no_more
  chain-ends at j (e ∷ es) [] c = absurd c
  chain-ends at j (e ∷ es) (p ∷ ps) c =
      and_then (g.forward at e.end c.0 p c.1) (g.inside at e.end c.0 p c.1)
      (chain-ends e.end j es ps c.3)

  -- ---- following back

  -- at 0 there is nothing more, and before it the record's piece
  pub followed-first : (n : ℕ) → followed rule n 0 ≡ []
  unfolding followed
  followed-first zero = refl
  followed-first (suc n) =
      ap (λ (o : Option Slot). elim o [ None ↦ [] | Some r ↦ followed rule n r.start ++ (piece-to 0 r.id ∷ []) ]) (none_before rule 0)

  pub followed-more : (n j : ℕ) (r : Slot) → best rule j j ≡ Some r → followed rule (suc n) j ≡ followed rule n r.start ++ (piece-to j r.id ∷ [])
  unfolding followed
  followed-more n j r e =
      ap (λ (o : Option Slot). elim o [ None ↦ [] | Some q ↦ followed rule n q.start ++ (piece-to j q.id ∷ []) ]) e

  -- What holds of no pieces, and of one piece more that a record names, holds of the records followed back from where something
  -- stands.
  abbrev Back : (List Step → ℕ → Type 0) → Type 0
  Back Q = (j : ℕ) (es : List Step) (r : Slot) → 0 < j → best rule j j ≡ Some r → Standing g j 0 j r → Q es r.start → Q (es ++ (piece-to j r.id ∷ [])) j

  back : (Q : List Step → ℕ → Type 0) → Q [] 0 → Back Q → (n j : ℕ) (x : Double) → j ≤ n → stands_at rule j ≡ Some x → Q (followed rule n j) j
  back Q none_yet more zero zero x l at = subst (λ (es : List Step). Q es 0) (sym (followed-first 0)) none_yet
  back Q none_yet more (suc n) zero x l at = subst (λ (es : List Step). Q es 0) (sym (followed-first (suc n))) none_yet
  back Q none_yet more zero (suc j) x l at = absurd (omega arith)
  back Q none_yet more (suc n) (suc j) x l at =
      let w = filled g (suc j) x (omega arith) at in
      let r = w.0 in
      let s = w.3 in
      subst (λ (es : List Step). Q es (suc j)) (sym (followed-more n (suc j) r w.1))
      (more (suc j) (followed rule n r.start) r (omega arith) w.1 s (back Q none_yet more n r.start s.offer.till (let h = sooner-below s.below in omega arith) s.offer.stands))

  -- steps from 0 up to j whose pieces have the sum y
  abbrev Chained : List Step → ℕ → Double → Type 0
  Chained es j y = (ps : List Piece) × Chain rule 0 es j ps × (added plus_zero ps ≡ y)

  -- they are a chain of pieces from 0, with the sum that stands there
  pub chained : (n j : ℕ) (x : Double) → j ≤ n → stands_at rule j ≡ Some x → Chained (followed rule n j) j x
  unfolding added
  chained n j x l at =
      back (λ es j. (y : Double) → stands_at rule j ≡ Some y → Chained es j y)
      (λ y e. ([], refl, some_same (sym (stands-first rule) ∙ e)))
      (λ j es r l full s c y e.
      let f = s.offer in
      let v = c f.till f.stands in (
        v.0 ++ (f.piece ∷ []),
        chain_more rule 0 r.start j s.place es v.0 f.piece r.id v.1 f.is s.named,
        added_more plus_zero v.0 f.piece
            ∙ ap (λ (z : Double). sum z f.piece.score) v.2
            ∙ f.sums
            ∙ some_same (sym (stands-record rule j r l full) ∙ e),
      ))
      n j x l at x at

  -- joined they are the text before j: they cover every byte once
  pub covers : (s : List ℕ) (n j : ℕ) (x : Double) → j ≤ n → stands_at rule j ≡ Some x → joined s 0 (followed rule n j) ≡ take j s
  covers s n j x l at =
      let v = chained n j x l at in
      chain-joined s 0 j (followed rule n j) v.0 v.1
      ∙ ap (λ (k : ℕ). take k s) (let e : j - 0 ≡ j = omega arith in e)

  -- They are no more than what rises with each piece, as the number of characters does.
  pub few : (rank : ℕ → ℕ) → ((i j k : ℕ) (p : Piece) → nth (rule.pieces i j) k ≡ Some p → rank i < rank j) → (n j : ℕ) (x : Double) → j ≤ n → stands_at rule j ≡ Some x → length (followed rule n j) ≤ rank j
  few rank rises =
      back (λ es j. length es ≤ rank j) (omega arith)
      (λ j es r l full s c.
      omega (arith, length-append es (piece-to j r.id ∷ []), rises r.start j s.place s.offer.piece s.offer.is))
