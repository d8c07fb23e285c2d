-- What stands once all starts have been worked. Columns that hold the records place by place are the columns of `slots_left`;
-- the path that they give is that of the best cutting's pieces; and the laws of the records hold of the slots, which is demand
-- 3. Assumes nothing.
use Rattle.std.specs.Prelude.{None, Some}
use mathlib.Core.Path.{◌≡◌, refl, sym, ap, subst, ◌∙◌}
use mathlib.Core.List.{List, [], ◌∷◌, ◌++◌, map}
use mathlib.Core.Logic.{⊎_elim}
use Prim.Native.Nat.{ℕ, zero, suc, ◌+◌, ◌-◌, ◌≤◌, ◌<◌}
use native.Mathlib.Nat.{add-zero}
use native.Mathlib.Omega.{arith}
use lib.ListN.{length, get_or, drop, length-map, get_or-append}
use lib.Seq.{ext_get_or, length_front, length-take-le, get_or-append-add, get_or-drop, take-length}
use Rattle.doubles.specs.Double.{Double, plus_zero}
use Rattle.refusal.specs.Sizes.{no_id, max_text}
use Rattle.refusal.specs.Places.{overlay}
use Rattle.cutting.specs.Cuttings.{Rule, Slot, Best, Step}
use Rattle.cutting.specs.Records.{best, shown, records_from, followed}
use Rattle.cutting.specs.Slots.{Slots, slot_at}
use Rattle.cutting.specs.Tracing.{followed_in, ends_from, steps_at, Ends, Falling}
use Rattle.cutting.specs.Law.{Recorded, best_pieces, slots_left, path_left, RecordLaw}
use Rattle.refusal.proofs.Lists.{below_or, map-inside}
use Rattle.cutting.proofs.Working.{Pieces, stands_at, settled-le}
use Rattle.cutting.proofs.Best.{sooner-below, filled, is-best}
use Rattle.cutting.proofs.Following.{piece-to, map_more, followed-first, followed-more, chained, chain-ends, covers}
use Rattle.cutting.proofs.Tracing.{falling}

-- ---- the records as a list

module _ (rule : Rule) where
  length-records : (j n : ℕ) → length (records_from rule j n) ≡ n
  unfolding records_from
  length-records j zero = refl
  length-records j (suc n) = ap suc (length-records (suc j) n)

  record-at : (j n k : ℕ) (d : Slot) → k < n → get_or (records_from rule j n) k d ≡ shown (best rule (j + k) (j + k))
  unfolding records_from
  record-at j zero k d l = absurd (omega arith)
  record-at j (suc n) zero d l = ap (λ (i : ℕ). shown (best rule i i)) (sym (add-zero j))
  record-at j (suc n) (suc k) d l =
      record-at (suc j) n k d (omega arith) ∙ ap (λ (i : ℕ). shown (best rule i i)) (let e : suc j + k ≡ j + suc k = omega arith in e)

-- ---- whole columns

-- a column that holds f of the records in front, and after them what it held before
column-whole :
    {A : Type 0} (f : Slot → A) (d : A) (rs : List Slot) (before after : List A) → length after ≡ length before → length rs ≤ length before
    → ((k : ℕ) → k < length rs → get_or after k d ≡ f (get_or rs k (shown None)))
    → ((k : ℕ) → length rs ≤ k → get_or after k d ≡ get_or before k d)
    → after ≡ overlay (map f rs) before
column-whole f d rs before after level fits low high =
    let n = length (map f rs) in
    let many : n ≡ length rs = length-map rs f in
    ext_get_or d after (overlay (map f rs) before)
    (level ∙ sym (length_front before (map f rs) n (sym (length-take-le n before (omega arith)))))
    (λ k l.
    ⊎_elim
    (λ (h : k < length rs).
    low k h ∙ sym (get_or-append (map f rs) (drop n before) d k (omega arith) ∙ map-inside f rs k (shown None) d h))
    (λ (h : length rs ≤ k).
    let there : n + (k - n) ≡ k = omega arith in
    high k h
    ∙ ap (λ (j : ℕ). get_or before j d) (sym there)
    ∙ sym (get_or-drop n before (k - n) d)
    ∙ sym (get_or-append-add (map f rs) (drop n before) (k - n) d)
    ∙ ap (λ (j : ℕ). get_or (overlay (map f rs) before) j d) there)
    (below_or k (length rs)))

-- three columns, each as long as the other's
pub record Level (b a : Slots) : Type 0 where
  pub start : length a.start ≡ length b.start
  pub id : length a.id ≡ length b.id
  pub score : length a.score ≡ length b.score

-- each has a place n
pub record Reaching (n : ℕ) (b : Slots) : Type 0 where
  pub start : n < length b.start
  pub id : n < length b.id
  pub score : n < length b.score

slots-of : List ℕ → List ℕ → List Double → Slots
slots-of x y z = record { start = x; id = y; score = z }

same-slots : (a b : Slots) → a.start ≡ b.start → a.id ≡ b.id → a.score ≡ b.score → a ≡ b
unfolding slots-of
same-slots a b x y z =
    ap (λ (u : List ℕ). slots-of u a.id a.score) x
    ∙ ap (λ (u : List ℕ). slots-of b.start u a.score) y
    ∙ ap (λ (u : List Double). slots-of b.start b.id u) z

-- ---- the slots followed back

-- the ends are those by the start column, and the ids those of the id column
module _ (c : Slots) where
  ends-in : (n j : ℕ) → ends_from c.start n j ≡ map (λ e. e.end) (followed_in c n j)
  unfolding ends_from followed_in slot_at
  ends-in zero j = refl
  ends-in (suc n) zero = refl
  ends-in (suc n) (suc j) =
      let i = get_or c.start (suc j) no_id in
      ap (λ (es : List ℕ). es ++ (suc j ∷ [])) (ends-in n i)
      ∙ sym (map_more (λ e. e.end) (followed_in c n i) (piece-to (suc j) (get_or c.id (suc j) no_id)))

  steps-in : (n j : ℕ) → steps_at c.id (map (λ e. e.end) (followed_in c n j)) ≡ followed_in c n j
  unfolding followed_in slot_at
  steps-in zero j = refl
  steps-in (suc n) zero = refl
  steps-in (suc n) (suc j) =
      let es = followed_in c n (get_or c.start (suc j) no_id) in
      ap (steps_at c.id) (map_more (λ e. e.end) es (piece-to (suc j) (get_or c.id (suc j) no_id)))
      ∙ map_more (λ e. piece-to e (get_or c.id e no_id)) (map (λ e. e.end) es) (suc j)
      ∙ ap (λ (u : List Step). u ++ (piece-to (suc j) (get_or c.id (suc j) no_id) ∷ []))
      (steps-in n (get_or c.start (suc j) no_id))

-- slots that hold the records, followed back, give the records' pieces
module _
    {end : ℕ} {rule : Rule} (g : Pieces end rule) (c : Slots)
    (holds : (j : ℕ) → 0 < j → j ≤ end → slot_at c j ≡ shown (best rule j j))
  where
    slots-followed :
        (n j : ℕ) (x : Double) → j ≤ n → j ≤ end → stands_at rule j ≡ Some x → followed_in c n j ≡ followed rule n j
    unfolding followed_in shown
    slots-followed zero zero x l inside at = sym (followed-first g 0)
    slots-followed (suc n) zero x l inside at = sym (followed-first g (suc n))
    slots-followed zero (suc j) x l inside at = absurd (omega arith)
    slots-followed (suc n) (suc j) x l inside at =
        let w = filled g (suc j) x (omega arith) at in
        let r = w.0 in
        let s = w.3 in
        let h : r.start < suc j = sooner-below s.below in
        let slot : slot_at c (suc j) ≡ r = holds (suc j) (omega arith) inside ∙ ap shown w.1 in
        ap (λ (q : Slot). followed_in c n q.start ++ (piece-to (suc j) q.id ∷ [])) slot
        ∙ ap (λ (es : List Step). es ++ (piece-to (suc j) r.id ∷ []))
        (slots-followed n r.start s.offer.till (omega arith) (omega arith) s.offer.stands)
        ∙ sym (followed-more g n (suc j) r w.1)

-- ---- columns that hold the records

module _ {end : ℕ} {rule : Rule} (g : Pieces end rule) {come : ℕ → Type 0} {b a : Slots} (r : Recorded rule come end end b a) where
  -- every slot up to the end holds its record
  pub slot-holds : (j : ℕ) → j ≤ end → slot_at a j ≡ shown (best rule j j)
  slot-holds j l = r.holds.slots j l ∙ ap shown (settled-le g end j l)

  start-holds : (j : ℕ) → j ≤ end → get_or a.start j no_id ≡ (shown (best rule j j)).start
  unfolding slot_at
  start-holds j l = ap (λ (q : Slot). q.start) (slot-holds j l)

  column-is : {A : Type 0} (f : Slot → A) (d : A) (before after : List A) → length after ≡ length before → end < length before → ((k : ℕ) → get_or after k d ≡ f (slot_at a k)) → ((k : ℕ) → get_or before k d ≡ f (slot_at b k)) → after ≡ overlay (map f (records_from rule 0 (end + 1))) before
  column-is f d before after level fits now was =
      let many = length-records rule 0 (end + 1) in
      column-whole f d (records_from rule 0 (end + 1)) before after level (omega arith)
      (λ k l.
      let there : shown (best rule (0 + k) (0 + k)) ≡ shown (best rule k k) =
      ap (λ (i : ℕ). shown (best rule i i)) (let e : 0 + k ≡ k = omega arith in e)
      in
      now k ∙ ap f (slot-holds k (omega arith) ∙ sym (record-at rule 0 (end + 1) k (shown None) (omega arith) ∙ there)))
      (λ k l. now k ∙ ap f (r.past k (omega arith)) ∙ sym (was k))

  pub slots-are : Level b a → Reaching end b → a ≡ slots_left rule end b
  unfolding slots_left slot_at
  slots-are level fits =
      same-slots a (slots_left rule end b) (column-is (λ q. q.start) no_id b.start a.start level.start fits.start (λ k. refl) (λ k. refl))
      (column-is (λ q. q.id) no_id b.id a.id level.id fits.id (λ k. refl) (λ k. refl))
      (column-is (λ q. q.score) plus_zero b.score a.score level.score fits.score (λ k. refl) (λ k. refl))

  -- ---- the path

  module _ (x : Double) (at-end : stands_at rule end ≡ Some x) where
    pub falls : end < length a.start → end ≤ max_text → Falling a.start end
    falls inside size = falling g a.start start-holds x inside size at-end

    pieces_are : followed_in a end end ≡ best_pieces rule end
    pieces_are = slots-followed g a (λ j l k. slot-holds j k) end end x (omega arith) (omega arith) at-end

    pub path-is : ends_from a.start end end ≡ map (λ e. e.end) (best_pieces rule end)
    path-is = ends-in a end end ∙ ap (map (λ (e : Step). e.end)) pieces_are

    pub ends-rise : Ends end 0 (map (λ e. e.end) (best_pieces rule end))
    ends-rise =
        let v = chained g end end x (omega arith) at-end in
        chain-ends g 0 end (best_pieces rule end) v.0 v.1

    pub steps-are : steps_at a.id (map (λ e. e.end) (best_pieces rule end)) ≡ best_pieces rule end
    steps-are =
        ap (λ (es : List Step). steps_at a.id (map (λ (e : Step). e.end) es)) (sym pieces_are)
        ∙ steps-in a end end
        ∙ pieces_are

    pub path-left : (before : List ℕ) {after : List ℕ} → after ≡ overlay (ends_from a.start end end) before → after ≡ path_left rule end before
    unfolding path_left
    path-left before t = t ∙ ap (λ (u : List ℕ). overlay u before) path-is

-- ---- demand 3

-- slots that hold the records meet the law of demand 3, where something stands at the end and wherever is come to
pub law-of :
    {come : ℕ → Type 0} {s : List ℕ} {rule : Rule} (g : Pieces (length s) rule) → ((j : ℕ) → j ≤ length s → come j → (x : Double) × (stands_at rule j ≡ Some x))
    → (x : Double) → stands_at rule (length s) ≡ Some x → {most : ℕ} → length (best_pieces rule (length s)) ≤ most → (after : Slots)
    → ((j : ℕ) → 0 < j → j ≤ length s → slot_at after j ≡ shown (best rule j j)) → RecordLaw rule come s most after
unfolding shown
law-of {come} {s} {rule} g reach x at-end few after holds =
    let n = length s in
    let all : n ≤ n = omega arith in
    let v = chained g n n x all at-end in
    record {
      best = λ j l inside t.
          let u = reach j inside t in
          let w = filled g j u.0 l u.1 in
          subst (Best rule j) (sym (holds j l inside ∙ ap shown w.1)) (is-best g j w.0 w.1);
      followed = slots-followed g after holds n n x all all at-end;
      pieces = v.0;
      chain = v.1;
      score = λ l.
          let w = filled g n x l at-end in
          v.2 ∙ sym w.2 ∙ sym (ap (λ (r : Slot). r.score) (holds n l all ∙ ap shown w.1));
      cover = covers g s n n x all at-end ∙ take-length s;
      few = few;
    }
