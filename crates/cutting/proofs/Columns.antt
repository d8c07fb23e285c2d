-- Slots in their columns: what a read reads, what stands after a store or an offer. Assumes nothing.
use Rattle.std.specs.Prelude.{None}
use mathlib.Core.Path.{◌≡◌, refl, sym, ap, subst, ◌∙◌}
use mathlib.Core.Bool.{Bool, true, false, cond}
use mathlib.Core.List.{List, map}
use mathlib.Core.Logic.{⊎_elim}
use Prim.Native.Nat.{ℕ, suc, ◌+◌, ◌≤◌, ◌<◌}
use native.Mathlib.Omega.{arith}
use borrow.Author.Tests.{eq-eqb, ne_eqb, eqb-true, eqb-false, lt-ltb, le-ltb, lt-leb, le-leb}
use lib.Dec.{eqb, ltb}
use lib.Ieee.{Float}
use lib.ListN.{length, get_or, set, length-map}
use lib.Seq.{get_or-set_same, get_or-set_other}
use Rattle.doubles.specs.Double.{Double, plus_zero, less}
use Rattle.doubles.specs.Units.{units}
use Rattle.refusal.specs.Sizes.{no_id}
use Rattle.cutting.specs.Cuttings.{Slot}
use Rattle.cutting.specs.Records.{shown}
use Rattle.cutting.specs.Slots.{Slots, slots_of, slot_at, Inside, PutAt, Cleared, taken}
use Rattle.refusal.proofs.Lists.{below_or, map-inside, place_inside, map-set}
use Rattle.cutting.proofs.Best.{same-slot}

-- ---- places

-- one place is written
set_at : {A : Type 0} (xs : List A) (j k : ℕ) (a d : A) → j < length xs → (t : Bool) → eqb k j ≡ t → get_or (set xs j a) k d ≡ cond t a (get_or xs k d)
set_at xs j k a d l true e = ap (λ (n : ℕ). get_or (set xs j a) n d) (eqb-true k j e) ∙ get_or-set_same xs j a d l
set_at xs j k a d l false e = get_or-set_other xs j k a d (λ same. eqb-false k j e same)

module _ (starts ids : List ℕ) (scores : List Float) (j : ℕ) (in_place : Inside starts ids scores j) where
  -- a read
  pub slot_read : (d e : ℕ) (f : Float) (r : Slot) → r.start ≡ get_or starts j d → r.id ≡ get_or ids j e → r.score ≡ units (get_or scores j f) → r ≡ slot_at (slots_of starts ids scores) j
  unfolding slot_at
  slot_read d e f r p q s =
      same-slot r (slot_at (slots_of starts ids scores) j) (p ∙ place_inside starts j d no_id in_place.start)
      (q ∙ place_inside ids j e no_id in_place.id)
      (s ∙ sym (map-inside units scores j f plus_zero in_place.score))

  -- a store
  pub slot-put : (q : Slot) (x y : ℕ) (z : Float) → q.start ≡ x → q.id ≡ y → q.score ≡ units z → PutAt (slots_of starts ids scores) j q (slots_of (set starts j x) (set ids j y) (set scores j z))
  unfolding slot_at
  slot-put q x y z p n s =
      record {
        slots = λ k.
            by-test k (eqb k j) refl;
      }
    where
      by-test : (k : ℕ) (t : Bool) → eqb k j ≡ t → slot_at (slots_of (set starts j x) (set ids j y) (set scores j z)) k ≡ cond (eqb k j) q (slot_at (slots_of starts ids scores) k)
      by-test k true e =
          same-slot (slot_at (slots_of (set starts j x) (set ids j y) (set scores j z)) k) q (set_at starts j k x no_id in_place.start true e ∙ sym p)
          (set_at ids j k y no_id in_place.id true e ∙ sym n)
          (ap (λ (l : List Double). get_or l k plus_zero) (map-set units scores j z) ∙ set_at (map units scores) j k (units z) plus_zero (omega (arith, in_place.score, length-map scores units)) true e ∙ sym s)
          ∙ sym (ap (λ (t : Bool). cond t q (slot_at (slots_of starts ids scores) k)) e)
      by-test k false e =
          same-slot (slot_at (slots_of (set starts j x) (set ids j y) (set scores j z)) k) (slot_at (slots_of starts ids scores) k) (set_at starts j k x no_id in_place.start false e)
          (set_at ids j k y no_id in_place.id false e)
          (ap (λ (l : List Double). get_or l k plus_zero) (map-set units scores j z) ∙ set_at (map units scores) j k (units z) plus_zero (omega (arith, in_place.score, length-map scores units)) false e)
          ∙ sym (ap (λ (t : Bool). cond t q (slot_at (slots_of starts ids scores) k)) e)

-- columns that keep their lengths have every place below too
pub inside-kept :
    {starts ids starts' ids' : List ℕ} {scores scores' : List Float} {i j : ℕ} → Inside starts ids scores j → i ≤ j
    → length starts' ≡ length starts → length ids' ≡ length ids → length scores' ≡ length scores → Inside starts' ids' scores' i
inside-kept s l a b c =
    record { start = omega (arith, s.start); id = omega (arith, s.id); score = omega (arith, s.score) }

-- the score of a slot
pub score-read : (starts ids : List ℕ) (scores : List Float) (j : ℕ) (d : Float) → j < length scores → units (get_or scores j d) ≡ (slot_at (slots_of starts ids scores) j).score
unfolding slot_at
score-read starts ids scores j d l = sym (map-inside units scores j d plus_zero l)

-- ---- offers

-- what is put may be called otherwise
pub put_as : {b a : Slots} {j : ℕ} {q r : Slot} → PutAt b j q a → q ≡ r → PutAt b j r a
put_as {b} {a} {j} p e = subst (λ x. PutAt b j x a) e p

-- nothing put is the slot put back
pub put_back : (b : Slots) (j : ℕ) {q : Slot} → slot_at b j ≡ q → PutAt b j q b
put_back b j {q} e = record { slots = λ k. by-test k (eqb k j) refl }
  where
    by-test : (k : ℕ) (t : Bool) → eqb k j ≡ t → slot_at b k ≡ cond (eqb k j) q (slot_at b k)
    by-test k true h = ap (slot_at b) (eqb-true k j h) ∙ e ∙ sym (ap (λ (t : Bool). cond t q (slot_at b k)) h)
    by-test k false h = sym (ap (λ (t : Bool). cond t q (slot_at b k)) h)

pub taken-empty : (r q : Slot) → r.start ≡ no_id → taken r q ≡ q
unfolding taken
taken-empty r q e = ap (λ (t : Bool). cond t q (cond (less r.score q.score) q r)) (eq-eqb r.start no_id e)

module _ (r q : Slot) (full : r.start ≡ no_id → ⊥) where
  pub taken-weighed : taken r q ≡ cond (less r.score q.score) q r
  unfolding taken
  taken-weighed = ap (λ (t : Bool). cond t q (cond (less r.score q.score) q r)) (ne_eqb r.start no_id full)

  pub taken-better : less r.score q.score ≡ true → taken r q ≡ q
  taken-better e = taken-weighed ∙ ap (λ (t : Bool). cond t q r) e

  pub taken-kept : less r.score q.score ≡ false → r ≡ taken r q
  taken-kept e = sym (taken-weighed ∙ ap (λ (t : Bool). cond t q r) e)

-- ---- slots filled from the front

-- the slots below n are f's, the others as they were before
pub record Filled (f : ℕ → Slot) (before : Slots) (n : ℕ) (now : Slots) : Type 0 where
  pub slots : (k : ℕ) → slot_at now k ≡ cond (ltb k n) (f k) (slot_at before k)

module _ {f : ℕ → Slot} {before : Slots} where
  -- below n
  pub filled-below : {n : ℕ} {now : Slots} → Filled f before n now → (k : ℕ) → k < n → slot_at now k ≡ f k
  filled-below {n} w k l = w.slots k ∙ ap (λ (t : Bool). cond t (f k) (slot_at before k)) (lt-ltb k n l)

  -- and from n on
  pub filled-above : {n : ℕ} {now : Slots} → Filled f before n now → (k : ℕ) → n ≤ k → slot_at now k ≡ slot_at before k
  filled-above {n} w k l = w.slots k ∙ ap (λ (t : Bool). cond t (f k) (slot_at before k)) (le-ltb k n l)

  pub filled_of : (n : ℕ) (now : Slots) → ((k : ℕ) → k < n → slot_at now k ≡ f k) → ((k : ℕ) → n ≤ k → slot_at now k ≡ slot_at before k) → Filled f before n now
  filled_of n now low high = record { slots = λ k. ⊎_elim (λ (l : k < n). low k l ∙ sym (ap (λ (t : Bool). cond t (f k) (slot_at before k)) (lt-ltb k n l))) (λ (l : n ≤ k). high k l ∙ sym (ap (λ (t : Bool). cond t (f k) (slot_at before k)) (le-ltb k n l))) (below_or k n) }

  -- one slot more
  pub filled_more : {n : ℕ} {now after : Slots} → Filled f before n now → PutAt now n (f n) after → Filled f before (n + 1) after
  filled_more {n} {now} {after} w p =
      filled_of (n + 1) after
      (λ k l.
      ⊎_elim (λ (h : k < n). elsewhere k (λ e. omega arith) ∙ filled-below w k h)
      (λ (h : n ≤ k). let e : k ≡ n = omega arith in p.slots k ∙ ap (λ (t : Bool). cond t (f n) (slot_at now k)) (eq-eqb k n e) ∙ ap f (sym e))
      (below_or k n))
      (λ k l. elsewhere k (λ e. omega arith) ∙ filled-above w k (omega arith))
    where
      elsewhere : (k : ℕ) → (k ≡ n → ⊥) → slot_at after k ≡ slot_at now k
      elsewhere k h = p.slots k ∙ ap (λ (t : Bool). cond t (f n) (slot_at now k)) (ne_eqb k n h)

-- the slots up to n are empty
pub cleared : {before now : Slots} {n j : ℕ} → n < j → j ≤ n + 1 → Filled (λ k. shown None) before j now → Cleared before n now
cleared {before} {now} {n} {j} l h w =
    record {
      slots = λ k.
          ⊎_elim (λ (p : k < suc n). filled-below w k (omega arith) ∙ sym (ap (λ (t : Bool). cond t (shown None) (slot_at before k)) (le-leb k n (omega arith))))
          (λ (p : suc n ≤ k). filled-above w k (omega arith) ∙ sym (ap (λ (t : Bool). cond t (shown None) (slot_at before k)) (lt-leb k n p)))
          (below_or k (suc n));
    }

-- the empty slot as the code writes it
pub empty-slot : (q : Slot) → q.start ≡ no_id → q.id ≡ no_id → q.score ≡ plus_zero → q ≡ shown None
unfolding shown
empty-slot q a b c = same-slot q (shown None) a b c
