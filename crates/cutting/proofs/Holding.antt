-- Slots that hold the records, a start at a time: empty slots hold them before the first start, and when each piece from a
-- start has been offered they hold them for one start more. So the law of demand 3 holds at every position come to where
-- something stands. Assumes nothing.
use Rattle.std.specs.Prelude.{Option, None, Some}
use mathlib.Core.Path.{◌≡◌, refl, sym, ap, subst, ◌∙◌}
use mathlib.Core.Bool.{Bool, true, false, cond}
use mathlib.Core.List.{List, [], ◌∷◌}
use Prim.Native.Nat.{ℕ, zero, suc, ◌≤◌, ◌<◌}
use native.Mathlib.Omega.{arith}
use borrow.Author.Tests.{lt-leb, le-leb}
use Rattle.doubles.specs.Double.{Double, sum, less}
use Rattle.refusal.specs.Sizes.{no_id}
use Rattle.cutting.specs.Cuttings.{Piece, Rule, Slot, nth, Best}
use Rattle.cutting.specs.Records.{offered, candidate, offered_all, best, shown}
use Rattle.cutting.specs.Slots.{Slots, slot_at, Cleared, taken}
use Rattle.cutting.specs.Law.{Holds, Recorded}
use Rattle.cutting.proofs.Working.{Pieces, stands_at, worked, none_before, unchanged, absent, stands-first, record-stands, settled-le}
use Rattle.cutting.proofs.Best.{sooner-below, stood, filled, is-best}
use Rattle.cutting.proofs.Columns.{taken-empty, taken-weighed}

-- the slot where pieces from `at` end, once it has been offered each in turn whose sum counts; x stands before them
unfoldable pub after_offers : (Double → Bool) → List Piece → Double → ℕ → Slot → Slot
after_offers counts [] x at r = r
after_offers counts (p ∷ ps) x at r =
    let q = candidate x at p in
    after_offers counts ps x at (cond (counts q.score) (taken r q) r)

-- each piece from `at` has been offered; x stands before them
pub record AllOffered (rule : Rule) (at : ℕ) (x : Double) (before after : Slots) : Type 0 where
  pub slots : (k : ℕ) → slot_at after k ≡ after_offers rule.counts (rule.pieces at k) x at (slot_at before k)

-- a record whose start is no mark
abbrev Full : Option Slot → Type 0
Full o = (r : Slot) → o ≡ Some r → r.start ≡ no_id → ⊥

taken-shown : (o : Option Slot) (q : Slot) → Full o → taken (shown o) q ≡ offered o q
unfolding shown offered
taken-shown None q full = taken-empty (shown None) q refl
taken-shown (Some r) q full = taken-weighed r q (full r refl)

offered-full : (o : Option Slot) (q : Slot) → Full o → (q.start ≡ no_id → ⊥) → (offered o q).start ≡ no_id → ⊥
unfolding offered
offered-full None q full fits mark = fits mark
offered-full (Some r) q full fits mark = pick (less r.score q.score) mark
  where
    pick : (t : Bool) → (cond t q r).start ≡ no_id → ⊥
    pick true e = fits e
    pick false e = full r refl e

-- a slot and its record are offered the same
offers-shown : (counts : Double → Bool) (x : Double) (at : ℕ) → (at ≡ no_id → ⊥) → (ps : List Piece) (o : Option Slot) → Full o → after_offers counts ps x at (shown o) ≡ shown (offered_all counts (Some x) at ps o)
unfolding after_offers offered_all candidate shown
offers-shown counts x at fits [] o full = refl
offers-shown counts x at fits (p ∷ ps) o full =
    by-test (counts (sum x p.score)) refl (offers-shown counts x at fits ps o full)
    (offers-shown counts x at fits ps (Some (offered o (candidate x at p)))
    (λ r h mark. offered-full o (candidate x at p) full fits (let one : offered o (candidate x at p) ≡ r = cc in ap (λ (u : Slot). u.start) one ∙ mark)))
  where
    by-test :
        (t : Bool) → counts (sum x p.score) ≡ t → after_offers counts ps x at (shown o) ≡ shown (offered_all counts (Some x) at ps o)
        → after_offers counts ps x at (offered o (candidate x at p)) ≡ shown (offered_all counts (Some x) at ps (Some (offered o (candidate x at p))))
        → after_offers counts ps x at (cond (counts (sum x p.score)) (taken (shown o) (candidate x at p)) (shown o)) ≡ shown (offered_all counts (Some x) at ps (cond (counts (sum x p.score)) (Some (offered o (candidate x at p))) o))
    by-test true e keeps takes =
        ap (λ (t : Bool). after_offers counts ps x at (cond t (taken (shown o) (candidate x at p)) (shown o))) e
        ∙ ap (λ (r : Slot). after_offers counts ps x at r) (taken-shown o (candidate x at p) full)
        ∙ takes
        ∙ ap (λ (t : Bool). shown (offered_all counts (Some x) at ps (cond t (Some (offered o (candidate x at p))) o))) (sym e)
    by-test false e keeps takes =
        ap (λ (t : Bool). after_offers counts ps x at (cond t (taken (shown o) (candidate x at p)) (shown o))) e
        ∙ keeps
        ∙ ap (λ (t : Bool). shown (offered_all counts (Some x) at ps (cond t (Some (offered o (candidate x at p))) o))) (sym e)

-- ---- before the first start

pub holds-none : {rule : Rule} {before after : Slots} {n : ℕ} → Cleared before n after → Holds rule n 0 after
holds-none {rule} {before} {after} {n} c =
    record {
      slots = λ k l.
          c.slots k
          ∙ ap (λ (t : Bool). cond t (shown None) (slot_at before k)) (le-leb k n l)
          ∙ ap shown (sym (none_before rule k));
    }

pub cleared-past : {before after : Slots} {n : ℕ} → Cleared before n after → (k : ℕ) → n < k → slot_at after k ≡ slot_at before k
cleared-past {before} {after} {n} c k l = c.slots k ∙ ap (λ (t : Bool). cond t (shown None) (slot_at before k)) (lt-leb k n l)

module _ {end : ℕ} {rule : Rule} (g : Pieces end rule) where
  -- a start lies below the starts to come, and is no mark
  start_small : (from k : ℕ) → from ≤ no_id → Full (best rule from k)
  start_small from k l r e mark = let h : r.start < from = sooner-below (stood g from k r e).below in omega arith

  -- the law of demand 3 at a position that has been come to, where something stands
  pub best-held : (from : ℕ) (c : Slots) → Holds rule end from c → (j : ℕ) (x : Double) → 0 < j → j ≤ from → j ≤ end → stands_at rule j ≡ Some x → Best rule j (slot_at c j)
  unfolding shown
  best-held from c h j x l p inside at =
      let w = filled g j x l at in
      subst (Best rule j) (sym (h.slots j inside ∙ ap shown (settled-le g from j p ∙ w.1))) (is-best g j w.0 w.1)

  -- what stands at the start come to is the score in its slot
  pub stands-held : (at : ℕ) (c : Slots) (x : Double) → Holds rule end at c → at ≤ end → stands_at rule at ≡ Some x → stands_at rule at ≡ Some (slot_at c at).score
  unfolding shown
  stands-held zero c x h inside e = stands-first rule ∙ ap (λ (q : Slot). Some q.score) (sym (h.slots 0 inside ∙ ap shown (none_before rule 0)))
  stands-held (suc at) c x h inside e =
      let w = record-stands rule (suc at) x (omega arith) e in
      e ∙ ap Some (sym w.2) ∙ ap (λ (q : Slot). Some q.score) (sym (h.slots (suc at) inside ∙ ap shown w.1))

  -- no piece from `at` ends past the end
  pub offered-past : {at : ℕ} {x : Double} {before after : Slots} → AllOffered rule at x before after → (k : ℕ) → end < k → slot_at after k ≡ slot_at before k
  unfolding after_offers
  offered-past {at} {x} {before} o k l =
      o.slots k
      ∙ ap (λ (ps : List Piece). after_offers rule.counts ps x at (slot_at before k)) (absent (rule.pieces at k) (λ n p e. let h : k ≤ end = g.inside at k n p e in omega arith))

  -- one start more
  pub holds_more : {at : ℕ} {x : Double} {before after : Slots} → at ≤ end → at < no_id → Holds rule end at before → stands_at rule at ≡ Some x → AllOffered rule at x before after → Holds rule end (suc at) after
  holds_more {at} {x} {before} {after} inside small h e o =
      record {
        slots = λ k l.
            o.slots k
            ∙ ap (λ (r : Slot). after_offers rule.counts (rule.pieces at k) x at r) (h.slots k l)
            ∙ offers-shown rule.counts x at (λ mark. omega arith) (rule.pieces at k) (best rule at k) (start_small at k (omega arith))
            ∙ sym (ap shown (worked rule at k x e));
      }

  -- positions with no piece change nothing
  pub holds-jumped : {from upto : ℕ} {c : Slots} → from ≤ upto → ((i j k : ℕ) (p : Piece) → from ≤ i → i < upto → nth (rule.pieces i j) k ≡ Some p → ⊥) → Holds rule end from c → Holds rule end upto c
  holds-jumped {from} {upto} l off h =
      record { slots = λ j inside. h.slots j inside ∙ ap shown (sym (unchanged rule from upto j l (λ i a b. absent (rule.pieces i j) (λ k p e. off i j k p a b e)))) }

  -- so the records stand, where something stands wherever is come to
  pub recorded :
      {come : ℕ → Type 0} {at from : ℕ} {before after : Slots} → ((j : ℕ) → j ≤ end → come j → (x : Double) × (stands_at rule j ≡ Some x)) → at ≡ from
      → from ≤ end → Holds rule end at after → ((k : ℕ) → end < k → slot_at after k ≡ slot_at before k) → Recorded rule come end from before after
  recorded {from = from} {after = after} reach e inside h past =
      let held : Holds rule end from after = subst (λ (n : ℕ). Holds rule end n after) e h in
      record {
        holds = held;
        best = λ j l p at. let w = reach j (omega arith) at in best-held from after held j w.0 l p (omega arith) w.1;
        past = past;
      }
