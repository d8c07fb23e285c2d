-- `segment`: which test gives which fault, what is tested where there is none, and the promise from the fault, from an empty
-- text, or from the cutting. Assumes nothing.
use Rattle.std.specs.Prelude.{Option, None, Some, Ok, Err, ℕ}
use mathlib.Core.Path.{◌≡◌, refl, sym, ap, ◌∙◌}
use mathlib.Core.Bool.{Bool, true, false, ◌&&◌, ◌||◌, cond, not}
use mathlib.Core.List.{List, [], ◌∷◌}
use mathlib.Core.Logic.{⊎_elim}
use Prim.Native.Nat.{ℕ, ◌+◌, ◌≤◌, ◌<◌}
use native.Mathlib.Omega.{arith}
use borrow.Author.Tests.{lt-ltb, eq-eqb, ltb-false}
use lib.Dec.{ltb}
use lib.Ieee.{Float}
use lib.ListN.{length, length-map}
use Rattle.doubles.specs.Units.{units}
use Rattle.std.proofs.lemmas.Bool.Decides.{nat_tests}
use Rattle.refusal.specs.declared.Fault.{Fault}
use Rattle.refusal.specs.declared.Fault.TheVariants as fault
use Rattle.refusal.specs.Refusal.{refuse, first}
use Rattle.refusal.specs.Sizes.{max_text}
use Rattle.refusal.proofs.Tests.{found, not_found, none_first, passed, both-passed, Not, refused-so, first_so}
use Rattle.refusal.proofs.Tests.{nothing-so}
use Rattle.refusal.proofs.Codings.{coded-refused, coded-ids}
use Rattle.refusal.proofs.Lists.{zero_one, below_or}
use Rattle.text.specs.Text.{text_fault, characters}
use Rattle.text.proofs.Boundaries.{characters-le}
use Rattle.trie.specs.Lookup.{lookup_fault}
use Rattle.trie.proofs.Lookups.{lookup-fine, sound-lookup}
use Rattle.build.specs.Memory.{any_below}
use Rattle.cutting.specs.Slots.{Slots, Inside}
use Rattle.unigram.specs.Pieces.{Model, pieces_of, part_id, ids_of}
use Rattle.unigram.specs.Segment.{Scratch, Lengths, lengths, lengths_of, short_scratch, segment_fault, sound_model, written}
use Rattle.unigram.specs.Segment.{writes, Segmented}
use Rattle.unigram.specs.Work.{Ready, BestCutting}
use Rattle.unigram.specs.Checked.{scratch_of}
use Rattle.unigram.proofs.Merging.{merged-few}
use Rattle.unigram.proofs.Segmenting.{pieces-few, law-held, front-few}

-- ---- which fault

module _ (parts : Bool) (s : List ℕ) (n : Lengths) where
  -- the tests in their order
  pub first_fault :
      segment_fault parts s n
      ≡ cond (ltb max_text (length s)) (Some fault.Size)
      (cond parts
      (first (text_fault s)
      (cond (ltb 0 (length s) && (any_below (length s + 1) n.slots || ltb n.path (characters s))) (Some fault.Scratch)
      (cond (ltb n.ids (characters s)) (Some fault.Ids) None)))
      (Some fault.Trie))
  unfolding segment_fault lookup_fault short_scratch refuse first
  first_fault = by_tests (ltb max_text (length s)) parts _ (ltb n.ids (characters s)) (text_fault s)
    where
      by_tests :
          (size sound short few : Bool) (text : Option Fault)
          → first (refuse size fault.Size (refuse (not sound) fault.Trie text))
          (refuse short fault.Scratch (refuse few fault.Ids None))
          ≡ cond size (Some fault.Size)
          (cond sound (first text (cond short (Some fault.Scratch) (cond few (Some fault.Ids) None))) (Some fault.Trie))
      by_tests true sound short few text = refl
      by_tests false false short few text = refl
      by_tests false true true few text = refl
      by_tests false true false true text = refl
      by_tests false true false false text = refl

  module _ (fine : lookup_fault parts s ≡ None) where
    past-text :
        segment_fault parts s n
        ≡ refuse (short_scratch s n) fault.Scratch (refuse (ltb n.ids (characters s)) fault.Ids None)
    unfolding segment_fault
    past-text = none_first _ fine

    pub fault-scratch : short_scratch s n ≡ true → segment_fault parts s n ≡ Some fault.Scratch
    fault-scratch e = past-text ∙ found _ fault.Scratch _ e

    pub fault-ids : short_scratch s n ≡ false → n.ids < characters s → segment_fault parts s n ≡ Some fault.Ids
    fault-ids room l =
        past-text ∙ not_found _ fault.Scratch _ room ∙ found _ fault.Ids None (lt-ltb n.ids (characters s) l)

  -- what is known where there is none
  module _ (none_found : segment_fault parts s n ≡ None) where
    tests :
        (lookup_fault parts s ≡ None)
        × (refuse (short_scratch s n) fault.Scratch (refuse (ltb n.ids (characters s)) fault.Ids None) ≡ None)
    unfolding segment_fault
    tests = both-passed _ _ none_found

    pub enough-scratch : short_scratch s n ≡ false
    enough-scratch = (passed _ fault.Scratch _ tests.1).0

    pub enough-ids : characters s ≤ n.ids
    enough-ids = ltb-false n.ids (characters s) (passed _ fault.Ids None (passed _ fault.Scratch _ tests.1).1).0

  -- no fault of a call with sound parts is 8
  pub sound-fault : parts ≡ true → {f : Fault} → segment_fault parts s n ≡ Some f → Not 8 f
  unfolding segment_fault
  sound-fault e =
      first_so (Not 8) _ _ (sound-lookup s e)
      (refused-so (Not 8) _ fault.Scratch _ refl (refused-so (Not 8) _ fault.Ids None refl (nothing-so (Not 8))))

pub ready_for : (m : Model) (s : List ℕ) (n : Lengths) → segment_fault (sound_model m) s n ≡ None → Ready m s
ready_for m s n e =
    let fine = lookup-fine (sound_model m) s (tests (sound_model m) s n e).0 in
    record { sound = fine.1; well = fine.2; size = fine.0 }

-- ---- the promise

module _ (m : Model) (s : List ℕ) (b : Scratch) where
  pub refused-for : {f : Fault} → segment_fault (sound_model m) s (lengths_of b) ≡ Some f → Segmented m s b (Err f) b
  refused-for e = record { coded = coded-refused e; law = λ h. absurd (zero_one cc) }

  -- an empty text has no ids, and nothing is written
  pub empty-for : segment_fault (sound_model m) s (lengths_of b) ≡ None → Ready m s → length s ≡ 0 → Segmented m s b (Ok 0) b
  unfolding writes ids_of
  empty-for free ready e =
      let stays : writes m s b ≡ b = ap (λ (t : Bool). cond t b (written m s b)) (eq-eqb (length s) 0 e) in
      let merging = merged-few (part_id m.trie s) m.unknown.id 0 (pieces_of m s) in
      record {
        coded = coded-ids free (omega (arith, merging, pieces-few ready, characters-le s)) (sym stays);
        law = λ h. law-held ready b.slots (λ j l inside. absurd (omega arith));
      }

-- ---- enough scratch

enough-room :
    (n chars a b c p : ℕ) → 0 < n → (ltb 0 n && (any_below (n + 1) (a ∷ b ∷ c ∷ []) || ltb p chars)) ≡ false
    → (n < a) × (n < b) × (n < c) × (chars ≤ p)
unfolding any_below
enough-room n chars a b c p some_bytes e =
    (grind (arith, nat_tests), grind (arith, nat_tests), grind (arith, nat_tests), grind (arith, nat_tests))

-- the lent columns are as long as their lists
pub lengths-are :
    (starts ids : List ℕ) (scores : List Float) (path places : List ℕ)
    → lengths_of (scratch_of starts ids scores path places)
    ≡ lengths (length starts) (length ids) (length scores) (length path) (length places)
lengths-are starts ids scores path places =
    ap (λ (n : ℕ). lengths (length starts) (length ids) n (length path) (length places)) (length-map scores units)

-- what is found in columns of so many places is refused
pub refused-found :
    (m : Model) (s starts ids : List ℕ) (scores : List Float) (path places : List ℕ) {tested : Bool} {f : Fault}
    → tested ≡ sound_model m
    → segment_fault tested s (lengths (length starts) (length ids) (length scores) (length path) (length places)) ≡ Some f
    → let b = scratch_of starts ids scores path places in Segmented m s b (Err f) b
refused-found m s starts ids scores path places same found =
    refused-for m s (scratch_of starts ids scores path places) (rw (lengths-are starts ids scores path places, ← same) found)

-- all that can be refused has been tested; an empty text asks for no slots
pub record Prepared (m : Model) (s starts slot_ids : List ℕ) (scores : List Float) (paths places : List ℕ) : Type 0 where
  pub ready : Ready m s
  pub slots : 0 < length s → Inside starts slot_ids scores (length s)
  pub path : characters s ≤ length paths
  pub ids : characters s ≤ length places

-- what the cutting rests on: an empty text asks for no slots, and has no characters
pub prepared-for :
    (m : Model) (s starts ids : List ℕ) (scores : List Float) (path places : List ℕ)
    → segment_fault (sound_model m) s (lengths_of (scratch_of starts ids scores path places)) ≡ None
    → Prepared m s starts ids scores path places
unfolding short_scratch
prepared-for m s starts ids scores path places none_found =
    let n = length s in
    let lent = lengths (length starts) (length ids) (length scores) (length path) (length places) in
    let free : segment_fault (sound_model m) s lent ≡ None = rw (lengths-are starts ids scores path places) at none_found in
    let all : 0 < n → (n < length starts) × (n < length ids) × (n < length scores) × (characters s ≤ length path) =
    λ h. enough-room n (characters s) _ _ _ _ h (enough-scratch (sound_model m) s lent free)
    in
    record {
      ready = ready_for m s lent free;
      slots = λ h. record { start = (all h).0; id = (all h).1; score = (all h).2 };
      path = ⊎_elim (λ (h : 0 < n). (all h).3) (λ (h : n ≤ 0). omega (arith, characters-le s)) (below_or 0 n);
      ids = enough-ids (sound_model m) s lent free;
    }

-- and the path has a place for each piece
pub path_room :
    {m : Model} {s starts ids : List ℕ} {scores : List Float} {path places path' : List ℕ} {b a : Slots} {n : ℕ}
    → Prepared m s starts ids scores path places → BestCutting m s b path a path' n → length path' ≡ length path
    → n ≤ length path'
path_room p w level = omega (arith, front-few p.ready w, p.path)
