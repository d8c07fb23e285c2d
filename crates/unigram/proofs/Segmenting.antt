-- The whole cutting. A Unigram trie's pieces meet what the laws of any rule ask (`given`), so the slots are those of
-- `slots_left`, the path is that of the pieces, and demand 3 holds; the ids merged from the path are the text's. Assumes
-- nothing.
use Rattle.std.specs.Prelude.{None, Some, Ok, ℕ}
use mathlib.Core.Path.{◌≡◌, sym, ap, subst, ◌∙◌}
use mathlib.Core.Bool.{Bool, true, cond}
use mathlib.Core.List.{List, map}
use Prim.Native.Nat.{ℕ, ◌≤◌, ◌<◌}
use native.Mathlib.Omega.{arith}
use borrow.Author.Tests.{ne_eqb}
use lib.Ieee.{Float}
use lib.ListN.{length, take, drop, length-map}
use lib.Seq.{take_at, take-length}
use lib.Dec.{T}
use Rattle.doubles.specs.Double.{Double}
use Rattle.doubles.specs.Units.{units}
use Rattle.refusal.specs.Places.{overlay}
use Rattle.refusal.proofs.Codings.{coded-ids}
use Rattle.text.specs.Text.{boundary, characters}
use Rattle.text.proofs.Boundaries.{boundary_end}
use Rattle.trie.proofs.SoundParts.{scored-of}
use Rattle.cutting.specs.Records.{best, shown}
use Rattle.cutting.specs.Slots.{Slots, slots_of, slot_at, Inside}
use Rattle.cutting.specs.Tracing.{ends_from, steps_at, Ends, Falling}
use Rattle.cutting.specs.Law.{best_pieces, slots_left, path_left}
use Rattle.cutting.specs.Law as law
use Rattle.cutting.proofs.Working.{Pieces, stands_at}
use Rattle.cutting.proofs.Best.{is_true}
use Rattle.cutting.proofs.Following.{few}
use Rattle.cutting.proofs.Leaving.{slot-holds, slots-are, falls, path-is, path-left, ends-rise, steps-are, law-of}
use Rattle.unigram.specs.Runs.{merged}
use Rattle.unigram.specs.Pieces.{Model, rule, pieces_of, ids_of, part_id}
use Rattle.unigram.specs.Work.{Ready, Recorded, BestCutting}
use Rattle.unigram.specs.Merge.{Mergeable}
use Rattle.unigram.specs.Segment.{Scratch, lengths_of, segment_fault, sound_model, written, writes, Segmented}
use Rattle.unigram.specs.Checked.{scratch_of}
use Rattle.unigram.proofs.Given.{given, boundary-stands, piece-rises}

module _ {m : Model} {s : List ℕ} (ready : Ready m s) where
  laws : Pieces (length s) (rule m s)
  laws = given m s ready.well ready.sound

  stands : (j : ℕ) → j ≤ length s → boundary s j ≡ true → (x : Double) × (stands_at (rule m s) j ≡ Some x)
  stands = boundary-stands m s ready.well ready.sound

  -- what stands at the end
  abbrev last : (x : Double) × (stands_at (rule m s) (length s) ≡ Some x)
  last = stands (length s) (omega arith) (boundary_end s)

  -- the pieces are no more than the characters
  pub pieces-few : length (pieces_of m s) ≤ characters s
  pieces-few =
      let n = length s in
      subst (λ (u : List ℕ). length (best_pieces (rule m s) n) ≤ characters u) (take-length s)
      (few laws (λ j. characters (take j s)) (piece-rises m s ready.well ready.sound) n n last.0 (omega arith) last.1)

  -- slots that hold the records meet the law of demand 3
  pub law-held :
      (after : Slots) → ((j : ℕ) → 0 < j → j ≤ length s → slot_at after j ≡ shown (best (rule m s) j j))
      → law.RecordLaw (rule m s) (λ j. T (boundary s j)) s (characters s) after
  law-held = law-of laws (λ j l t. stands j l (is_true (boundary s j) t)) last.0 last.1 pieces-few

  -- ---- the slots and the path

  module _ {b a : Slots} (r : Recorded m s (length s) b a) where
    pub starts-fall : length s < length a.start → Falling a.start (length s)
    starts-fall inside = falls laws r last.0 last.1 inside ready.size

    ends-are : ends_from a.start (length s) (length s) ≡ map (λ e. e.end) (pieces_of m s)
    ends-are = path-is laws r last.0 last.1

    ends-count : length (ends_from a.start (length s) (length s)) ≡ length (pieces_of m s)
    ends-count = ap length ends-are ∙ length-map (pieces_of m s) (λ e. e.end)

    pub ends-few : length (ends_from a.start (length s) (length s)) ≤ characters s
    ends-few = omega (arith, ends-count, pieces-few)

    pub best-cutting :
        {path path' : List ℕ} {n : ℕ} → let ends = ends_from a.start (length s) (length s) in
        (n ≡ length ends) × (path' ≡ overlay ends path) → BestCutting m s b path a path' n
    best-cutting t = record { slots = r; path = path-left laws r last.0 last.1 _ t.1; count = t.0 ∙ ends-count }

  -- ---- the ids

  module _ {b a : Slots} {path path' : List ℕ} {n : ℕ} (w : BestCutting m s b path a path' n) where
    -- the first places of the path are the pieces' ends
    pub front-is : take n path' ≡ map (λ e. e.end) (pieces_of m s)
    unfolding path_left
    front-is =
        let es = map (λ e. e.end) (pieces_of m s) in
        ap (take n) w.path ∙ take_at es (drop (length es) path) n (length-map (pieces_of m s) (λ e. e.end) ∙ sym w.count)

    pub front-few : n ≤ characters s
    front-few = omega (arith, w.count, pieces-few)

    -- what merging rests on
    pub mergeable :
        {places : List ℕ} → length s < length a.id → characters s ≤ length places
        → Mergeable m.trie s a.id (take n path') places
    mergeable {places} inside room =
        record {
          sound = (scored-of _ _ _ ready.sound).parts;
          ends = subst (Ends (length s) 0) (sym front-is) (ends-rise laws w.slots last.0 last.1);
          slots = inside;
          room = omega (arith, ap length front-is, length-map (pieces_of m s) (λ e. e.end), pieces-few);
        }

    -- and what it gives
    pub ids-are : merged (part_id m.trie s) m.unknown.id None 0 (steps_at a.id (take n path')) ≡ ids_of m s
    unfolding ids_of
    ids-are =
        ap (λ (u : List ℕ). merged (part_id m.trie s) m.unknown.id None 0 (steps_at a.id u)) front-is
        ∙ ap (merged (part_id m.trie s) m.unknown.id None 0) (steps-are laws w.slots last.0 last.1)

-- ---- all together

scratch : Slots → List ℕ → List ℕ → Scratch
scratch c path ids = record { slots = c; path = path; ids = ids }

pub cut_of :
    {m : Model} {s : List ℕ} (ready : Ready m s) {starts ids : List ℕ} {scores : List Float} {path places : List ℕ}
    (starts' ids' : List ℕ) (scores' : List Float) {path' places' : List ℕ} {n count : ℕ}
    → segment_fault (sound_model m) s (lengths_of (scratch_of starts ids scores path places)) ≡ None → 0 < length s
    → Inside starts ids scores (length s)
    → length starts' ≡ length starts → length ids' ≡ length ids → length scores' ≡ length scores
    → BestCutting m s (slots_of starts ids scores) path (slots_of starts' ids' scores') path' n
    → let all = merged (part_id m.trie s) m.unknown.id None 0 (steps_at ids' (take n path')) in
    (count ≡ length all) × (places' ≡ overlay all places)
    → Segmented m s (scratch_of starts ids scores path places) (Ok count) (scratch_of starts' ids' scores' path' places')
unfolding written writes scratch
cut_of {m} {s} ready {starts} {ids} {scores} {path} {places} starts' ids' scores' {path'} {places'} {n} {count} free some-text
    inside level-start level-id level-score w g =
    let before = scratch_of starts ids scores path places in
    let after = slots_of starts' ids' scores' in
    let P = rule m s in
    let now : after ≡ slots_left P (length s) (slots_of starts ids scores) =
    slots-are (laws ready) w.slots
    (record {
      start = level-start;
      id = level-id;
      score = length-map scores' units ∙ level-score ∙ sym (length-map scores units);
    })
    (record { start = inside.start; id = inside.id; score = omega (arith, inside.score, length-map scores units) })
    in
    record {
      coded =
          coded-ids free (g.0 ∙ ap length (ids-are ready w))
          (ap (λ (c : Slots). scratch c path' places') now
          ∙ ap (λ (u : List ℕ). scratch (slots_left P (length s) (slots_of starts ids scores)) u places') w.path
          ∙ ap (λ (u : List ℕ). scratch (slots_left P (length s) (slots_of starts ids scores)) (path_left P (length s) path) u)
          (g.1 ∙ ap (λ (u : List ℕ). overlay u places) (ids-are ready w))
          ∙ sym (ap (λ (t : Bool). cond t before (written m s before)) (ne_eqb (length s) 0 (λ e. omega arith))));
      law = λ h. law-held ready after (λ j p l. slot-holds (laws ready) w.slots j l);
    }
