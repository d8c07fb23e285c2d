-- What `unigram::segment` promises. Definitions only; assumes nothing.
use Rattle.std.specs.Prelude.{◌≡◌, ℕ, ◌+◌, Bool, ◌&&◌, ◌||◌, cond, List, [], ◌∷◌, T, ltb, eqb, length, Option, None, Result}
use Rattle.refusal.specs.declared.Fault.{Fault}
use Rattle.refusal.specs.declared.Fault.TheVariants as fault
use Rattle.refusal.specs.Refusal.{refuse, first}
use Rattle.refusal.specs.Coding.{Coded}
use Rattle.refusal.specs.Places.{overlay}
use Rattle.text.specs.Text.{boundary, characters}
use Rattle.trie.specs.Sound.{sound_scored}
use Rattle.trie.specs.Lookup.{lookup_fault}
use Rattle.build.specs.Memory.{any_below}
use Rattle.cutting.specs.Cuttings.{Rule}
use Rattle.cutting.specs.Slots.{Slots}
use Rattle.cutting.specs.Law.{slots_left, path_left}
use Rattle.cutting.specs.Law as law
use Rattle.unigram.specs.Pieces.{Model, rule, ids_of}

-- the lent slot columns, path and ids
pub record Scratch : Type 0 where
  pub slots : Slots
  pub path : List ℕ
  pub ids : List ℕ

-- how many places are lent: slots in each column, path places and id places
pub record Lengths : Type 0 where
  pub slots : List ℕ
  pub path : ℕ
  pub ids : ℕ

-- so many places as a function is told that it is lent
abbrev pub lengths : ℕ → ℕ → ℕ → ℕ → ℕ → Lengths
lengths starts slot_ids scores path ids = record { slots = starts ∷ slot_ids ∷ scores ∷ []; path = path; ids = ids }

abbrev pub lengths_of : Scratch → Lengths
lengths_of b =
    let c = b.slots in
    lengths (length c.start) (length c.id) (length c.score) (length b.path) (length b.ids)

-- 9: "non-empty Unigram text, fewer slots in any lent column than bytes + 1 or fewer path places than characters"
unfoldable pub short_scratch : List ℕ → Lengths → Bool
short_scratch s n = ltb 0 (length s) && (any_below (length s + 1) n.slots || ltb n.path (characters s))

-- "For a text or word: 1, 8, 4, 9, 10", by whether the parts are sound and how many places are lent. 10 is "fewer id places
-- than characters".
unfoldable pub segment_fault : Bool → List ℕ → Lengths → Option Fault
segment_fault sound_parts s n =
    first (lookup_fault sound_parts s)
    (refuse (short_scratch s n) fault.Scratch
    (refuse (ltb n.ids (characters s)) fault.Ids None))

-- "After success: ids in order; places past them unchanged; the first path places hold the end offsets of the pieces before
-- merging, in order, the rest unchanged; slot 0 and slots inside characters are empty; other slots up to the text's length hold
-- start, id and score; later slots unchanged." First the slots and the path, by the cutting alone.
abbrev pub with_cutting : Rule → ℕ → Scratch → Scratch
with_cutting rule n b = record { slots = slots_left rule n b.slots; path = path_left rule n b.path; ids = b.ids }

-- then the ids, whatever the rest holds
abbrev pub with_ids : List ℕ → Scratch → Scratch
with_ids ids b = record { slots = b.slots; path = b.path; ids = overlay ids b.ids }

unfoldable pub written : Model → List ℕ → Scratch → Scratch
written m s b = with_ids (ids_of m s) (with_cutting (rule m s) (length s) b)

-- "Empty text writes nothing."
unfoldable pub writes : Model → List ℕ → Scratch → Scratch
writes m s b = cond (eqb (length s) 0) b (written m s b)

-- Demand 3, of the slots that stand when the call has ended, with at most one piece a character.
abbrev pub RecordLaw : Model → List ℕ → Scratch → Type 0
RecordLaw m s after = law.RecordLaw (rule m s) (λ j. T (boundary s j)) s (characters s) after.slots

-- the parts and the unknown score are sound
abbrev pub sound_model : Model → Bool
sound_model m = sound_scored m.trie m.score m.unknown.score

-- What `segment` promises of its answer and of the lent columns, before and after.
pub record Segmented (m : Model) (s : List ℕ) (before : Scratch) (answer : Result ℕ Fault) (after : Scratch) : Type 0 where
  pub coded : Coded (segment_fault (sound_model m) s (lengths_of before)) (ids_of m s) (writes m s before) before answer after
  pub law : segment_fault (sound_model m) s (lengths_of before) ≡ None → RecordLaw m s after
