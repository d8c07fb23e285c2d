-- What stands in the slots and the path while the starts are worked and once all have been, and the record law of demand 3.
-- What a piece is, is a parameter, and so is which positions are come to. Definitions only; assumes nothing.
use Rattle.std.specs.Prelude.{◌≡◌, ℕ, ◌+◌, ◌≤◌, ◌<◌, List, map, length}
use Rattle.doubles.specs.Double.{plus_zero}
use Rattle.refusal.specs.Places.{overlay}
use Rattle.cutting.specs.Cuttings.{Piece, Rule, Best, Step, Chain, added, joined}
use Rattle.cutting.specs.Records.{best, shown, records_from, followed}
use Rattle.cutting.specs.Slots.{Slots, slot_at}
use Rattle.cutting.specs.Tracing.{followed_in}

-- the slots up to n hold the records as they are when the starts before `from` have been worked
pub record Holds (rule : Rule) (n from : ℕ) (c : Slots) : Type 0 where
  pub slots : (k : ℕ) → k ≤ n → slot_at c k ≡ shown (best rule from k)

-- The starts before `from` have been worked: the slots up to n hold the records, demand 3's law holds at every position come to
-- so far, and later slots are unchanged. The work is done where `from` is n.
pub record Recorded (rule : Rule) (come : ℕ → Type 0) (n from : ℕ) (before after : Slots) : Type 0 where
  pub holds : Holds rule n from after
  pub best : (j : ℕ) → 0 < j → j ≤ from → come j → Best rule j (slot_at after j)
  pub past : (k : ℕ) → n < k → slot_at after k ≡ slot_at before k

-- the pieces of the best cutting before n, in order
abbrev pub best_pieces : Rule → ℕ → List Step
best_pieces rule n = followed rule n n

-- "slot 0 and slots inside characters are empty; other slots up to the text's length hold start, id and score; later slots
-- unchanged"
unfoldable pub slots_left : Rule → ℕ → Slots → Slots
slots_left rule n c =
    let slots = records_from rule 0 (n + 1) in
    record {
      start = overlay (map (λ r. r.start) slots) c.start;
      id = overlay (map (λ r. r.id) slots) c.id;
      score = overlay (map (λ r. r.score) slots) c.score;
    }

-- "the first path places hold the end offsets of the pieces before merging, in order, the rest unchanged"
unfoldable pub path_left : Rule → ℕ → List ℕ → List ℕ
path_left rule n path = overlay (map (λ e. e.end) (best_pieces rule n)) path

-- Demand 3, of the slots that stand when the call has ended: "the record at every boundary come to holds the greatest
-- left-to-right rounded sum of any allowed cutting before it, names the last piece of such a cutting (the earliest start among
-- equals), and the records followed back cover every byte once", with at most so many pieces. The pieces are those that
-- these slots give (`followed`), so `chain`, `score`, `cover` and `few` are of what the records say. In `pieces` they have
-- their scores.
pub record RecordLaw (rule : Rule) (come : ℕ → Type 0) (s : List ℕ) (most : ℕ) (after : Slots) : Type 0 where
  pub best : (j : ℕ) → 0 < j → j ≤ length s → come j → Best rule j (slot_at after j)
  pub followed : followed_in after (length s) (length s) ≡ best_pieces rule (length s)
  pub pieces : List Piece
  pub chain : Chain rule 0 (best_pieces rule (length s)) (length s) pieces
  pub score : 0 < length s → added plus_zero pieces ≡ (slot_at after (length s)).score
  pub cover : joined s 0 (best_pieces rule (length s)) ≡ s
  pub few : length (best_pieces rule (length s)) ≤ most
