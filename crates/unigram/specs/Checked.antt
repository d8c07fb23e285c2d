-- The lent columns of a cutting, as contracts name them. Definitions only; assumes nothing.
use Rattle.std.specs.Prelude.{ℕ, List, Float}
use Rattle.std.specs.Borrow.{MutBor}
use Rattle.refusal.specs.Lent.{LentMut, had, is}
use Rattle.cutting.specs.Slots.{slots_of}
use Rattle.unigram.specs.Segment.{Scratch}

-- the lent columns
abbrev pub scratch_of : List ℕ → List ℕ → List Float → List ℕ → List ℕ → Scratch
scratch_of start id score path ids = record { slots = slots_of start id score; path = path; ids = ids }

-- the same as a contract names the columns: as the call found them, and as it left them
abbrev pub scratch_was : LentMut ℕ → LentMut ℕ → LentMut Float → LentMut ℕ → LentMut ℕ → Scratch
scratch_was start id score path ids = scratch_of (had start) (had id) (had score) (had path) (had ids)

abbrev pub scratch_is : LentMut ℕ → LentMut ℕ → LentMut Float → LentMut ℕ → LentMut ℕ → Scratch
scratch_is start id score path ids = scratch_of (is start) (is id) (is score) (is path) (is ids)

-- and in a `requires`
abbrev pub scratch_now : MutBor (List ℕ) → MutBor (List ℕ) → MutBor (List Float) → MutBor (List ℕ) → MutBor (List ℕ) → Scratch
scratch_now start id score path ids = scratch_of start.now id.now score.now path.now ids.now
