-- What the lent slot columns hold, and what an offer leaves in them. Definitions only; assumes nothing.
use Rattle.std.specs.Prelude.{◌≡◌, ℕ, ◌<◌, cond, List, map, eqb, leb, Float, length, get_or, Option, None, Some}
use Rattle.std.specs.Borrow.{MutBor}
use Rattle.refusal.specs.Lent.{LentMut, had, is}
use Rattle.doubles.specs.Double.{Double, plus_zero, less}
use Rattle.doubles.specs.Units.{units}
use Rattle.refusal.specs.Sizes.{no_id}
use Rattle.cutting.specs.declared.slots.Slot as declared
use Rattle.cutting.specs.Cuttings.{Piece, Slot}
use Rattle.cutting.specs.Records.{candidate, shown}

-- the three lent columns
pub record Slots : Type 0 where
  pub start : List ℕ
  pub id : List ℕ
  pub score : List Double

abbrev pub slots_of : List ℕ → List ℕ → List Float → Slots
slots_of start id score = record { start = start; id = id; score = map units score }

-- the same as a contract names the columns: as the call found them, as it left them, and in a `requires`
abbrev pub slots_was : LentMut ℕ → LentMut ℕ → LentMut Float → Slots
slots_was start id score = slots_of (had start) (had id) (had score)

abbrev pub slots_is : LentMut ℕ → LentMut ℕ → LentMut Float → Slots
slots_is start id score = slots_of (is start) (is id) (is score)

abbrev pub slots_now : MutBor (List ℕ) → MutBor (List ℕ) → MutBor (List Float) → Slots
slots_now start id score = slots_of start.now id.now score.now

-- the slot at j
unfoldable pub slot_at : Slots → ℕ → Slot
slot_at c j = record { start = get_or c.start j no_id; id = get_or c.id j no_id; score = get_or c.score j plus_zero }

-- a slot by value
abbrev pub held : declared.Slot → Slot
held r = record { start = r.start; id = r.id; score = units r.score }

-- each column has a place j
pub record Inside (starts ids : List ℕ) (scores : List Float) (j : ℕ) : Type 0 where
  pub start : j < length starts
  pub id : j < length ids
  pub score : j < length scores

-- the columns after are those before, with q in place j
pub record PutAt (before : Slots) (j : ℕ) (q : Slot) (after : Slots) : Type 0 where
  pub slots : (k : ℕ) → slot_at after k ≡ cond (eqb k j) q (slot_at before k)

-- every slot but the first n + 1 is as it was, and those are empty
pub record Cleared (before : Slots) (n : ℕ) (after : Slots) : Type 0 where
  pub slots : (k : ℕ) → slot_at after k ≡ cond (leb k n) (shown None) (slot_at before k)

-- A slot that is offered q: an empty one takes it, and a full one takes it where its score is greater.
unfoldable pub taken : Slot → Slot → Slot
taken r q = cond (eqb r.start no_id) q (cond (less r.score q.score) q r)

-- the slot where a piece from `at` ends, if there is one, once it has been offered it; x stands before the piece
unfoldable pub after_offer : Option Piece → Double → ℕ → Slot → Slot
after_offer None x at r = r
after_offer (Some p) x at r = taken r (candidate x at p)
