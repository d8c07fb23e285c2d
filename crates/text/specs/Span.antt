-- The span check over a lent string table, and what its calls promise. Definitions only; assumes nothing.
use Rattle.std.specs.Result.{result_err}
use Rattle.std.specs.Prelude.{◌≡◌, ℕ, ◌+◌, Bool, List, [], ltb, length, take, drop, Option, Result, ⊤}
use Rattle.std.specs.Borrow.{Bor}
use Rattle.refusal.specs.declared.Fault.{Fault}
use Rattle.refusal.specs.declared.Fault.TheVariants.{Size, Span}
use Rattle.refusal.specs.Sizes.{max_table, above}
use Rattle.refusal.specs.Refusal.{refuse, unless_fault}
use Rattle.text.specs.Text.{text_fault}

-- the len bytes of the table from off on
abbrev pub span_of : List ℕ → ℕ → ℕ → List ℕ
span_of tab off len = take len (drop off tab)

-- 2: "offset + length passes the end of the string table"
abbrev pub outside : List ℕ → ℕ → ℕ → Bool
outside tab off len = ltb (length tab) (off + len)

-- of a table within its limit: 2, 4
unfoldable pub part_fault : List ℕ → ℕ → ℕ → Option Fault
part_fault tab off len = refuse (outside tab off len) Span (text_fault (span_of tab off len))

-- "A span is tested in the order 1 (the table), 2, 4."
unfoldable pub span_fault : List ℕ → ℕ → ℕ → Option Fault
span_fault tab off len = refuse (above max_table (length tab)) Size (part_fault tab off len)

-- What `text_answer(tab, off, len)` promises: "a call beside it answers accepted or the number".
pub record TextAnswered (tab : List ℕ) (off len : ℕ) (answer : Result ⊤ Fault) : Type 0 where
  pub answered : result_err answer ≡ span_fault tab off len

-- What is promised of the part given back of a span with this fault: its bytes, the block of memory that it stands in, and
-- where. "An accepted span gives back that part of the lent string table itself. A refused one gives back the empty part at the
-- table's start"
pub record PartGiven (fault : Option Fault) (table : Bor (List ℕ)) (off len : ℕ) (part : Bor (List ℕ)) : Type 0 where
  pub gave : part.now ≡ unless_fault fault (span_of table.now off len) []
  pub block : part.ref_ptr.0 ≡ table.ref_ptr.0
  pub stands : part.ref_ptr.1 ≡ table.ref_ptr.1 + unless_fault fault off 0
