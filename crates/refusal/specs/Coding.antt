-- What every coding of a text or word promises. A call says which fault it finds first, what the ids are, and what it writes
-- where there is no fault. Definitions only; assumes nothing.
use Rattle.std.specs.Prelude.{◌≡◌, List, ℕ, length, Option, None, Some, Result, Ok, Err}
use Rattle.refusal.specs.declared.Fault.{Fault}
use Rattle.refusal.specs.Refusal.{unless_fault}

-- "An accepted empty comment has zero ids": the count is that of the ids.
unfoldable pub code_answer : Option Fault → ℕ → Result ℕ Fault
code_answer None count = Ok count
code_answer (Some f) count = Err f

-- What a coding promises of its answer and of the memory lent to it, before and after. "Every other refusal writes nothing."
pub record Coded {A : Type 0} (fault : Option Fault) (ids : List ℕ) (written before : A) (answer : Result ℕ Fault)
    (after : A) : Type 0 where
  pub answered : answer ≡ code_answer fault (length ids)
  pub left : after ≡ unless_fault fault written before
