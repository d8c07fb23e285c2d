-- The paper's number of each fault, which row a reason names, and what an answer says was found. Definitions only; assumes
-- nothing.
use Rattle.std.specs.Prelude.{ℕ, Bool, true, false, Option, None, Some}
use Rattle.refusal.specs.declared.Fault.{Fault}
use Rattle.refusal.specs.declared.Fault.TheVariants.{Size, Span, Token, Text, Score, Id, Room, Trie, Scratch, Ids, Pack}
use Rattle.refusal.specs.declared.Reason.{Reason}
use Rattle.refusal.specs.declared.Reason.TheVariants.{Call, Row}

-- the paper's table of refusal numbers
abbrev pub number : Fault → ℕ
number Size = 1
number Span = 2
number Token = 3
number Text = 4
number Score = 5
number Id = 6
number Room = 7
number Trie = 8
number Scratch = 9
number Ids = 10
number Pack = 11

-- "A refusal of a build says why,"
abbrev pub fault_of : Reason → Fault
fault_of (Call f) = f
fault_of (Row f i) = f

abbrev pub number_of : Reason → ℕ
number_of r = number (fault_of r)

-- a fault of the call, not of a row
unfoldable pub called : Option Fault → Option Reason
called None = None
called (Some f) = Some (Call f)

-- "and for 2 to 6 which row (none for a prefix)"
abbrev pub row_of : Reason → Option ℕ
row_of (Call f) = None
row_of (Row f i) = Some i

-- `refuse test f later`: f where the test finds it, else what is found later. Faults written one below the other are tested in
-- that order.
unfoldable pub refuse : {A : Type 0} → Bool → A → Option A → Option A
refuse true f later = Some f
refuse false f later = later

-- the first of two answers that finds something
unfoldable pub first : {A : Type 0} → Option A → Option A → Option A
first None later = later
first (Some f) later = Some f

-- `unless_fault found accepted refused`: the one where no fault is found, the other where there is one
unfoldable pub unless_fault : {A : Type 0} → Option Fault → A → A → A
unless_fault None accepted refused = accepted
unless_fault (Some f) accepted refused = refused
