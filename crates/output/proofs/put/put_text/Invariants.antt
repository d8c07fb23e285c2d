use mathlib.Core.List.{List}
use Prim.Native.Nat.{ℕ}
use Rattle.output.proofs.Putting.{Along}
use Rattle.output.proofs.put.put_text.Given as goal

-- the text of some bytes, and of one
abbrev pub all : List ℕ → List ℕ
all s = s

abbrev pub invariant-loop-b : goal.invariant-loop-b
invariant-loop-b l = Along all l.text l.initial.out l.at l.b-index l.end l.out
