use Prim.Native.Nat.{◌+◌, ◌*◌, ◌≤◌}
use Rattle.output.specs.Lines.{spaced}
use Rattle.output.proofs.Putting.{Along}
use Rattle.output.proofs.put.put_numbers.Given as goal

abbrev pub invariant-loop-n : goal.invariant-loop-n
invariant-loop-n l = Along spaced l.numbers l.initial.out l.at l.n-index l.end l.out × (l.end ≤ l.at + 11 * l.n-index)
