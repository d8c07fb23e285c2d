use mathlib.Core.Path.{◌≡◌}
use Prim.Native.Nat.{◌+◌}
use lib.ListN.{drop}
use Rattle.output.specs.Lines.{until_lf}
use Rattle.output.proofs.lines.line_end.Given as goal

abbrev pub invariant-loop-i : goal.invariant-loop-i
invariant-loop-i l = l.from + until_lf (drop l.from l.input) ≡ l.i + until_lf (drop l.i l.input)
