use mathlib.Core.Path.{◌≡◌}
use Rattle.rows.specs.Rows.{first_bad}
use Rattle.pack.proofs.Resting.{all, bad_from}
use Rattle.pack.proofs.row.first_bad.Given as goal

abbrev pub invariant-loop-i : goal.invariant-loop-i
invariant-loop-i l = first_bad l.kind l.strings 0 (all l.kind l.bytes l.rows) ≡ bad_from l.kind l.bytes l.rows l.strings l.i
