use mathlib.Core.Path.{◌≡◌}
use Rattle.rows.specs.Rows.{first_bad}
use Rattle.rows.specs.Columns.{rows_of}
use Rattle.rows.specs.Answers.{columns_in}
use Rattle.rows.proofs.FirstBad.{bad_from}
use Rattle.rows.proofs.checked.first_bad.Given as goal

abbrev pub invariant-loop-i : goal.invariant-loop-i
invariant-loop-i l = let c = columns_in l.lists in first_bad l.kind l.tab 0 (rows_of c) ≡ bad_from l.kind l.tab c l.i
