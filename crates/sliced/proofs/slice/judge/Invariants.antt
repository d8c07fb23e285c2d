-- The loop's invariant: what is found of all rows is what is first bad from row i on.
use mathlib.Core.List.{map}
use mathlib.Core.Path.{◌≡◌}
use Rattle.rows.specs.Rows.{row_is}
use Rattle.sliced.specs.BuildRows.{rows_judged}
use Rattle.sliced.proofs.Judging.{bad_from}
use Rattle.sliced.proofs.slice.judge.Given as goal

abbrev pub invariant-loop-i : goal.invariant-loop-i
invariant-loop-i l = rows_judged l.tab (map row_is l.rows) ≡ bad_from l.tab l.rows l.i-counter
