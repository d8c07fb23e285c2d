-- The loop's invariant: the first i places are the first i rows.
use mathlib.Core.Path.{◌≡◌}
use mathlib.Core.List.{map}
use lib.ListN.{take}
use Rattle.rows.specs.Rows.{row_is}
use Rattle.sliced.specs.Copied.{columns_for, first_places}
use Rattle.sliced.proofs.slice.put.Given as goal

abbrev pub invariant-loop-i : goal.invariant-loop-i
invariant-loop-i l = first_places l.i l.off l.len l.score ≡ columns_for (take l.i (map row_is l.rows))
