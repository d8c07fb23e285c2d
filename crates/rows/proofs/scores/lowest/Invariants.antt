use mathlib.Core.Path.{◌≡◌}
use mathlib.Core.List.{map}
use lib.ListN.{drop}
use Rattle.doubles.specs.Units.{units}
use Rattle.rows.specs.Scores.{lowest}
use Rattle.rows.proofs.scores.lowest.Given as goal

abbrev pub invariant-loop-y : goal.invariant-loop-y
invariant-loop-y l = lowest (units l.x) (map units l.score) ≡ lowest (units l.low) (map units (drop l.y-index l.score))
