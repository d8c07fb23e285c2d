use mathlib.Core.List.{List, map}
use Prim.Native.Nat.{ℕ}
use lib.ListN.{get_or}
use Rattle.doubles.specs.Double.{Double}
use Rattle.doubles.specs.Units.{units}
use Rattle.scored.specs.NodeScores.{row_score}
use Rattle.scored.proofs.Storing.{Stored}
use Rattle.scored.proofs.scores.fill.Given as goal

-- the score of node j
abbrev pub score_at : List Double → List ℕ → ℕ → Double
score_at scores ids j = row_score scores (get_or ids j 0)

abbrev pub invariant-loop-k : goal.invariant-loop-k
invariant-loop-k l = Stored (score_at (map units l.score) l.node_id) (map units l.initial.node_score) l.k l.node_score
