-- The score column of a built trie, from its id column. Definitions only; assumes nothing.
use Rattle.std.specs.Prelude.{ℕ, List, map, get_or}
use Rattle.doubles.specs.Double.{Double, plus_zero}
use Rattle.refusal.specs.Places.{filled}

-- the score of a row; the mark for no row is no row, and has the score 0
abbrev pub row_score : List Double → ℕ → Double
row_score scores row = get_or scores row plus_zero

-- the scores of the nodes with these ids in front, and zeros behind them
abbrev pub filled_scores : List Double → List ℕ → List Double → List Double
filled_scores scores ids before = filled plus_zero (map (row_score scores) ids) before
