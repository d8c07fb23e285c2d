-- `scored::scores::score_of` meets its contract: a row's score is read, and past the rows 0 stands. Assumes nothing.
use mathlib.Core.Path.{◌∙◌}
use Rattle.doubles.proofs.Patterns.{zero-units}
use Rattle.scored.proofs.Storing.{score-none}
use Rattle.scored.proofs.scores.score_of.Goals as goal

pub returns-else-row-score : goal.returns-else-row-score
returns-else-row-score c = zero-units ∙ score-none c.args.score.now c.args.row c.if-row-score.false
