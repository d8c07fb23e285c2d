-- `pack::scores::score_of` meets its contract: past all rows stands 0. Assumes nothing.
use mathlib.Core.Path.{sym, ◌∙◌}
use Rattle.doubles.proofs.Patterns.{zero-units}
use Rattle.pack.proofs.Scoring.{scores-past}
use Rattle.pack.proofs.scores.score_of.Goals as goal

pub returns : goal.returns
returns c = zero-units ∙ sym (scores-past c.args.bytes.now c.args.rows c.args.row c.if-row-rows.false)
