-- `pack::scores::score_in` meets its contract: the score is finite, so what is read is the score. Assumes nothing.
use mathlib.Core.Path.{sym, ◌∙◌}
use Rattle.pack.proofs.Scoring.{scores-at}
use Rattle.pack.proofs.scores.score_in.Goals as goal

pub returns : goal.returns
returns c = c.score_at.ensures.very (c.requires.0.finite c.args.i c.requires.1) ∙ sym (scores-at c.args.bytes.now c.args.rows c.args.i c.requires.1)
