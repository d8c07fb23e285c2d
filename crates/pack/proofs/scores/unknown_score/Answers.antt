-- `pack::scores::unknown_score` meets its contract: 10 less than the lowest. Assumes nothing.
use mathlib.Core.Path.{ap, ◌∙◌}
use Rattle.doubles.specs.Double.{Double, minus_ten, sum}
use Rattle.rows.specs.Scores.{unknown_score}
use Rattle.pack.proofs.scores.unknown_score.Goals as goal

pub returns : goal.returns
unfolding unknown_score
returns c = c.minus_ten.ensures ∙ ap (λ (x : Double). sum x minus_ten) c.lowest_of.ensures
