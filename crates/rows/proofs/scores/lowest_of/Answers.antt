-- `rows::scores::lowest_of` meets its contract: 0 with no scores, else the lowest of the first and the others. Assumes nothing.
use mathlib.Core.Path.{sym, ◌∙◌}
use borrow.Author.Rules.{rules}
use Rattle.doubles.proofs.Patterns.{zero-units}
use Rattle.rows.proofs.LowestScores.{lowest-none, lowest-some}
use Rattle.rows.proofs.scores.lowest_of.Goals as goal

pub returns-then-score-eq0 : goal.returns-then-score-eq0
returns-then-score-eq0 c = zero-units ∙ sym (lowest-none c.args.score.now c.if-score-eq0.true)

pub returns : goal.returns
returns c = c.lowest.ensures ∙ sym (lowest-some c.args.score.now (search rules))
