-- `pack::scores::lowest_of` meets its contract: 0 with no rows. Assumes nothing.
use mathlib.Core.Path.{sym, ◌∙◌}
use native.Mathlib.Omega.{arith}
use Rattle.doubles.proofs.Patterns.{zero-units}
use Rattle.pack.proofs.Scoring.{lowest-none, lowest-some}
use Rattle.pack.proofs.scores.lowest_of.Goals as goal

pub returns-then-rows-eq0 : goal.returns-then-rows-eq0
returns-then-rows-eq0 c = zero-units ∙ sym (lowest-none c.args.bytes.now c.args.rows c.if-rows-eq0.true)

pub returns : goal.returns
returns c = c.lowest.ensures ∙ sym (lowest-some c.args.bytes.now c.args.rows (omega (arith, c.if-rows-eq0.false)))
