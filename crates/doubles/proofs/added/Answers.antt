-- `doubles::added` meets its contract: the language's sum is the sum of the units.
-- Assumes nothing.
use borrow.Author.Rules.{rules}
use Rattle.doubles.proofs.Floats.{add-is-sum}
use Rattle.doubles.proofs.added.Goals as goal

pub returns : goal.returns
returns c = add-is-sum c.args.a c.args.s (search rules) (search rules)
