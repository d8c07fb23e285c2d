-- `doubles::better` meets its contract: the language's comparison is that of the units.
-- Assumes nothing.
use borrow.Author.Rules.{rules}
use Rattle.doubles.proofs.Floats.{lt-is-less}
use Rattle.doubles.proofs.better.Goals as goal

pub returns : goal.returns
returns c = lt-is-less c.args.b c.args.a (search rules) (search rules)
