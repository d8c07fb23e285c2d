-- `doubles::to_bits` meets its contract: what is equal to itself is no NaN, so a number, and its pattern is read as its double.
-- Assumes nothing.
use borrow.Author.Rules.{rules}
use Rattle.doubles.proofs.Patterns.{bits-are-pattern, equal_no_nan, equal-number, unequal-nan}
use Rattle.doubles.proofs.to_bits.Goals as goal

pub float_to_bits-result : goal.float_to_bits-result
float_to_bits-result c = equal_no_nan c.args.x c.if-x.true

pub returns-then-x : goal.returns-then-x
returns-then-x c = (bits-are-pattern c.args.x (search rules), equal-number c.args.x c.if-x.true)

pub returns : goal.returns
returns c = unequal-nan c.args.x c.if-x.false
