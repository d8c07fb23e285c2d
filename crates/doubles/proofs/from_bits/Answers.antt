-- `doubles::from_bits` meets its contract: the two tests read the exponent's field and the digits as `of_pattern` does.
-- Assumes nothing.
use Rattle.doubles.proofs.Patterns.{pattern-is-double, infinite-pattern, nan_pattern, finite-pattern, finite-no-nan}
use Rattle.doubles.proofs.from_bits.Goals as goal

pub returns-then-n-eq0 : goal.returns-then-n-eq0
returns-then-n-eq0 c = infinite-pattern c.args.n c.if-n-eq-ALL_ONES.true c.if-n-eq0.true

pub returns-then-n-eq-ALL_ONES : goal.returns-then-n-eq-ALL_ONES
returns-then-n-eq-ALL_ONES c = nan_pattern c.args.n c.if-n-eq-ALL_ONES.true c.if-n-eq0.false

pub float_from_bits-result : goal.float_from_bits-result
float_from_bits-result c = finite-no-nan c.args.n c.if-n-eq-ALL_ONES.false

pub returns : goal.returns
returns c = (pattern-is-double c.args.n, finite-pattern c.args.n c.if-n-eq-ALL_ONES.false)
