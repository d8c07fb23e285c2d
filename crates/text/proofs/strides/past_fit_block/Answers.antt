-- `text::strides::past_fit_block` meets its contract: a character begins at the block's start, so the block ends with a whole
-- one, which the tails behind it belong to. Assumes nothing.
use Rattle.std.proofs.Common.{rules}
use native.Mathlib.Omega.{arith}
use Rattle.text.proofs.Fitting.{fit-none, fit-one, fit-two}
use Rattle.text.proofs.strides.past_fit_block.Goals as goal

pub returns-then-not-is_tail : goal.returns-then-not-is_tail
returns-then-not-is_tail c = fit-none _ _ 32 (omega arith) (search rules) (search rules) (search rules)

pub returns-then-is_tail : goal.returns-then-is_tail
returns-then-is_tail c = fit-two _ _ 32 (omega arith) (search rules) (search rules) (search rules) (search rules)

pub returns-else-is_tail : goal.returns-else-is_tail
returns-else-is_tail c = fit-one _ _ 32 (omega arith) (search rules) (search rules) (search rules) (search rules)
