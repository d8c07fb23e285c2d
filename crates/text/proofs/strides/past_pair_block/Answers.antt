-- `text::strides::past_pair_block` meets its contract: the block starts at no tail, so it ends with a whole character, inside
-- it or one byte further. Assumes nothing.
use native.Mathlib.Omega.{arith}
use Rattle.text.proofs.Passing.{paired-tail, paired-lead}
use Rattle.text.proofs.Reading.{tail-quarter, no-tail-quarter}
use Rattle.text.proofs.strides.past_pair_block.Goals as goal

pub returns-then-is_tail-2 : goal.returns-then-is_tail-2
returns-then-is_tail-2 c = grind (arith, paired-tail, tail-quarter, no-tail-quarter)

pub returns-else-is_tail-2 : goal.returns-else-is_tail-2
returns-else-is_tail-2 c = grind (arith, paired-lead, no-tail-quarter)
