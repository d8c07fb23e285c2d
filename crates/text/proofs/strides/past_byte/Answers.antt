-- `text::strides::past_byte` meets its contract: a byte of ASCII is passed, and then the blocks after it. Assumes nothing.
use native.Mathlib.Omega.{arith}
use Rattle.text.proofs.Passing.{passed_on, passed-byte}
use Rattle.text.proofs.strides.past_byte.Goals as goal

pub returns-then-next-eq0 : goal.returns-then-next-eq0
returns-then-next-eq0 c = passed_on _ _ _ _ (passed-byte _ _ (omega arith) (omega arith)) c.past_all_blocks.ensures

pub returns-else-next-eq0 : goal.returns-else-next-eq0
returns-else-next-eq0 c = passed-byte _ _ (omega arith) (omega arith)
