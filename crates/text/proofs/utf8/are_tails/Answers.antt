-- `text::utf8::are_tails` meets its contract: `tails` takes a step for each byte that is read. Assumes nothing.
use native.Mathlib.Omega.{arith}
use Rattle.text.proofs.Reading.{tails-none, tails-first, tails-only, tails-two}
use Rattle.text.proofs.utf8.are_tails.Goals as goal

pub returns-then-n-eq0 : goal.returns-then-n-eq0
returns-then-n-eq0 c = grind (arith, tails-none)

pub returns-then-n-eq1 : goal.returns-then-n-eq1
returns-then-n-eq1 c = grind (arith, tails-only)

pub returns-else-n-eq1 : goal.returns-else-n-eq1
returns-else-n-eq1 c = grind (arith, tails-two)

pub returns-else-is_tail : goal.returns-else-is_tail
returns-else-is_tail c = grind (arith, tails-first)
