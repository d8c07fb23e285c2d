-- `text::utf8::valid_up_to` meets its contract: what is valid is the blocks of ASCII in front and what is valid after them.
-- Assumes nothing.
use native.Mathlib.Omega.{arith}
use Rattle.text.proofs.Valid.{valid-past}
use Rattle.text.proofs.utf8.valid_up_to.Goals as goal

pub returns-then-ascii-s : goal.returns-then-ascii-s
returns-then-ascii-s c = grind (arith, valid-past)
