-- `text::utf8::valid_after` meets its contract: what is valid is what the strides pass and what is valid after them. Assumes
-- nothing.
use native.Mathlib.Omega.{arith}
use Rattle.text.proofs.Valid.{valid-past}
use Rattle.text.proofs.utf8.valid_after.Goals as goal

pub returns-then-at-s : goal.returns-then-at-s
returns-then-at-s c = grind (arith, valid-past)
