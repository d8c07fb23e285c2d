-- `text::utf8::is_boundary` meets its contract: inside the text the byte decides, at and past its end the position. Assumes
-- nothing.
use native.Mathlib.Omega.{arith}
use Rattle.text.proofs.Reading.{boundary-inside, boundary-outside}
use Rattle.text.proofs.utf8.is_boundary.Goals as goal

pub returns-in-Some : goal.returns-in-Some
returns-in-Some c = grind (arith, boundary-inside)

pub returns-in-None : goal.returns-in-None
returns-in-None c = grind (arith, boundary-outside)
