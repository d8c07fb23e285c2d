use native.Mathlib.Omega.{arith}
use Rattle.std.proofs.lemmas.Grind.{common_steps}
use Rattle.text.proofs.Boundaries.{characters-counted}
use Rattle.text.proofs.checked.characters.Goals as goal

pub returns : goal.returns
returns c = rw characters-counted (grind (arith, common_steps))
