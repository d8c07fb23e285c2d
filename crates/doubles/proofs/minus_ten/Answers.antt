-- `doubles::minus_ten` meets its contract: a difference is the sum with the negative, and the literal's negative is -10.
-- Assumes nothing.
use mathlib.Core.Path.{◌≡◌, refl, ap, ◌∙◌}
use mathlib.Core.Bool.{true}
use Prim.Native.Nat.{◌*◌}
use lib.Dec.{T}
use lib.Ieee.{Float, binary64, sub, neg, fits, of_bits}
use lib.Ieee.Fits.{neg-fits}
use lib.Ieee.Bits.{of_bits-fits}
use borrow.Author.Rules.{rules}
use Rattle.doubles.specs.Double.{finite, one, sum}
use Rattle.doubles.specs.Units.{units}
use Rattle.doubles.proofs.Floats.{add-is-sum}
use Rattle.doubles.proofs.minus_ten.Goals as goal

-- the literal 10.0
abbrev ten : Float
ten = of_bits binary64 0x4024_0000_0000_0000

minus-ten-units : units (neg ten) ≡ finite true (10 * one)
unfolding units neg of_bits
minus-ten-units = refl

difference : (x : Float) → T (fits binary64 x) → units (sub binary64 x ten) ≡ sum (units x) (finite true (10 * one))
unfolding sub
difference x h = add-is-sum x (neg ten) h (neg-fits binary64 ten (of_bits-fits binary64 0x4024_0000_0000_0000)) ∙ ap (sum (units x)) minus-ten-units

pub returns : goal.returns
returns c = difference c.args.x (search rules)
