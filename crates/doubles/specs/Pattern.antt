-- What the answers of `from_bits` and `to_bits` say of a double and its bit pattern. Definitions only; assumes nothing.
use Rattle.std.specs.Prelude.{◌≡◌, T, Option, Some, None, ℕ}
use Rattle.doubles.specs.Double.{Double, not_a_number, infinite, is_number, is_finite, of_pattern}
use Rattle.doubles.specs.Units.{units}
use Rattle.doubles.specs.declared.Pattern.{Pattern}
use Rattle.doubles.specs.declared.Pattern.TheVariants.{Finite, Infinite, NotANumber}

-- the double d is the finite one held, or the infinity of that sign, or no number
abbrev pub Reads : Pattern → Double → Type 0
Reads (Finite x) d = (units x ≡ d) × T (is_finite d)
Reads (Infinite minus) d = d ≡ infinite minus
Reads NotANumber d = d ≡ not_a_number

-- the double d is a number, which the pattern stands for, or no number
abbrev pub Written : Option ℕ → Double → Type 0
Written (Some n) d = (of_pattern n ≡ d) × T (is_number d)
Written None d = d ≡ not_a_number
