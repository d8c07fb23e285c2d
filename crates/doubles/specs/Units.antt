-- What a program's `f64` is as a `Double`. The logic has an `f64` as `fin s m e`, the number m * 2 ^ e = m * up e / down e. In
-- units of 2 ^ -1074 that is a whole number for every value that the format holds. Definitions only; assumes nothing.
use Rattle.std.specs.Prelude.{◌*◌, ◌/◌, List, map, Float}
use Rattle.std.specs.Float.{nan, inf, fin}
use Rattle.std.specs.Float.Ieee.{up, down}
use Rattle.refusal.specs.Lent.{Lent, LentMut, was, had, is}
use Rattle.doubles.specs.Double.{Double, not_a_number, infinite, finite, one}

unfoldable pub units : Float → Double
units nan = not_a_number
units (inf s) = infinite s
units (fin s m e) = finite s (m * up e * one / down e)

-- a lent column of scores, as doubles: what it held, and what it holds
abbrev pub scores_was : Lent Float → List Double
scores_was x = map units (was x)

-- the same of one that may be written
abbrev pub scores_had : LentMut Float → List Double
scores_had x = map units (had x)

abbrev pub scores_is : LentMut Float → List Double
scores_is x = map units (is x)
