-- The unknown score of a row list. Definitions only; assumes nothing.
use Rattle.std.specs.Prelude.{List, [], ◌∷◌}
use Rattle.doubles.specs.Double.{Double, plus_zero, minus_ten, sum, lower_of}

-- the lowest of x and the other scores
unfoldable pub lowest : Double → List Double → Double
lowest x [] = x
lowest x (y ∷ ys) = lowest (lower_of x y) ys

-- the lowest of all scores; 0 where there are none
unfoldable pub lowest_of : List Double → Double
lowest_of [] = plus_zero
lowest_of (x ∷ xs) = lowest x xs

-- "The unknown score is the lowest score of all rows, repeats included, minus 10, rounded once; with no rows, -10."
unfoldable pub unknown_score : List Double → Double
unknown_score xs = sum (lowest_of xs) minus_ten
