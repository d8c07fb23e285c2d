-- Vectors of IEEE 754 double precision: two doubles, their sum and whether the first is less, as an IEEE machine gives them.
-- The definitions compute every one of them, in one statement over the table. Doubles are written by their bit patterns.
-- Assumes nothing.
use mathlib.Core.Path.{◌≡◌, refl}
use mathlib.Core.List.{List, [], ◌∷◌, map}
use mathlib.Core.Bool.{Bool, true, false}
use Prim.Native.Nat.{ℕ}
use Rattle.doubles.specs.Double.{Double, sum, less, of_pattern}

-- the two patterns, and what a machine answers: the pattern of their sum, and whether the first is less
data Vector : Type 0 where
  vector : ℕ → ℕ → ℕ → Bool → Vector

data Answer : Type 0 where
  answer : Double → Bool → Answer

computed : Vector → Answer
unfolding sum less of_pattern
computed (vector a b c t) = answer (sum (of_pattern a) (of_pattern b)) (less (of_pattern a) (of_pattern b))

stored : Vector → Answer
unfolding of_pattern
stored (vector a b c t) = answer (of_pattern c) t

table : List Vector
table =
    -- 0.1 + 0.2, which is above 0.3
    vector 0x3fb9_9999_9999_999a 0x3fc9_9999_9999_999a 0x3fd3_3333_3333_3334 true
    ∷ vector 0x3fd3_3333_3333_3333 0x3fd3_3333_3333_3334 0x3fe3_3333_3333_3334 true
    -- ties to even: 2 ^ 53 + 1 goes down and 2 ^ 53 + 3 up; so with 1 and half the gap above it
    ∷ vector 0x4340_0000_0000_0000 0x3ff0_0000_0000_0000 0x4340_0000_0000_0000 false
    ∷ vector 0x4340_0000_0000_0001 0x3ff0_0000_0000_0000 0x4340_0000_0000_0002 false
    ∷ vector 0x3ff0_0000_0000_0000 0x3ca0_0000_0000_0000 0x3ff0_0000_0000_0000 false
    ∷ vector 0x3ff0_0000_0000_0001 0x3ca0_0000_0000_0000 0x3ff0_0000_0000_0002 false
    -- the largest double plus half a gap is infinite, and plus less is itself
    ∷ vector 0x7fef_ffff_ffff_ffff 0x7c90_0000_0000_0000 0x7ff0_0000_0000_0000 false
    ∷ vector 0x7fef_ffff_ffff_ffff 0x7c8f_ffff_ffff_ffff 0x7fef_ffff_ffff_ffff false
    -- the smallest twice, the largest subnormal and the smallest, the smallest normal less the largest subnormal
    ∷ vector 0x0000_0000_0000_0001 0x0000_0000_0000_0001 0x0000_0000_0000_0002 false
    ∷ vector 0x000f_ffff_ffff_ffff 0x0000_0000_0000_0001 0x0010_0000_0000_0000 false
    ∷ vector 0x0010_0000_0000_0000 0x800f_ffff_ffff_ffff 0x0000_0000_0000_0001 false
    -- 1 - 1, -0 + -0, -0 + +0
    ∷ vector 0x3ff0_0000_0000_0000 0xbff0_0000_0000_0000 0x0000_0000_0000_0000 false
    ∷ vector 0x8000_0000_0000_0000 0x8000_0000_0000_0000 0x8000_0000_0000_0000 false
    ∷ vector 0x8000_0000_0000_0000 0x0000_0000_0000_0000 0x0000_0000_0000_0000 false
    -- -50 - 10, and the two infinities
    ∷ vector 0xc049_0000_0000_0000 0xc024_0000_0000_0000 0xc04e_0000_0000_0000 true
    ∷ vector 0x7ff0_0000_0000_0000 0xfff0_0000_0000_0000 0x7ff8_0000_0000_0000 false
    ∷ []

vectors-hold : map computed table ≡ map stored table
unfolding computed stored table
vectors-hold = refl
