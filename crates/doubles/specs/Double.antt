-- IEEE 754 double precision over whole numbers. "In the definitions a finite double is a whole number of units of 2^-1074, with
-- the infinities and the sign of zero beside it; sum, rounding and comparison are defined over these whole numbers." 2 ^ -1074
-- is the smallest positive double, so every finite double is such a number. Nothing here is a fraction. Definitions only;
-- assumes nothing.
use Prim.Native.Nat.{ℕ, zero, suc, ◌+◌, ◌-◌, ◌*◌, ◌/◌, ◌%◌, ◌^◌, compare, Ordering}
use Rattle.std.specs.Prelude.{Bool, true, false, not, ◌&&◌, ◌||◌, cond, leb, ltb, eqb}
use Rattle.std.specs.Bool.{beq}
use Rattle.std.specs.Float.Ieee.{size}

-- `true` is the minus sign. Zero keeps its sign: -0 is `finite true 0`.
pub data Double : Type 0 where
  not_a_number : Double
  infinite : Bool → Double
  finite : Bool → ℕ → Double

-- how many units make 1
abbrev pub one : ℕ
one = 2 ^ 1074

-- +0, the score that sums begin with
abbrev pub plus_zero : Double
plus_zero = finite false 0

abbrev pub minus_ten : Double
minus_ten = finite true (10 * one)

-- ---- rounding: "rounded to nearest, ties to even"

-- The distance between neighbouring doubles at n units. n has `size n` binary digits, and a double keeps the 53 leading ones.
unfoldable pub gap : ℕ → ℕ
unfolding size
gap n = 2 ^ (size n - 53)

-- q or q + 1, by how twice what is left over compares with the whole: the nearer one, and at a tie the even one
unfoldable pub nearer : ℕ → Ordering → ℕ
nearer q Ordering.lt = q
nearer q Ordering.eq = q + q % 2
nearer q Ordering.gt = q + 1

-- the multiple of u that is nearest to n
unfoldable pub nearest_multiple : ℕ → ℕ → ℕ
unfolding nearer
nearest_multiple u n = nearer (n / u) (compare (n % u * 2) u) * u

unfoldable pub rounded : ℕ → ℕ
unfolding gap nearest_multiple
rounded n = nearest_multiple (gap n) n

-- "A sum beyond the largest double is infinite as IEEE 754 has it": what is 2 ^ 1024 or more once it is rounded.
unfoldable pub round : Bool → ℕ → Double
unfolding rounded
round s n = let r = rounded n in cond (ltb r (2 ^ 1024 * one)) (finite s r) (infinite s)

-- ---- the sum

-- of two finite doubles: the exact sum, rounded once. A sum that is exactly zero is -0 only where both are negative.
unfoldable pub sum_finite : Bool → ℕ → Bool → ℕ → Double
unfolding round
sum_finite false m false n = round false (m + n)
sum_finite true m true n = round true (m + n)
sum_finite false m true n = cond (ltb m n) (round true (n - m)) (round false (m - n))
sum_finite true m false n = cond (ltb n m) (round true (m - n)) (round false (n - m))

unfoldable pub sum : Double → Double → Double
unfolding sum_finite
sum not_a_number y = not_a_number
sum (infinite s) not_a_number = not_a_number
sum (infinite s) (infinite t) = cond (beq s t) (infinite s) not_a_number
sum (infinite s) (finite t n) = infinite s
sum (finite s m) not_a_number = not_a_number
sum (finite s m) (infinite t) = infinite t
sum (finite s m) (finite t n) = sum_finite s m t n

-- ---- comparison: -0 equals +0, and where a NaN stands every comparison is false

unfoldable pub less : Double → Double → Bool
less not_a_number y = false
less (infinite s) not_a_number = false
less (infinite s) (infinite t) = s && not t
less (infinite s) (finite t n) = s
less (finite s m) not_a_number = false
less (finite s m) (infinite t) = not t
less (finite false m) (finite false n) = ltb m n
less (finite false m) (finite true n) = false
less (finite true m) (finite false n) = ltb 0 (m + n)
less (finite true m) (finite true n) = ltb n m

unfoldable pub same : Double → Double → Bool
same not_a_number y = false
same (infinite s) not_a_number = false
same (infinite s) (infinite t) = beq s t
same (infinite s) (finite t n) = false
same (finite s m) not_a_number = false
same (finite s m) (infinite t) = false
same (finite s m) (finite t n) = eqb m n && (beq s t || eqb m 0)

unfoldable pub at_most : Double → Double → Bool
unfolding less same
at_most x y = less x y || same x y

-- the lower of two: the second only where it is strictly less
unfoldable pub lower_of : Double → Double → Double
lower_of x y = cond (less y x) y x

unfoldable pub is_number : Double → Bool
is_number not_a_number = false
is_number (infinite s) = true
is_number (finite s n) = true

unfoldable pub is_finite : Double → Bool
is_finite not_a_number = false
is_finite (infinite s) = false
is_finite (finite s n) = true

-- ---- which value a bit pattern stands for

-- a pattern's sign, its 11 digits of exponent, its 52 digits of fraction
unfoldable pub of_fields : Bool → ℕ → ℕ → Double
of_fields s zero t = finite s t
of_fields s (suc x) t = cond (eqb (suc x) 2047) (cond (eqb t 0) (infinite s) not_a_number) (finite s ((2 ^ 52 + t) * 2 ^ x))

-- "a score (f64 bits)"
unfoldable pub of_pattern : ℕ → Double
unfolding of_fields
of_pattern b = of_fields (leb (2 ^ 63) b) (b % 2 ^ 63 / 2 ^ 52) (b % 2 ^ 52)
