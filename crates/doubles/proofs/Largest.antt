-- The largest double, and what stays below an infinity. The number half a gap above it is the first that rounds to 2 ^ 1024, so
-- a double below 2 ^ 1024 is at most the largest; and the largest with 10 more rounds to itself. Both are computed once; the
-- rest is that rounding keeps the order. Assumes nothing.
use mathlib.Core.Path.{◌≡◌, refl, sym}
use Prim.Native.Nat.{ℕ, suc, ◌+◌, ◌-◌, ◌*◌, ◌^◌, ◌≤◌, ◌<◌}
use native.Mathlib.Nat.{le_trans, le_of_eq, lt_of_lt_of_le, lt_of_le_of_lt, lt_irrefl, add-le-add, le_refl}
use mathlib.Core.Bool.{Bool, true, false, not, ◌&&◌}
use lib.Dec.{T, leb, ltb, eqb, leb→le, nleb→lt, ltb→lt, eqb→eq, lit<, T_not}
use lib.Ieee.Fits.{and_l, and_r}
use Rattle.doubles.specs.Double.{Double, not_a_number, infinite, finite, one, rounded, sum, sum_finite, less, at_most, is_finite}
use Rattle.doubles.proofs.Rounding.{rounded-mono}
use Rattle.doubles.proofs.Order.{same_test, at-most-not-less, minus_plus, plus-plus, minus_minus}
use Rattle.doubles.proofs.Sums.{limit, sum_below}

-- 2 ^ 1024 - 2 ^ 971, in units
unfoldable pub largest : ℕ
largest = (2 ^ 53 - 1) * 2 ^ 971 * one

-- the last number that rounds to it
edge : ℕ
unfolding largest
edge = largest + (2 ^ 970 * one - 1)

edge-down : rounded edge ≡ largest
unfolding edge largest rounded
edge-down = refl

edge-up : rounded (suc edge) ≡ limit
unfolding edge largest rounded limit
edge-up = refl

largest-below : largest < limit
unfolding largest limit
largest-below = lit< tt

-- A sign and a number of units is a double where rounding does not change it.
unfoldable pub is_double : Double → Bool
unfolding rounded
is_double not_a_number = true
is_double (infinite s) = true
is_double (finite s n) = eqb (rounded n) n && ltb n (2 ^ 1024 * one)

pub double-says : (s : Bool) (m : ℕ) → T (is_double (finite s m)) → (rounded m ≡ m) × (m < limit)
unfolding is_double limit
double-says s m t = (eqb→eq (rounded m) m (and_l (eqb (rounded m) m) (ltb m limit) t), ltb→lt m limit (and_r (eqb (rounded m) m) (ltb m limit) t))

at-most-edge : (m e l t : ℕ) → rounded e ≡ l → rounded (suc e) ≡ t → rounded m ≡ m → m < t → m ≤ l
at-most-edge m e l t down up kept below = go (leb m e) (leb→le m e) (nleb→lt m e)
  where
    go : (b : Bool) → (T b → m ≤ e) → (T (not b) → e < m) → m ≤ l
    go true h k = le_trans (le_of_eq (sym kept)) (le_trans (rounded-mono (h tt)) (le_of_eq down))
    go false h k = absurd (lt_irrefl m (lt_of_lt_of_le below (le_trans (le_of_eq (sym up)) (le_trans (rounded-mono (k tt)) (le_of_eq kept)))))

pub at-most-largest : (s : Bool) (m : ℕ) → T (is_double (finite s m)) → m ≤ largest
at-most-largest s m t = let d = double-says s m t in at-most-edge m edge largest limit edge-down edge-up d.0 d.1

ten : ℕ
ten = 10 * one

ten-more : rounded (largest + ten) ≡ largest
unfolding largest ten rounded
ten-more = refl

minus-ten-below : (s : Bool) (m : ℕ) → m ≤ largest → T (is_finite (sum_finite s m true ten))
minus-ten-below s m h = sum_below s m true ten (lt_of_le_of_lt (le_trans (rounded-mono (add-le-add h (le_refl ten))) (le_of_eq ten-more)) largest-below)

-- a finite double minus 10 is finite
pub minus-ten-finite : (x : Double) → T (is_double x) → T (is_finite x) → T (is_finite (sum x (finite true (10 * one))))
unfolding sum is_finite ten
minus-ten-finite not_a_number d f = absurd f
minus-ten-finite (infinite s) d f = absurd f
minus-ten-finite (finite s m) d f = minus-ten-below s m (at-most-largest s m d)

-- ---- the finite doubles are those between the largest and its negative

between : (d : Double) → T (is_double d) → T (is_finite d) → T (at_most (finite true largest) d) × T (at_most d (finite false largest))
unfolding is_finite
between not_a_number p f = absurd f
between (infinite s) p f = absurd f
between (finite true m) p f = (minus_minus (at-most-largest true m p), minus_plus m largest)
between (finite false m) p f = (minus_plus largest m, plus-plus (at-most-largest false m p))

pub too-low : (d : Double) → T (is_double d) → T (less d (finite true largest)) → T (is_finite d) → ⊥
too-low d p l f = T_not (less d (finite true largest)) (at-most-not-less (finite true largest) d (between d p f).0) l

not-high : (d : Double) → (T (less d (finite true largest)) → ⊥) → T (at_most d (finite false largest)) → T (is_finite d)
unfolding less at_most is_finite
not-high not_a_number l h = absurd h
not-high (infinite true) l h = l tt
not-high (infinite false) l h = absurd h
not-high (finite s m) l h = tt

pub not-too-low : (d : Double) → T (is_double d) → (T (less d (finite true largest)) → ⊥) → at_most d (finite false largest) ≡ is_finite d
not-too-low d p l = same_test (at_most d (finite false largest)) (is_finite d) (not-high d l) (λ f. (between d p f).1)
