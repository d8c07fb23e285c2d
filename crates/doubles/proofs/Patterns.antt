-- Bit patterns. The logic reads a pattern's fields as a number of units with an odd significand; in units that is the number
-- that the fields stand for. Whether a pattern is a NaN's, an infinity's or a finite double's is read off its fields. Assumes
-- nothing.
use mathlib.Core.Path.{◌≡◌, refl, sym, ap, ap₂, ◌∙◌, subst}
use Prim.Native.Nat.{ℕ, zero, suc, ◌+◌, ◌*◌, ◌/◌, ◌%◌, ◌^◌, ◌<◌}
use native.Mathlib.Nat.{mul-one}
use mathlib.Core.Bool.{Bool, true, false, not, ◌&&◌, cond}
use lib.Dec.{T, leb, eqb, eqb_refl}
use lib.Ieee.{Float, nan, inf, fin, binary64, up, down, odd, eq, fits, is_nan, of_bits, to_bits, nan_bits}
use lib.Ieee as Kit
use lib.Ieee.Fits.{and_i}
use lib.Ieee.Exact.{odd_sign}
use lib.Ieee.Bits.{of_bits-to_bits, to_bits-of_bits, of_bits-fits}
use borrow.Author.Tests.{ne_eqb}
use Rattle.doubles.specs.Double.{Double, not_a_number, infinite, finite, is_number, is_finite, of_fields, of_pattern}
use Rattle.doubles.specs.Units.{units}
use Rattle.doubles.proofs.Floats.{value-units, units-injective, nan-is-no-number}

odd-units : (s : Bool) (q k : ℕ) → units (odd 53 s q k 1074) ≡ finite s (q * 2 ^ k)
odd-units s q k = value-units (odd 53 s q k 1074) s (q * 2 ^ k) (odd_sign 53 s q k 1074)

fields-alike : (s : Bool) (x t : ℕ) → units (Kit.of_fields binary64 s x t) ≡ of_fields s x t
unfolding Kit.of_fields of_fields units
fields-alike s zero t = odd-units s t 0 ∙ ap (finite s) (mul-one t)
fields-alike s (suc x) t = go (eqb (suc x) 2047) (eqb t 0)
  where
    go : (a b : Bool) → units (cond a (cond b (inf s) nan) (odd 53 s (2 ^ 52 + t) x 1074)) ≡ cond a (cond b (infinite s) not_a_number) (finite s ((2 ^ 52 + t) * 2 ^ x))
    go true true = refl
    go true false = refl
    go false b = odd-units s (2 ^ 52 + t) x

pub pattern-is-double : (b : ℕ) → units (of_bits binary64 b) ≡ of_pattern b
unfolding of_bits of_pattern
pattern-is-double b = fields-alike (leb (2 ^ 63) b) (b % 2 ^ 63 / 2 ^ 52) (b % 2 ^ 52)

-- the literal 0.0
pub zero-units : units (of_bits binary64 0) ≡ finite false 0
unfolding of_pattern
zero-units = pattern-is-double 0

-- the pattern written for a value is read as its double
pub bits-are-pattern : (x : Float) → T (fits binary64 x) → of_pattern (to_bits binary64 x) ≡ units x
bits-are-pattern x h = sym (pattern-is-double (to_bits binary64 x)) ∙ ap units (of_bits-to_bits binary64 x h)

number-no-nan : (a : ℕ) → T (is_number (of_pattern a)) → T (not (is_nan (of_bits binary64 a)))
number-no-nan a h =
    subst (λ (b : Bool). T (not b)) (sym (nan-is-no-number (of_bits binary64 a)))
    (not-not (is_number (units (of_bits binary64 a))) (subst (λ (d : Double). T (is_number d)) (sym (pattern-is-double a)) h))
  where
    not-not : (b : Bool) → T b → T (not (not b))
    not-not true t = tt
    not-not false t = absurd t

-- a number has one pattern
pub pattern-injective : (a b : ℕ) → a < 2 ^ 64 → b < 2 ^ 64 → T (is_number (of_pattern a)) → of_pattern a ≡ of_pattern b → a ≡ b
pattern-injective a b h k n e =
    let same_units = pattern-is-double a ∙ e ∙ sym (pattern-is-double b) in
    sym (to_bits-of_bits binary64 a h (number-no-nan a n))
    ∙ ap (to_bits binary64) (units-injective (of_bits binary64 a) (of_bits binary64 b) (of_bits-fits binary64 a) (of_bits-fits binary64 b) same_units)
    ∙ to_bits-of_bits binary64 b k (number-no-nan b (subst (λ (d : Double). T (is_number d)) e n))

-- only a NaN differs from itself
pub equal_no_nan : (x : Float) → eq x x ≡ true → T (not (is_nan x))
unfolding is_nan eq
equal_no_nan nan e = absurd (subst T (sym e) tt)
equal_no_nan (inf s) e = tt
equal_no_nan (fin s m k) e = tt

pub equal-number : (x : Float) → eq x x ≡ true → T (is_number (units x))
unfolding eq units is_number
equal-number nan e = absurd (subst T (sym e) tt)
equal-number (inf s) e = tt
equal-number (fin s m k) e = tt

pub unequal-nan : (x : Float) → eq x x ≡ false → units x ≡ not_a_number
unfolding eq units
unequal-nan nan e = refl
unequal-nan (inf true) e = absurd (subst T e tt)
unequal-nan (inf false) e = absurd (subst T e tt)
unequal-nan (fin s m k) e = absurd (subst T e (level-self s (m * up k * down k)))
  where
    level-self : (s : Bool) (a : ℕ) → T (Kit.level s a s a)
    level-self true a = and_i (eqb a a) true (eqb_refl a) tt
    level-self false a = and_i (eqb a a) true (eqb_refl a) tt

-- ---- what a pattern stands for, by its exponent's field x and its digits t

infinite-fields : (s : Bool) (x t : ℕ) → x ≡ 2047 → t ≡ 0 → of_fields s x t ≡ infinite s
unfolding of_fields
infinite-fields s x t p q = ap₂ (of_fields s) p q

nan-fields : (s : Bool) (x t : ℕ) → x ≡ 2047 → (t ≡ 0 → ⊥) → of_fields s x t ≡ not_a_number
unfolding of_fields
nan-fields s x t p q = ap (λ (y : ℕ). of_fields s y t) p ∙ ap (λ (b : Bool). cond b (infinite s) not_a_number) (ne_eqb t 0 q)

finite-fields : (s : Bool) (x t : ℕ) → (x ≡ 2047 → ⊥) → T (is_finite (of_fields s x t))
unfolding of_fields is_finite
finite-fields s zero t p = tt
finite-fields s (suc x) t p =
    subst (λ (b : Bool). T (is_finite (cond b (cond (eqb t 0) (infinite s) not_a_number) (finite s ((2 ^ 52 + t) * 2 ^ x))))) (sym (ne_eqb (suc x) 2047 p)) tt

module _ (n : ℕ) where
  pub infinite-pattern : n % 2 ^ 63 / 2 ^ 52 ≡ 2047 → n % 2 ^ 52 ≡ 0 → of_pattern n ≡ infinite (leb (2 ^ 63) n)
  unfolding of_pattern
  infinite-pattern p q = infinite-fields (leb (2 ^ 63) n) (n % 2 ^ 63 / 2 ^ 52) (n % 2 ^ 52) p q

  pub nan_pattern : n % 2 ^ 63 / 2 ^ 52 ≡ 2047 → (n % 2 ^ 52 ≡ 0 → ⊥) → of_pattern n ≡ not_a_number
  unfolding of_pattern
  nan_pattern p q = nan-fields (leb (2 ^ 63) n) (n % 2 ^ 63 / 2 ^ 52) (n % 2 ^ 52) p q

  pub finite-pattern : (n % 2 ^ 63 / 2 ^ 52 ≡ 2047 → ⊥) → T (is_finite (of_pattern n))
  unfolding of_pattern
  finite-pattern p = finite-fields (leb (2 ^ 63) n) (n % 2 ^ 63 / 2 ^ 52) (n % 2 ^ 52) p

  -- what reading it as an f64 asks
  pub finite-no-nan : (n % 2 ^ 63 / 2 ^ 52 ≡ 2047 → ⊥) → T (not (nan_bits binary64 n))
  unfolding nan_bits
  finite-no-nan p = subst (λ (b : Bool). T (not (b && not (eqb (n % 2 ^ 52) 0)))) (sym (ne_eqb (n % 2 ^ 63 / 2 ^ 52) 2047 p)) tt
