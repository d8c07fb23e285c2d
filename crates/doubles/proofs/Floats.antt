-- A program's `f64` as a double. The logic has its value as m * 2 ^ e and an operation's result as a fraction, rounded. In
-- units of 2 ^ -1074 the fraction num / den is the whole number N where num * 2 ^ 1074 is N * den, and then the logic's
-- rounding of it is ours of N. Assumes nothing.
use mathlib.Core.Path.{◌≡◌, refl, sym, ap, ap₂, ◌∙◌, subst}
use Prim.Native.Nat.{ℕ, zero, suc, ◌+◌, ◌-◌, ◌*◌, ◌/◌, ◌%◌, ◌^◌, ◌≤◌, ◌<◌}
use native.Mathlib.Nat.{le_of_eq, le_of_suc-le-suc, lt_of_lt_of_le, lt_of_le_of_lt, lt_of_not-le, lt_irrefl, zero-mul, one-mul, mul-one, mul_comm, mul_assoc, mul_right_comm, mul-pos, add-mul, mul-sub, mul-div_cancel, mul-lt-mul_of_pos_right, lt_of_mul-lt-mul_right, eq_of_mul-eq-mul_right}
use native.Mathlib.Omega.{arith}
use mathlib.Core.Bool.{Bool, true, false, not, ◌&&◌, ◌||◌, beq, cond}
use lib.IntN.{ℤ, pos, negsuc}
use lib.Dec.{T, leb, ltb, eqb, leb→le, ltb→lt, lt→ltb, nltb→le, eqb→eq, lit<}
use lib.Pow.{pow-add, pow_pos, pow-lt}
use lib.Ieee.{Float, nan, inf, fin, binary64, up, down, size, odd, add, lt, le, eq, fits, is_nan, to_bits, of_bits}
use lib.Ieee as Kit
use lib.Ieee.Fits.{core, down_pos, eq→eqb, and_i, and_l, and_r, round-fits, nan-fits, inf-fits}
use lib.Ieee.Fits as KitFits
use lib.Ieee.Exact.{HasValue, odd_sign}
use lib.Ieee.Nearest.{closest, closest_same}
use lib.Ieee.Bits.{of_bits-to_bits}
use borrow.Author.Tests.{lt-ltb}
use Rattle.doubles.specs.Double.{Double, not_a_number, infinite, finite, one, rounded, round, sum_finite, sum, less, same, at_most, is_number}
use Rattle.doubles.specs.Units.{units}
use Rattle.doubles.proofs.Rounding.{drop, rounded-is, short-kept}
use Rattle.doubles.proofs.Order.{same_test}
use Rattle.doubles.proofs.Sums.{limit, round_is}
use Rattle.doubles.proofs.Largest.{is_double, double-says}

-- ---- the logic's rounding is ours

-- a value that is n units is `finite s n`
pub value-units : (x : Float) (s : Bool) (n : ℕ) → HasValue x s n one → units x ≡ finite s n
unfolding units
value-units nan s n h = absurd h
value-units (inf t) s n h = absurd h
value-units (fin t m e) s n h = ap₂ finite h.0 (ap (λ (x : ℕ). x / down e) h.1 ∙ mul-div_cancel n (down_pos e))

kept-units : (s : Bool) (q k : ℕ) → units (Kit.units binary64 s q k) ≡ cond (ltb (q * 2 ^ k) limit) (finite s (q * 2 ^ k)) (infinite s)
unfolding Kit.units limit units
kept-units s q k = go (ltb (q * 2 ^ k) limit)
  where
    go : (b : Bool) → units (cond b (odd 54 s q k 1074) (inf s)) ≡ cond b (finite s (q * 2 ^ k)) (infinite s)
    go true = value-units (odd 54 s q k 1074) s (q * 2 ^ k) (odd_sign 54 s q k 1074)
    go false = refl

pub round-alike : (s : Bool) (num den n : ℕ) → 0 < den → num * one ≡ n * den → units (Kit.round binary64 s num den) ≡ round s n
round-alike s num den n d e =
    let k = drop n in
    ap units (KitFits.round_is binary64 s num den)
    ∙ ap (λ (x : ℕ). units (core binary64 s x den (size (x / den) - 53))) e
    ∙ ap (λ (x : ℕ). units (core binary64 s (n * den) den (size x - 53))) (mul-div_cancel n d)
    ∙ ap (λ (x : ℕ). units (Kit.units binary64 s x k)) (closest_same (n * den) (den * 2 ^ k) n (2 ^ k) (mul-pos d (pow_pos k)) (pow_pos k) (mul_assoc n den (2 ^ k)))
    ∙ kept-units s (closest n (2 ^ k)) k
    ∙ ap (λ (x : ℕ). cond (ltb x limit) (finite s x) (infinite s)) (sym (rounded-is n))
    ∙ sym (round_is s n)

-- ---- a value that the format holds is a whole number of units, and a double

pow_le_back : (a l : ℕ) → 2 ^ a ≤ 2 ^ l → a ≤ l
pow_le_back a l h = le_of_suc-le-suc (lt_of_not-le (λ (g : suc l ≤ a). lt_irrefl (2 ^ l) (lt_of_lt_of_le (pow-lt g) h)))

less-more : (l a : ℕ) → a ≤ l → l - a + a ≡ l
less-more l a h = omega arith

-- 2 ^ e is 2 ^ j units of 2 ^ -l
shifted : (l : ℕ) (e : ℤ) → down e ≤ 2 ^ l → (j : ℕ) × (up e * 2 ^ l ≡ 2 ^ j * down e)
shifted l (pos k) h = (k + l, sym (mul-one (2 ^ (k + l)) ∙ pow-add 2 k l))
shifted l (negsuc k) h =
    (l - suc k, one-mul (2 ^ l) ∙ ap (λ (x : ℕ). 2 ^ x) (sym (less-more l (suc k) (pow_le_back (suc k) l h))) ∙ pow-add 2 (l - suc k) (suc k))

-- the number of units of a value that fits
abbrev Placed : ℕ → ℤ → Type 0
Placed m e = (n : ℕ) × (m * up e * one ≡ n * down e) × (rounded n ≡ n) × (n < limit)

limit_is : limit ≡ 2 ^ 1024 * one
unfolding limit
limit_is = refl

-- m * u < t * d with m * u * o = n * d gives n < t * o
below-limit : (m u t d n o : ℕ) → 0 < o → m * u < t * d → m * u * o ≡ n * d → n < t * o
below-limit m u t d n o O h e = lt_of_mul-lt-mul_right d (lt_of_le_of_lt (le_of_eq (sym e)) (lt_of_lt_of_le (mul-lt-mul_of_pos_right h O) (le_of_eq (mul_right_comm t d o))))

place : (m : ℕ) (e : ℤ) → m < 2 ^ 53 → down e ≤ one → m * up e < 2 ^ 1024 * down e → Placed m e
place m e a b c =
    let z = shifted 1074 e b in
    let n = m * 2 ^ z.0 in
    let v : m * up e * one ≡ n * down e = mul_assoc m (up e) one ∙ ap (λ (x : ℕ). m * x) z.1 ∙ sym (mul_assoc m (2 ^ z.0) (down e)) in
    (n, v, short-kept m z.0 a, subst (λ (x : ℕ). n < x) (sym limit_is) (below-limit m (up e) (2 ^ 1024) (down e) n one (pow_pos 1074) c v))

zero-below : 0 < limit
unfolding limit
zero-below = lit< tt

placed : (s : Bool) (m : ℕ) (e : ℤ) → T (fits binary64 (fin s m e)) → Placed m e
unfolding fits
placed s zero e h = (0, ap (λ (x : ℕ). x * one) (zero-mul (up e)) ∙ sym (zero-mul (down e)), short-kept 0 0 (lit< tt), zero-below)
placed s (suc m) e h =
    let a = eqb (suc m % 2) 1 in
    let b = ltb (suc m) (2 ^ 53) in
    let c = leb (down e) one in
    let d = ltb (suc m * up e) (2 ^ 1024 * down e) in
    let abc : T (a && b && c) = and_l (a && b && c) d h in
    place (suc m) e (ltb→lt (suc m) (2 ^ 53) (and_r a b (and_l (a && b) c abc))) (leb→le (down e) one (and_r (a && b) c abc)) (ltb→lt (suc m * up e) (2 ^ 1024 * down e) (and_r (a && b && c) d h))

placed-units : (s : Bool) (m : ℕ) (e : ℤ) (p : Placed m e) → units (fin s m e) ≡ finite s p.0
placed-units s m e p = value-units (fin s m e) s p.0 (refl, p.1)

-- ---- two numbers a / c and b / c that are m and n units

module _ (a b c m n : ℕ) (C : 0 < c) (p : a * one ≡ m * c) (q : b * one ≡ n * c) where
  lt-alike : ltb a b ≡ ltb m n
  lt-alike =
      same_test (ltb a b) (ltb m n)
      (λ t. lt→ltb m n (lt_of_mul-lt-mul_right c (lt_of_le_of_lt (le_of_eq (sym p)) (lt_of_lt_of_le (mul-lt-mul_of_pos_right (ltb→lt a b t) (pow_pos 1074)) (le_of_eq q)))))
      (λ t. lt→ltb a b (lt_of_mul-lt-mul_right one (lt_of_le_of_lt (le_of_eq p) (lt_of_lt_of_le (mul-lt-mul_of_pos_right (ltb→lt m n t) C) (le_of_eq (sym q))))))

  eq-alike : eqb a b ≡ eqb m n
  eq-alike =
      same_test (eqb a b) (eqb m n)
      (λ t. eq→eqb (eq_of_mul-eq-mul_right c C m n (sym p ∙ ap (λ (x : ℕ). x * one) (eqb→eq a b t) ∙ q)))
      (λ t. eq→eqb (eq_of_mul-eq-mul_right one (pow_pos 1074) a b (p ∙ ap (λ (x : ℕ). x * c) (eqb→eq m n t) ∙ sym q)))

  plus-alike : (a + b) * one ≡ (m + n) * c
  plus-alike = add-mul a b one ∙ ap₂ ◌+◌ p q ∙ sym (add-mul m n c)

  minus-alike : (a - b) * one ≡ (m - n) * c
  minus-alike = sub-mul a b one ∙ ap₂ ◌-◌ p q ∙ sym (sub-mul m n c)
    where
      sub-mul : (x y z : ℕ) → (x - y) * z ≡ x * z - y * z
      sub-mul x y z = mul_comm (x - y) z ∙ mul-sub z x y ∙ ap₂ ◌-◌ (mul_comm z x) (mul_comm z y)

level : (m n : ℕ) → n ≤ m → m ≤ n → m - n ≡ n - m
level m n a b = omega arith

clash : (m n : ℕ) → m < n → n < m → ⊥
clash m n a b = omega arith

sum_alike : (s : Bool) (a : ℕ) (t : Bool) (b c m n : ℕ) → 0 < c → a * one ≡ m * c → b * one ≡ n * c → units (Kit.sum binary64 s a t b c) ≡ sum_finite s m t n
unfolding Kit.sum sum_finite
sum_alike false a false b c m n C p q = round-alike false (a + b) c (m + n) C (plus-alike a b c m n C p q)
sum_alike true a true b c m n C p q = round-alike true (a + b) c (m + n) C (plus-alike a b c m n C p q)
sum_alike false a true b c m n C p q = ap (λ (x : Bool). units (cond x (Kit.round binary64 true (b - a) c) (Kit.round binary64 false (a - b) c))) (lt-alike a b c m n C p q) ∙ go (ltb m n)
  where
    go : (x : Bool) → units (cond x (Kit.round binary64 true (b - a) c) (Kit.round binary64 false (a - b) c)) ≡ cond x (round true (n - m)) (round false (m - n))
    go true = round-alike true (b - a) c (n - m) C (minus-alike b a c n m C q p)
    go false = round-alike false (a - b) c (m - n) C (minus-alike a b c m n C p q)
sum_alike true a false b c m n C p q =
    ap₂ (λ (x y : Bool). units (cond x (Kit.round binary64 false (b - a) c) (Kit.round binary64 y (a - b) c))) (lt-alike a b c m n C p q) (lt-alike b a c n m C q p)
    ∙ go (ltb m n) (ltb n m) (ltb→lt m n) (ltb→lt n m) (nltb→le m n) (nltb→le n m)
  where
    go : (x y : Bool) → (T x → m < n) → (T y → n < m) → (T (not x) → n ≤ m) → (T (not y) → m ≤ n)
        → units (cond x (Kit.round binary64 false (b - a) c) (Kit.round binary64 y (a - b) c)) ≡ cond y (round true (m - n)) (round false (n - m))
    go true true h k u v = absurd (clash m n (h tt) (k tt))
    go true false h k u v = round-alike false (b - a) c (n - m) C (minus-alike b a c n m C q p)
    go false true h k u v = round-alike true (a - b) c (m - n) C (minus-alike a b c m n C p q)
    go false false h k u v = round-alike false (a - b) c (m - n) C (minus-alike a b c m n C p q) ∙ ap (round false) (level m n (u tt) (v tt))

-- ---- the operations

-- two values over one denominator
abbrev cross : ℕ → ℤ → ℤ → ℕ
cross m e d = m * up e * down d

over : (m : ℕ) (e d : ℤ) (n : ℕ) → m * up e * one ≡ n * down e → cross m e d * one ≡ n * (down e * down d)
over m e d n v = mul_right_comm (m * up e) (down d) one ∙ ap (λ (x : ℕ). x * down d) v ∙ mul_assoc n (down e) (down d)

over-right : (m : ℕ) (e d : ℤ) (n : ℕ) → m * up e * one ≡ n * down e → cross m e d * one ≡ n * (down d * down e)
over-right m e d n v = over m e d n v ∙ ap (λ (x : ℕ). n * x) (mul_comm (down e) (down d))

denominator : (e d : ℤ) → 0 < down e * down d
denominator e d = mul-pos (down_pos e) (down_pos d)

pub add-is-sum : (x y : Float) → T (fits binary64 x) → T (fits binary64 y) → units (add binary64 x y) ≡ sum (units x) (units y)
unfolding add units sum
add-is-sum nan y h k = refl
add-is-sum (inf s) nan h k = refl
add-is-sum (inf true) (inf true) h k = refl
add-is-sum (inf true) (inf false) h k = refl
add-is-sum (inf false) (inf true) h k = refl
add-is-sum (inf false) (inf false) h k = refl
add-is-sum (inf s) (fin t n d) h k = refl
add-is-sum (fin s m e) nan h k = refl
add-is-sum (fin s m e) (inf t) h k = refl
add-is-sum (fin s m e) (fin t n d) h k =
    let p = placed s m e h in
    let q = placed t n d k in
    sum_alike s (cross m e d) t (cross n d e) (down e * down d) p.0 q.0 (denominator e d) (over m e d p.0 p.1) (over-right n d e q.0 q.1)
    ∙ sym (ap₂ sum (placed-units s m e p) (placed-units t n d q))

below_alike : (s : Bool) (a : ℕ) (t : Bool) (b c m n : ℕ) → 0 < c → a * one ≡ m * c → b * one ≡ n * c → Kit.below s a t b ≡ less (finite s m) (finite t n)
unfolding less
below_alike false a false b c m n C p q = lt-alike a b c m n C p q
below_alike false a true b c m n C p q = refl
below_alike true a false b c m n C p q = lt-alike 0 (a + b) c 0 (m + n) C (zero-mul one ∙ sym (zero-mul c)) (plus-alike a b c m n C p q)
below_alike true a true b c m n C p q = lt-alike b a c n m C q p

pub lt-is-less : (x y : Float) → T (fits binary64 x) → T (fits binary64 y) → lt x y ≡ less (units x) (units y)
unfolding lt units less
lt-is-less nan y h k = refl
lt-is-less (inf s) nan h k = refl
lt-is-less (inf s) (inf t) h k = refl
lt-is-less (inf s) (fin t n d) h k = refl
lt-is-less (fin s m e) nan h k = refl
lt-is-less (fin s m e) (inf t) h k = refl
lt-is-less (fin s m e) (fin t n d) h k =
    let p = placed s m e h in
    let q = placed t n d k in
    below_alike s (cross m e d) t (cross n d e) (down e * down d) p.0 q.0 (denominator e d) (over m e d p.0 p.1) (over-right n d e q.0 q.1)
    ∙ sym (ap₂ less (placed-units s m e p) (placed-units t n d q))

level-alike : (s : Bool) (a : ℕ) (t : Bool) (b c m n : ℕ) → 0 < c → a * one ≡ m * c → b * one ≡ n * c → Kit.level s a t b ≡ same (finite s m) (finite t n)
unfolding same
level-alike s a t b c m n C p q =
    ap₂ (λ (x y : Bool). x && (beq s t || y)) (eq-alike a b c m n C p q) (eq-alike a 0 c m 0 C p (zero-mul one ∙ sym (zero-mul c)))

pub eq-is-same : (x y : Float) → T (fits binary64 x) → T (fits binary64 y) → eq x y ≡ same (units x) (units y)
unfolding eq units same
eq-is-same nan y h k = refl
eq-is-same (inf s) nan h k = refl
eq-is-same (inf s) (inf t) h k = refl
eq-is-same (inf s) (fin t n d) h k = refl
eq-is-same (fin s m e) nan h k = refl
eq-is-same (fin s m e) (inf t) h k = refl
eq-is-same (fin s m e) (fin t n d) h k =
    let p = placed s m e h in
    let q = placed t n d k in
    level-alike s (cross m e d) t (cross n d e) (down e * down d) p.0 q.0 (denominator e d) (over m e d p.0 p.1) (over-right n d e q.0 q.1)
    ∙ sym (ap₂ same (placed-units s m e p) (placed-units t n d q))

pub le-is-at-most : (x y : Float) → T (fits binary64 x) → T (fits binary64 y) → le x y ≡ at_most (units x) (units y)
unfolding le at_most
le-is-at-most x y h k = ap₂ ◌||◌ (lt-is-less x y h k) (eq-is-same x y h k)

-- ---- the values that the format holds are the doubles, one for one

finite-double : (s : Bool) (n : ℕ) → rounded n ≡ n → n < limit → T (is_double (finite s n))
unfolding is_double limit
finite-double s n e h = and_i (eqb (rounded n) n) (ltb n limit) (eq→eqb e) (lt→ltb n limit h)

pub units-is-double : (x : Float) → T (fits binary64 x) → T (is_double (units x))
unfolding is_double units
units-is-double nan h = tt
units-is-double (inf s) h = tt
units-is-double (fin s m e) h =
    let p = placed s m e h in
    subst (λ (d : Double). T (is_double d)) (sym (placed-units s m e p)) (finite-double s p.0 p.2 p.3)

double-round : (s : Bool) (n : ℕ) → T (is_double (finite s n)) → round s n ≡ finite s n
double-round s n t =
    let d = double-says s n t in
    round_is s n ∙ ap (λ (x : ℕ). cond (ltb x limit) (finite s x) (infinite s)) d.0 ∙ ap (λ (b : Bool). cond b (finite s n) (infinite s)) (lt-ltb n limit d.1)

pub double-is-units : (d : Double) → T (is_double d) → (x : Float) × T (fits binary64 x) × (units x ≡ d)
unfolding units
double-is-units not_a_number t = (nan, nan-fits binary64, refl)
double-is-units (infinite s) t = (inf s, inf-fits binary64 s, refl)
double-is-units (finite s n) t = (Kit.round binary64 s n one, round-fits binary64 s n one, round-alike s n one n (pow_pos 1074) refl ∙ double-round s n t)

-- the bit pattern of a double, by its units: the logic's `to_bits` knows no more of a value
bits : Double → ℕ
bits not_a_number = to_bits binary64 nan
bits (infinite s) = to_bits binary64 (inf s)
bits (finite s n) = cond s (2 ^ 63) 0 + drop n * 2 ^ 52 + n / 2 ^ drop n

bits-units : (x : Float) → to_bits binary64 x ≡ bits (units x)
unfolding bits units to_bits
bits-units nan = refl
bits-units (inf s) = refl
bits-units (fin s m e) = refl

pub units-injective : (x y : Float) → T (fits binary64 x) → T (fits binary64 y) → units x ≡ units y → x ≡ y
units-injective x y h k e =
    sym (of_bits-to_bits binary64 x h) ∙ ap (of_bits binary64) (bits-units x ∙ ap bits e ∙ sym (bits-units y)) ∙ of_bits-to_bits binary64 y k

-- ---- which values are NaN, and which are finite

pub nan-is-no-number : (x : Float) → is_nan x ≡ not (is_number (units x))
unfolding is_nan units is_number
nan-is-no-number nan = refl
nan-is-no-number (inf s) = refl
nan-is-no-number (fin s m e) = refl
