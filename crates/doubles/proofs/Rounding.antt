-- Rounding to 53 binary digits. A number n drops `drop n` digits, so its rounding is a number of at most 2 ^ 53 times the gap.
-- Of two numbers that drop as many digits, the order is that of the numbers kept. Where one drops fewer, a power of two lies
-- between the two results. Assumes nothing.
use mathlib.Core.Path.{◌≡◌, refl, sym, ap, ◌∙◌, subst}
use mathlib.Core.Logic.{◌⊎◌, inl, inr}
use Prim.Native.Nat.{ℕ, zero, suc, ◌+◌, ◌-◌, ◌*◌, ◌/◌, ◌%◌, ◌^◌, ◌≤◌, ◌<◌, zero-le, compare, Ordering}
use native.Mathlib.Nat.{le_trans, le_of_eq, le_of_lt, lt_of_le_of_lt, eq-or-lt_of_le, add-zero, suc-mul, mod-lt, mul_assoc, mul-one, mul-le-mul_right, div-one, mod-one, div-add-mod', le-div_iff_mul-le}
use native.Mathlib.Numerals.{add-one}
use native.Mathlib.Omega.{arith}
use mathlib.Core.Bool.{Bool, true, false, not}
use lib.Dec.{T, leb, is_le, compare_is_eq, leb→le, nleb→lt, eqb→eq}
use lib.Pow.{pow-add, pow_pos, pow_mono, shl_lt}
use lib.Ieee.{size, nearest}
use lib.Ieee.Digits.{size-lt, size-le, size_reaches}
use lib.Ieee.Fits.{kept-lt, nearest-le}
use lib.Ieee.Nearest.{closest, closest_mono, closest_same, nearest-ge}
use Rattle.doubles.specs.Double.{gap, nearer, nearest_multiple, rounded}

-- how many digits n drops: its gap is 2 ^ drop n
abbrev pub drop : ℕ → ℕ
drop n = size n - 53

nearer-is : (q : ℕ) (o : Ordering) → nearer q o ≡ nearest q o
unfolding nearer
nearer-is q Ordering.lt = refl
nearer-is q Ordering.eq = refl
nearer-is q Ordering.gt = add-one q

pub gap_is : (n : ℕ) → gap n ≡ 2 ^ drop n
unfolding gap
gap_is n = refl

pub rounded-is : (n : ℕ) → rounded n ≡ closest n (2 ^ drop n) * 2 ^ drop n
unfolding rounded gap nearest_multiple
rounded-is n = let u = 2 ^ drop n in ap (λ (x : ℕ). x * u) (nearer-is (n / u) (compare (n % u * 2) u))

-- ---- what a number's rounding lies between

-- the multiple of the gap at or below n
abbrev floor : ℕ → ℕ
floor n = n / 2 ^ drop n * 2 ^ drop n

kept-le : (n : ℕ) → closest n (2 ^ drop n) ≤ 2 ^ 53
kept-le n = let u = 2 ^ drop n in le_trans (nearest-le (n / u) (compare (n % u * 2) u)) (kept-lt 53 n)

rounded-le : (n : ℕ) → rounded n ≤ 2 ^ (53 + drop n)
rounded-le n = le_trans (le_of_eq (rounded-is n)) (le_trans (mul-le-mul_right (2 ^ drop n) (kept-le n)) (le_of_eq (sym (pow-add 2 53 (drop n)))))

floor-le : (n : ℕ) → floor n ≤ rounded n
floor-le n =
    let u = 2 ^ drop n in
    le_trans (mul-le-mul_right u (nearest-ge (n / u) (compare (n % u * 2) u))) (le_of_eq (sym (rounded-is n)))

top_digit : (z : ℕ) → 0 < z - 53 → 52 + (z - 53) < z
top_digit z h = omega arith

-- where digits are dropped, the floor has the leading digit
floor-ge : (n : ℕ) → 0 < drop n → 2 ^ (52 + drop n) ≤ floor n
floor-ge n h =
    let u = 2 ^ drop n in
    let a : 2 ^ 52 * u ≤ n = le_trans (le_of_eq (sym (pow-add 2 52 (drop n)))) (size_reaches n (52 + drop n) (top_digit (size n) h)) in
    le_trans (le_of_eq (pow-add 2 52 (drop n))) (mul-le-mul_right u ((le-div_iff_mul-le (pow_pos (drop n))).1 a))

-- ---- the order

fewer : (x y : ℕ) → x ≤ y → x - 53 ≤ y - 53
fewer x y h = omega arith

drop-mono : {a b : ℕ} → a ≤ b → drop a ≤ drop b
drop-mono {a} {b} h = fewer (size a) (size b) (size-le a (size b) (lt_of_le_of_lt h (size-lt b)))

next : (j k : ℕ) → j < k → 53 + j ≤ 52 + k
next j k h = omega arith

-- a number that drops fewer digits rounds to no more than the other's floor
apart : (a b : ℕ) → drop a < drop b → rounded a ≤ floor b
apart a b l = le_trans (rounded-le a) (le_trans (pow_mono (next (drop a) (drop b) l)) (floor-ge b (lt_of_le_of_lt zero-le l)))

together : (k a b : ℕ) → a ≤ b → closest a (2 ^ k) * 2 ^ k ≤ closest b (2 ^ k) * 2 ^ k
together k a b h = mul-le-mul_right (2 ^ k) (closest_mono a (2 ^ k) b (2 ^ k) (pow_pos k) (pow_pos k) (mul-le-mul_right (2 ^ k) h))

pub rounded-mono : {a b : ℕ} → a ≤ b → rounded a ≤ rounded b
rounded-mono {a} {b} h =
    elim (eq-or-lt_of_le (drop-mono h)) [
      | inl e ↦
          le_trans (le_of_eq (rounded-is a ∙ ap (λ (k : ℕ). closest a (2 ^ k) * 2 ^ k) e))
          (le_trans (together (drop b) a b h) (le_of_eq (sym (rounded-is b))))
      | inr l ↦ le_trans (apart a b l) (floor-le b)
    ]

-- ---- what rounding does not change

closest-exact : (q u : ℕ) → 0 < u → closest (q * u) u ≡ q
closest-exact q u h = closest_same (q * u) u q 1 h (pow_pos 0) (mul-one (q * u)) ∙ rw (div-one, mod-one)

exact : (n q : ℕ) → n ≡ q * 2 ^ drop n → rounded n ≡ n
exact n q e =
    let u = 2 ^ drop n in
    rounded-is n ∙ ap (λ (x : ℕ). x * u) (ap (λ (x : ℕ). closest x u) e ∙ closest-exact q u (pow_pos (drop n))) ∙ sym e

spare : (z j : ℕ) → z ≤ 53 + j → z - 53 ≤ j
spare z j h = omega arith

less : (j k : ℕ) → k ≤ j → j - k + k ≡ j
less j k h = omega arith

-- 2 ^ j as a multiple of 2 ^ k
split : (q j k : ℕ) → k ≤ j → q * 2 ^ j ≡ q * 2 ^ (j - k) * 2 ^ k
split q j k h = ap (λ (x : ℕ). q * 2 ^ x) (sym (less j k h)) ∙ ap (λ (x : ℕ). q * x) (pow-add 2 (j - k) k) ∙ sym (mul_assoc q (2 ^ (j - k)) (2 ^ k))

-- a number of at most 53 digits, with zeros after it
pub short-kept : (q j : ℕ) → q < 2 ^ 53 → rounded (q * 2 ^ j) ≡ q * 2 ^ j
short-kept q j h =
    let n = q * 2 ^ j in
    exact n (q * 2 ^ (j - drop n)) (split q j (drop n) (spare (size n) j (size-le n (53 + j) (shl_lt 53 j h))))

-- ---- how far rounding goes

-- the rounding K of a number whose floor is Q, with r left over: the floor where r is at most half the gap u, and the next
-- multiple where r is at least half
abbrev Chosen : ℕ → ℕ → ℕ → ℕ → Type 0
Chosen K Q r u = ((K ≡ Q) × (r * 2 ≤ u)) ⊎ ((K ≡ Q + u) × (u ≤ r * 2))

parity : (q p : ℕ) → q % 2 ≡ p → (p ≡ 0) ⊎ (p ≡ 1)
parity q zero e = inl refl
parity q (suc zero) e = inr refl
parity q (suc (suc p)) e = absurd (none q p e)
  where
    none : (q p : ℕ) → q % 2 ≡ suc (suc p) → ⊥
    none q p e = omega arith

at-tie : (q r u : ℕ) → r * 2 ≡ u → Chosen ((q + q % 2) * u) (q * u) r u
at-tie q r u t =
    elim (parity q (q % 2) refl) [
      | inl e ↦ inl (ap (λ (x : ℕ). (q + x) * u) e ∙ ap (λ (x : ℕ). x * u) (add-zero q), le_of_eq t)
      | inr e ↦ inr (ap (λ (x : ℕ). (q + x) * u) e ∙ ap (λ (x : ℕ). x * u) (add-one q) ∙ suc-mul q u, le_of_eq (sym t))
    ]

chosen : (q r u : ℕ) → Chosen (nearest q (compare (r * 2) u) * u) (q * u) r u
chosen q r u = go (compare (r * 2) u) (leb→le (r * 2) u) (nleb→lt (r * 2) u) (eqb→eq (r * 2) u)
  where
    go : (o : Ordering) → (T (is_le o) → r * 2 ≤ u) → (T (not (is_le o)) → u < r * 2) → (T (compare_is_eq o) → r * 2 ≡ u) → Chosen (nearest q o * u) (q * u) r u
    go Ordering.lt a b c = inl (refl, a tt)
    go Ordering.eq a b c = at-tie q r u (c tt)
    go Ordering.gt a b c = inr (suc-mul q u, le_of_lt (b tt))

rest : ℕ → ℕ
rest n = n % 2 ^ drop n

rounded-chosen : (n : ℕ) → Chosen (rounded n) (floor n) (rest n) (2 ^ drop n)
unfolding rest
rounded-chosen n = let u = 2 ^ drop n in subst (λ (x : ℕ). Chosen x (floor n) (n % u) u) (sym (rounded-is n)) (chosen (n / u) (n % u) u)

whole : (n : ℕ) → floor n + rest n ≡ n
unfolding rest
whole n = div-add-mod' n (2 ^ drop n)

rest_lt : (n : ℕ) → rest n < 2 ^ drop n
unfolding rest
rest_lt n = mod-lt n (pow_pos (drop n))

-- off by at most half a gap, either way
pub rounded-near : (n : ℕ) → (rounded n * 2 ≤ n * 2 + gap n) × (n * 2 ≤ rounded n * 2 + gap n)
rounded-near n = subst (λ (g : ℕ). (rounded n * 2 ≤ n * 2 + g) × (n * 2 ≤ rounded n * 2 + g)) (sym (gap_is n)) (go n (rounded n) (floor n) (rest n) (2 ^ drop n) (whole n) (rest_lt n) (rounded-chosen n))
  where
    go : (n K Q r u : ℕ) → Q + r ≡ n → r < u → Chosen K Q r u → (K * 2 ≤ n * 2 + u) × (n * 2 ≤ K * 2 + u)
    go n K Q r u w l (inl c) = omega arith
    go n K Q r u w l (inr c) = omega arith

-- ---- the doubles around a number: d is one where rounding does not change it

pub no-double-between : (n d : ℕ) → rounded d ≡ d → (d ≤ n → d ≤ rounded n) × (n ≤ d → rounded n ≤ d)
no-double-between n d e = (λ h. le_trans (le_of_eq (sym e)) (rounded-mono h), λ h. le_trans (rounded-mono h) (le_of_eq e))

-- the floor is the greatest double at or below n
floor-greatest : (n d : ℕ) → rounded d ≡ d → d ≤ n → d ≤ floor n
floor-greatest n d e h =
    elim (eq-or-lt_of_le (drop-mono h)) [
      | inl k ↦
          let u = 2 ^ drop n in
          let m : d ≡ closest d u * u = sym e ∙ rounded-is d ∙ ap (λ (x : ℕ). closest d (2 ^ x) * 2 ^ x) k in
          le_trans (le_of_eq m) (mul-le-mul_right u ((le-div_iff_mul-le (pow_pos (drop n))).1 (le_trans (le_of_eq (sym m)) h)))
      | inr l ↦ le_trans (le_of_eq (sym e)) (apart d n l)
    ]

-- a double at or above n is a multiple of n's gap
above-multiple : (n d : ℕ) → rounded d ≡ d → n ≤ d → (c : ℕ) × (d ≡ c * 2 ^ drop n)
above-multiple n d e h =
    let q = closest d (2 ^ drop d) in
    (q * 2 ^ (drop d - drop n), sym e ∙ rounded-is d ∙ split q (drop d) (drop n) (drop-mono h))

below-or-next : (c q u : ℕ) → (c * u ≤ q * u) ⊎ (q * u + u ≤ c * u)
below-or-next c q u = go (leb c q) (leb→le c q) (nleb→lt c q)
  where
    go : (b : Bool) → (T b → c ≤ q) → (T (not b) → q < c) → (c * u ≤ q * u) ⊎ (q * u + u ≤ c * u)
    go true h k = inl (mul-le-mul_right u (h tt))
    go false h k = inr (le_trans (le_of_eq (sym (suc-mul q u))) (mul-le-mul_right u (k tt)))

-- the doubles at or above n are at most the floor, and then n is the floor itself, or at least the next multiple
above-next : (n d : ℕ) → rounded d ≡ d → n ≤ d → (d ≤ floor n) ⊎ (floor n + 2 ^ drop n ≤ d)
above-next n d e h =
    let m = above-multiple n d e h in
    subst (λ (x : ℕ). (x ≤ floor n) ⊎ (floor n + 2 ^ drop n ≤ x)) (sym m.1) (below-or-next m.0 (n / 2 ^ drop n) (2 ^ drop n))

-- how far two numbers are apart
abbrev pub distance : ℕ → ℕ → ℕ
distance a b = (a - b) + (b - a)

-- to nearest: no double is nearer to n than its rounding
pub no-double-nearer : (n d : ℕ) → rounded d ≡ d → distance n (rounded n) ≤ distance n d
no-double-nearer n d e = side (leb d n) (leb→le d n) (nleb→lt d n)
  where
    low : (n d K Q r u : ℕ) → Q + r ≡ n → r < u → Chosen K Q r u → d ≤ n → d ≤ Q → distance n K ≤ distance n d
    low n d K Q r u w l (inl c) h g = omega arith
    low n d K Q r u w l (inr c) h g = omega arith

    high : (n d K Q r u : ℕ) → Q + r ≡ n → r < u → Chosen K Q r u → n ≤ d → (d ≤ Q) ⊎ (Q + u ≤ d) → distance n K ≤ distance n d
    high n d K Q r u w l (inl c) h (inl g) = omega arith
    high n d K Q r u w l (inl c) h (inr g) = omega arith
    high n d K Q r u w l (inr c) h (inl g) = omega arith
    high n d K Q r u w l (inr c) h (inr g) = omega arith

    side : (b : Bool) → (T b → d ≤ n) → (T (not b) → n < d) → distance n (rounded n) ≤ distance n d
    side true h k = low n d (rounded n) (floor n) (rest n) (2 ^ drop n) (whole n) (rest_lt n) (rounded-chosen n) (h tt) (floor-greatest n d e (h tt))
    side false h k = high n d (rounded n) (floor n) (rest n) (2 ^ drop n) (whole n) (rest_lt n) (rounded-chosen n) (le_of_lt (k tt)) (above-next n d e (le_of_lt (k tt)))
