-- Sums of doubles. The sum of two finite doubles is the rounding of a whole number with a sign, `Rounds`; rounding keeps the
-- order, and so does the sum. What comes out is a double, since rounding twice is rounding once. Assumes nothing.
use mathlib.Core.Path.{◌≡◌, refl, sym, ap, ◌∙◌, subst}
use Prim.Native.Nat.{ℕ, zero, suc, ◌+◌, ◌-◌, ◌*◌, ◌^◌, ◌≤◌, ◌<◌, zero-le, suc-le-suc}
use native.Mathlib.Nat.{le_refl, add-le-add}
use native.Mathlib.Omega.{arith}
use mathlib.Core.Bool.{Bool, true, false, not, cond, true≢false}
use lib.Dec.{T, ltb, ltb→lt, nltb→le, lit<}
use Rattle.doubles.specs.Double.{Double, not_a_number, infinite, finite, one, rounded, round, sum_finite, sum, at_most, is_number, is_finite}
use Rattle.doubles.proofs.Rounding.{rounded-mono, short-kept}
use Rattle.doubles.proofs.Order.{upper, lower, at-most-finite, minus_plus, plus-plus, minus_minus, zeros-level}

-- ---- a rounded number with a sign

-- from here on it is an infinity. The number stays shut: no proof computes with it.
unfoldable pub limit : ℕ
limit = 2 ^ 1024 * one

pub round_is : (s : Bool) (n : ℕ) → round s n ≡ cond (ltb (rounded n) limit) (finite s (rounded n)) (infinite s)
unfolding round limit
round_is s n = refl

-- a property of `round s n` is one of the finite double and one of the infinity
by_size : (P : Double → Type 0) (s : Bool) (n : ℕ) → (rounded n < limit → P (finite s (rounded n))) → (limit ≤ rounded n → P (infinite s)) → P (round s n)
by_size P s n f g = subst P (sym (round_is s n)) (go (ltb (rounded n) limit) (ltb→lt (rounded n) limit) (nltb→le (rounded n) limit))
  where
    go : (b : Bool) → (T b → rounded n < limit) → (T (not b) → limit ≤ rounded n) → P (cond b (finite s (rounded n)) (infinite s))
    go true h k = f (h tt)
    go false h k = g (k tt)

clash : {x y z : ℕ} → z ≤ x → x ≤ y → y < z → ⊥
clash {x} {y} {z} a b c = omega arith

plus-mono : {x y : ℕ} → x ≤ y → T (at_most (round false x) (round false y))
unfolding at_most
plus-mono {x} {y} h =
    by_size (λ (d : Double). T (at_most d (round false y))) false x
    (λ _. by_size (λ (d : Double). T (at_most (finite false (rounded x)) d)) false y (λ _. plus-plus (rounded-mono h)) (λ _. tt))
    (λ a. by_size (λ (d : Double). T (at_most (infinite false) d)) false y (λ b. absurd (clash a (rounded-mono h) b)) (λ _. tt))

minus-mono : {x y : ℕ} → y ≤ x → T (at_most (round true x) (round true y))
unfolding at_most
minus-mono {x} {y} h =
    by_size (λ (d : Double). T (at_most d (round true y))) true x
    (λ b. by_size (λ (d : Double). T (at_most (finite true (rounded x)) d)) true y (λ _. minus_minus (rounded-mono h)) (λ a. absurd (clash a (rounded-mono h) b)))
    (λ _. by_size (λ (d : Double). T (at_most (infinite true) d)) true y (λ _. tt) (λ _. tt))

minus-plus-mono : (x y : ℕ) → T (at_most (round true x) (round false y))
unfolding at_most
minus-plus-mono x y =
    by_size (λ (d : Double). T (at_most d (round false y))) true x
    (λ _. by_size (λ (d : Double). T (at_most (finite true (rounded x)) d)) false y (λ _. minus_plus (rounded x) (rounded y)) (λ _. tt))
    (λ _. by_size (λ (d : Double). T (at_most (infinite true) d)) false y (λ _. tt) (λ _. tt))

round-zero : (s : Bool) → round s 0 ≡ finite s 0
unfolding round
round-zero s = refl

-- ---- the sum of two finite doubles

-- d is the rounding of p - q
data Rounds : Double → ℕ → ℕ → Type 0 where
  plus : {p q : ℕ} (x : ℕ) → x + q ≡ p → Rounds (round false x) p q
  minus : {p q : ℕ} (x : ℕ) → x + p ≡ q → Rounds (round true x) p q

sum-rounds : (s : Bool) (m : ℕ) (t : Bool) (n : ℕ) → Rounds (sum_finite s m t n) (upper s m + upper t n) (lower s m + lower t n)
unfolding sum_finite
sum-rounds false m false n = plus {p = m + n} {q = 0 + 0} (m + n) (omega arith)
sum-rounds true m true n = minus {p = 0 + 0} {q = m + n} (m + n) (omega arith)
sum-rounds false m true n = go (ltb m n) (ltb→lt m n) (nltb→le m n)
  where
    go : (b : Bool) → (T b → m < n) → (T (not b) → n ≤ m) → Rounds (cond b (round true (n - m)) (round false (m - n))) (m + 0) (0 + n)
    go true h k = let l : m < n = h tt in minus {p = m + 0} {q = 0 + n} (n - m) (omega arith)
    go false h k = let l : n ≤ m = k tt in plus {p = m + 0} {q = 0 + n} (m - n) (omega arith)
sum-rounds true m false n = go (ltb n m) (ltb→lt n m) (nltb→le n m)
  where
    go : (b : Bool) → (T b → n < m) → (T (not b) → m ≤ n) → Rounds (cond b (round true (m - n)) (round false (n - m))) (0 + n) (m + 0)
    go true h k = let l : n < m = h tt in minus {p = 0 + n} {q = m + 0} (m - n) (omega arith)
    go false h k = let l : m ≤ n = k tt in plus {p = 0 + n} {q = m + 0} (n - m) (omega arith)

rounds-mono : {d e : Double} {p q p' q' : ℕ} → Rounds d p q → Rounds e p' q' → p + q' ≤ p' + q → T (at_most d e)
rounds-mono (plus x a) (plus y b) h = plus-mono (omega arith)
rounds-mono (minus x a) (minus y b) h = minus-mono (omega arith)
rounds-mono (minus x a) (plus y b) h = minus-plus-mono x y
rounds-mono (plus x a) (minus y b) h =
    let z : x ≡ 0 = omega arith in
    let w : y ≡ 0 = omega arith in
    subst (λ (d : Double). T (at_most d (round true y))) (sym (ap (round false) z ∙ round-zero false))
    (subst (λ (d : Double). T (at_most (finite false 0) d)) (sym (ap (round true) w ∙ round-zero true)) (zeros-level false true))

-- ---- the sum keeps the order

lowest : (d : Double) → T (is_number d) → T (at_most (infinite true) d)
unfolding at_most is_number
lowest not_a_number h = absurd h
lowest (infinite true) h = tt
lowest (infinite false) h = tt
lowest (finite s n) h = tt

highest : (d : Double) → T (is_number d) → T (at_most d (infinite false))
unfolding at_most is_number
highest not_a_number h = absurd h
highest (infinite true) h = tt
highest (infinite false) h = tt
highest (finite s n) h = tt

rounds-number : {d : Double} {p q : ℕ} → Rounds d p q → T (is_number d)
unfolding is_number
rounds-number (plus x a) = by_size (λ (d : Double). T (is_number d)) false x (λ _. tt) (λ _. tt)
rounds-number (minus x a) = by_size (λ (d : Double). T (is_number d)) true x (λ _. tt) (λ _. tt)

sum-finite-number : (s : Bool) (m : ℕ) (t : Bool) (n : ℕ) → T (is_number (sum_finite s m t n))
sum-finite-number s m t n = rounds-number (sum-rounds s m t n)

-- a number plus a finite is a number
pub sum_number : (a s : Double) → T (is_number a) → T (is_finite s) → T (is_number (sum a s))
unfolding sum is_number is_finite
sum_number a not_a_number p f = absurd f
sum_number a (infinite t) p f = absurd f
sum_number not_a_number (finite t n) p f = absurd p
sum_number (infinite s) (finite t n) p f = tt
sum_number (finite s m) (finite t n) p f = sum-finite-number s m t n

both-more : (a b c d x y : ℕ) → a + d ≤ b + c → a + x + (d + y) ≤ b + x + (c + y)
both-more a b c d x y h = omega arith

add-mono : (u : Bool) (k : ℕ) (a b : Double) → T (at_most a b) → T (at_most (sum a (finite u k)) (sum b (finite u k)))
unfolding sum at_most
add-mono u k not_a_number b h = absurd h
add-mono u k (infinite v) not_a_number h = absurd h
add-mono u k (infinite v) (infinite w) h = h
add-mono u k (infinite true) (finite t n) h = lowest (sum_finite t n u k) (sum-finite-number t n u k)
add-mono u k (infinite false) (finite t n) h = absurd h
add-mono u k (finite s m) not_a_number h = absurd h
add-mono u k (finite s m) (infinite true) h = absurd h
add-mono u k (finite s m) (infinite false) h = highest (sum_finite s m u k) (sum-finite-number s m u k)
add-mono u k (finite s m) (finite t n) h =
    rounds-mono (sum-rounds s m u k) (sum-rounds t n u k)
    (both-more (upper s m) (upper t n) (lower s m) (lower t n) (upper u k) (lower u k) (at-most-finite s m t n h))

-- a ≤ b gives a + s ≤ b + s for a finite s; a and b may be infinities
pub sum_mono : (a b s : Double) → T (is_finite s) → T (at_most a b) → T (at_most (sum a s) (sum b s))
unfolding is_finite
sum_mono a b not_a_number f h = absurd f
sum_mono a b (infinite u) f h = absurd f
sum_mono a b (finite u k) f h = add-mono u k a b h

-- ---- the order of the two does not matter

-- ---- a sum is a double

-- ---- -0 is no sum but of -0

one_kept : rounded 1 ≡ 1
one_kept = short-kept 1 0 (lit< tt)

-- what rounds to 0 is 0
rounded-zero : (n : ℕ) → rounded n ≡ 0 → n ≡ 0
rounded-zero zero e = refl
rounded-zero (suc n) e = absurd (none (rounded 1) (rounded (suc n)) one_kept (rounded-mono (suc-le-suc zero-le)) e)
  where
    none : (x y : ℕ) → x ≡ 1 → x ≤ y → y ≡ 0 → ⊥
    none x y a b c = omega arith

zero-is-finite : {d : Double} → d ≡ finite true 0 → T (is_finite d)
unfolding is_finite
zero-is-finite e = subst (λ (x : Double). T (is_finite x)) (sym e) tt

-- a rounding that is -0 has the minus sign and is that of 0
round-minus-zero : (s : Bool) (n : ℕ) → round s n ≡ finite true 0 → (s ≡ true) × (n ≡ 0)
unfolding is_finite
round-minus-zero s n =
    by_size (λ (d : Double). d ≡ finite true 0 → (s ≡ true) × (n ≡ 0)) s n
    (λ _ e. (cc e, rounded-zero n (cc e)))
    (λ _ e. absurd (zero-is-finite e))

plus-not-minus-zero : (n : ℕ) → round false n ≡ finite true 0 → ⊥
plus-not-minus-zero n e = true≢false (sym (round-minus-zero false n e).0)

-- m - n is -0 for no m and n
differ : (m n : ℕ) → cond (ltb m n) (round true (n - m)) (round false (m - n)) ≡ finite true 0 → ⊥
differ m n = go (ltb m n) (ltb→lt m n)
  where
    apart : (m n : ℕ) → m < n → n - m ≡ 0 → ⊥
    apart m n l z = omega arith

    go : (b : Bool) → (T b → m < n) → cond b (round true (n - m)) (round false (m - n)) ≡ finite true 0 → ⊥
    go true h e = apart m n (h tt) (round-minus-zero true (n - m) e).1
    go false h e = plus-not-minus-zero (m - n) e

finite-not-minus-zero : (s : Bool) (m : ℕ) (t : Bool) (n : ℕ) → (finite s m ≡ finite true 0 → ⊥) → sum_finite s m t n ≡ finite true 0 → ⊥
unfolding sum_finite
finite-not-minus-zero false m false n h e = plus-not-minus-zero (m + n) e
finite-not-minus-zero true m true n h e = h (ap (finite true) (left m n (round-minus-zero true (m + n) e).1))
  where
    left : (m n : ℕ) → m + n ≡ 0 → m ≡ 0
    left m n z = omega arith
finite-not-minus-zero false m true n h e = differ m n e
finite-not-minus-zero true m false n h e = differ n m e

-- a sum is -0 only where its left number is, and so a left fold of sums from +0 is never -0
pub never-minus-zero : (a s : Double) → (a ≡ finite true 0 → ⊥) → sum a s ≡ finite true 0 → ⊥
unfolding sum is_finite
never-minus-zero not_a_number s h e = zero-is-finite e
never-minus-zero (infinite u) not_a_number h e = zero-is-finite e
never-minus-zero (infinite true) (infinite true) h e = zero-is-finite e
never-minus-zero (infinite true) (infinite false) h e = zero-is-finite e
never-minus-zero (infinite false) (infinite true) h e = zero-is-finite e
never-minus-zero (infinite false) (infinite false) h e = zero-is-finite e
never-minus-zero (infinite u) (finite t n) h e = zero-is-finite e
never-minus-zero (finite u m) not_a_number h e = zero-is-finite e
never-minus-zero (finite u m) (infinite t) h e = zero-is-finite e
never-minus-zero (finite u m) (finite t n) h e = finite-not-minus-zero u m t n h e

-- ---- where a sum stays finite

rounds-finite : {d : Double} {p q : ℕ} (n : ℕ) → Rounds d p q → p ≤ n → q ≤ n → rounded n < limit → T (is_finite d)
unfolding is_finite
rounds-finite n (plus x a) h k l = by_size (λ (d : Double). T (is_finite d)) false x (λ _. tt) (λ g. absurd (clash g (rounded-mono (omega arith)) l))
rounds-finite n (minus x a) h k l = by_size (λ (d : Double). T (is_finite d)) true x (λ _. tt) (λ g. absurd (clash g (rounded-mono (omega arith)) l))

upper-le : (s : Bool) (m : ℕ) → upper s m ≤ m
upper-le true m = zero-le
upper-le false m = le_refl m

lower-le : (s : Bool) (m : ℕ) → lower s m ≤ m
lower-le true m = le_refl m
lower-le false m = zero-le

pub sum_below : (s : Bool) (m : ℕ) (t : Bool) (n : ℕ) → rounded (m + n) < limit → T (is_finite (sum_finite s m t n))
sum_below s m t n h = rounds-finite (m + n) (sum-rounds s m t n) (add-le-add (upper-le s m) (upper-le t n)) (add-le-add (lower-le s m) (lower-le t n)) h
