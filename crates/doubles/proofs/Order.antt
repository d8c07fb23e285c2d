-- The order of doubles. Under a bound B on the magnitudes, a number has a height: B less its magnitude where it is negative, B
-- more where it is not, and 0 or twice B for the infinities. Comparing doubles is comparing heights, and so every law of the
-- order is one of numbers. Assumes nothing.
use mathlib.Core.Path.{◌≡◌, refl, sym, ap, ap₂, ◌∙◌, subst}
use mathlib.Core.Logic.{◌⊎◌, inl, inr}
use Prim.Native.Nat.{ℕ, suc, ◌+◌, ◌-◌, ◌≤◌, ◌<◌}
use native.Mathlib.Nat.{le_trans, le_of_eq, le_of_lt, lt_of_le_of_lt, le_antisymm, eq-or-lt_of_le, not-le_of_lt}
use native.Mathlib.Omega.{arith}
use mathlib.Core.Bool.{Bool, true, false, not, ◌&&◌, ◌||◌, beq, cond}
use lib.Dec.{T, leb, ltb, eqb, leb→le, le→leb, ltb→lt, lt→ltb, nltb→le, eqb→eq, not_T}
use borrow.Author.Tests.{lt-ltb, le-ltb, eq-eqb, ne_eqb}
use lib.Ieee.Fits.{eq→eqb, and_i, and_l, and_r}
use Rattle.doubles.specs.Double.{Double, not_a_number, infinite, finite, less, same, at_most, lower_of, is_number}

-- ---- tests

pub same_test : (a b : Bool) → (T a → T b) → (T b → T a) → a ≡ b
same_test true true p q = refl
same_test true false p q = absurd (p tt)
same_test false true p q = absurd (q tt)
same_test false false p q = refl

lt_test : (t : Bool) (c d : ℕ) → (T t → c < d) → (c < d → T t) → t ≡ ltb c d
lt_test t c d f g = same_test t (ltb c d) (λ h. lt→ltb c d (f h)) (λ h. g (ltb→lt c d h))

eq_test : (t : Bool) (c d : ℕ) → (T t → c ≡ d) → (c ≡ d → T t) → t ≡ eqb c d
eq_test t c d f g = same_test t (eqb c d) (λ h. eq→eqb (f h)) (λ h. g (eqb→eq c d h))

or_cases : (a b : Bool) → T (a || b) → T a ⊎ T b
or_cases true b h = inl tt
or_cases false b h = inr h

or_l : (a b : Bool) → T a → T (a || b)
or_l true b h = tt
or_l false b h = absurd h

or_r : (a b : Bool) → T b → T (a || b)
or_r true b h = tt
or_r false b h = h

-- ---- heights

abbrev height : ℕ → Double → ℕ
height B not_a_number = 0
height B (infinite true) = 0
height B (infinite false) = B + B
height B (finite true m) = B - m
height B (finite false m) = B + m

abbrev magnitude : Double → ℕ
magnitude not_a_number = 0
magnitude (infinite s) = 0
magnitude (finite s m) = m

abbrev Under : ℕ → Double → Type 0
Under B a = T (is_number a) × (magnitude a < B)

less-height : (B : ℕ) (a b : Double) → Under B a → Under B b → less a b ≡ ltb (height B a) (height B b)
unfolding less is_number
less-height B not_a_number b h k = absurd h.0
less-height B (infinite s) not_a_number h k = absurd k.0
less-height B (infinite true) (infinite true) h k = refl
less-height B (infinite true) (infinite false) h k = sym (lt-ltb 0 (B + B) (omega arith))
less-height B (infinite false) (infinite true) h k = sym (le-ltb (B + B) 0 (omega arith))
less-height B (infinite false) (infinite false) h k = sym (le-ltb (B + B) (B + B) (omega arith))
less-height B (infinite true) (finite true n) h k = sym (lt-ltb 0 (B - n) (omega arith))
less-height B (infinite true) (finite false n) h k = sym (lt-ltb 0 (B + n) (omega arith))
less-height B (infinite false) (finite true n) h k = sym (le-ltb (B + B) (B - n) (omega arith))
less-height B (infinite false) (finite false n) h k = sym (le-ltb (B + B) (B + n) (omega arith))
less-height B (finite s m) not_a_number h k = absurd k.0
less-height B (finite true m) (infinite true) h k = sym (le-ltb (B - m) 0 (omega arith))
less-height B (finite true m) (infinite false) h k = sym (lt-ltb (B - m) (B + B) (omega arith))
less-height B (finite false m) (infinite true) h k = sym (le-ltb (B + m) 0 (omega arith))
less-height B (finite false m) (infinite false) h k = sym (lt-ltb (B + m) (B + B) (omega arith))
less-height B (finite false m) (finite false n) h k = lt_test (ltb m n) (B + m) (B + n) (λ t. omega (arith, ltb→lt m n t)) (λ l. lt→ltb m n (omega arith))
less-height B (finite false m) (finite true n) h k = sym (le-ltb (B + m) (B - n) (omega arith))
less-height B (finite true m) (finite false n) h k = lt_test (ltb 0 (m + n)) (B - m) (B + n) (λ t. omega (arith, ltb→lt 0 (m + n) t)) (λ l. lt→ltb 0 (m + n) (omega arith))
less-height B (finite true m) (finite true n) h k = lt_test (ltb n m) (B - m) (B - n) (λ t. omega (arith, ltb→lt n m t)) (λ l. lt→ltb n m (omega arith))

-- what the test for equality says of two finite doubles
same-says : (m n : ℕ) (p : Bool) → T (eqb m n && (p || eqb m 0)) → (m ≡ n) × (T p ⊎ (m ≡ 0))
same-says m n p t = (
  eqb→eq m n (and_l (eqb m n) (p || eqb m 0) t),
  elim (or_cases p (eqb m 0) (and_r (eqb m n) (p || eqb m 0) t)) [ inl a ↦ inl a | inr b ↦ inr (eqb→eq m 0 b) ],
)

same-zero : (m n : ℕ) → T (eqb m n && (false || eqb m 0)) → (m ≡ 0) × (n ≡ 0)
same-zero m n t = go (same-says m n false t)
  where
    go : (m ≡ n) × (T false ⊎ (m ≡ 0)) → (m ≡ 0) × (n ≡ 0)
    go h = elim h.1 [ inl a ↦ absurd a | inr z ↦ (z, sym h.0 ∙ z) ]

zero_same : (m n : ℕ) → m ≡ 0 → n ≡ 0 → T (eqb m n && (false || eqb m 0))
zero_same m n p q = and_i (eqb m n) (eqb m 0) (eq→eqb (p ∙ sym q)) (eq→eqb p)

same-height : (B : ℕ) (a b : Double) → Under B a → Under B b → same a b ≡ eqb (height B a) (height B b)
unfolding same is_number
same-height B not_a_number b h k = absurd h.0
same-height B (infinite s) not_a_number h k = absurd k.0
same-height B (infinite true) (infinite true) h k = refl
same-height B (infinite true) (infinite false) h k = sym (ne_eqb 0 (B + B) (λ e. omega arith))
same-height B (infinite false) (infinite true) h k = sym (ne_eqb (B + B) 0 (λ e. omega arith))
same-height B (infinite false) (infinite false) h k = sym (eq-eqb (B + B) (B + B) refl)
same-height B (infinite true) (finite true n) h k = sym (ne_eqb 0 (B - n) (λ e. omega arith))
same-height B (infinite true) (finite false n) h k = sym (ne_eqb 0 (B + n) (λ e. omega arith))
same-height B (infinite false) (finite true n) h k = sym (ne_eqb (B + B) (B - n) (λ e. omega arith))
same-height B (infinite false) (finite false n) h k = sym (ne_eqb (B + B) (B + n) (λ e. omega arith))
same-height B (finite s m) not_a_number h k = absurd k.0
same-height B (finite true m) (infinite true) h k = sym (ne_eqb (B - m) 0 (λ e. omega arith))
same-height B (finite true m) (infinite false) h k = sym (ne_eqb (B - m) (B + B) (λ e. omega arith))
same-height B (finite false m) (infinite true) h k = sym (ne_eqb (B + m) 0 (λ e. omega arith))
same-height B (finite false m) (infinite false) h k = sym (ne_eqb (B + m) (B + B) (λ e. omega arith))
same-height B (finite false m) (finite false n) h k =
    eq_test (eqb m n && true) (B + m) (B + n) (λ t. ap (λ (x : ℕ). B + x) (eqb→eq m n (and_l (eqb m n) true t))) (λ e. and_i (eqb m n) true (eq→eqb {a = m} {b = n} (omega arith)) tt)
same-height B (finite false m) (finite true n) h k =
    eq_test (eqb m n && eqb m 0) (B + m) (B - n) (λ t. omega (arith, same-zero m n t)) (λ e. zero_same m n (omega arith) (omega arith))
same-height B (finite true m) (finite false n) h k =
    eq_test (eqb m n && eqb m 0) (B - m) (B + n) (λ t. omega (arith, same-zero m n t)) (λ e. zero_same m n (omega arith) (omega arith))
same-height B (finite true m) (finite true n) h k =
    eq_test (eqb m n && true) (B - m) (B - n) (λ t. ap (λ (x : ℕ). B - x) (eqb→eq m n (and_l (eqb m n) true t))) (λ e. and_i (eqb m n) true (eq→eqb {a = m} {b = n} (omega arith)) tt)

le_parts : (x y : ℕ) → (ltb x y || eqb x y) ≡ leb x y
le_parts x y = same_test (ltb x y || eqb x y) (leb x y) to of
  where
    to : T (ltb x y || eqb x y) → T (leb x y)
    to t = elim (or_cases (ltb x y) (eqb x y) t) [ inl l ↦ le→leb x y (le_of_lt (ltb→lt x y l)) | inr e ↦ le→leb x y (le_of_eq (eqb→eq x y e)) ]

    of : T (leb x y) → T (ltb x y || eqb x y)
    of t = elim (eq-or-lt_of_le (leb→le x y t)) [ inl e ↦ or_r (ltb x y) (eqb x y) (eq→eqb e) | inr l ↦ or_l (ltb x y) (eqb x y) (lt→ltb x y l) ]

at-most-height : (B : ℕ) (a b : Double) → Under B a → Under B b → at_most a b ≡ leb (height B a) (height B b)
unfolding at_most
at-most-height B a b h k = ap₂ ◌||◌ (less-height B a b h k) (same-height B a b h k) ∙ le_parts (height B a) (height B b)

module _ (B : ℕ) (a b : Double) (h : Under B a) (k : Under B b) where
  at-most→le : T (at_most a b) → height B a ≤ height B b
  at-most→le t = leb→le (height B a) (height B b) (subst T (at-most-height B a b h k) t)

  le→at-most : height B a ≤ height B b → T (at_most a b)
  le→at-most l = subst T (sym (at-most-height B a b h k)) (le→leb (height B a) (height B b) l)

  less→lt : T (less a b) → height B a < height B b
  less→lt t = ltb→lt (height B a) (height B b) (subst T (less-height B a b h k) t)

  lt→less : height B a < height B b → T (less a b)
  lt→less l = subst T (sym (less-height B a b h k)) (lt→ltb (height B a) (height B b) l)

-- ---- only numbers are compared

pub less-numbers : (a b : Double) → T (less a b) → T (is_number a) × T (is_number b)
unfolding less is_number
less-numbers not_a_number b t = absurd t
less-numbers (infinite s) not_a_number t = absurd t
less-numbers (infinite s) (infinite u) t = (tt, tt)
less-numbers (infinite s) (finite u n) t = (tt, tt)
less-numbers (finite s m) not_a_number t = absurd t
less-numbers (finite s m) (infinite u) t = (tt, tt)
less-numbers (finite s m) (finite u n) t = (tt, tt)

pub at-most-numbers : (a b : Double) → T (at_most a b) → T (is_number a) × T (is_number b)
unfolding at_most is_number
at-most-numbers not_a_number b t = absurd t
at-most-numbers (infinite s) not_a_number t = absurd t
at-most-numbers (infinite s) (infinite u) t = (tt, tt)
at-most-numbers (infinite s) (finite u n) t = (tt, tt)
at-most-numbers (finite s m) not_a_number t = absurd t
at-most-numbers (finite s m) (infinite u) t = (tt, tt)
at-most-numbers (finite s m) (finite u n) t = (tt, tt)

-- ---- the laws

-- three numbers under one bound
abbrev bound : Double → Double → Double → ℕ
bound a b c = suc (magnitude a + magnitude b + magnitude c)

abbrev Three : Double → Double → Double → Type 0
Three a b c = Under (bound a b c) a × Under (bound a b c) b × Under (bound a b c) c

three : (a b c : Double) → T (is_number a) → T (is_number b) → T (is_number c) → Three a b c
three a b c p q r = go (magnitude a) (magnitude b) (magnitude c)
  where
    go : (x y z : ℕ) → (T (is_number a) × (x < suc (x + y + z))) × (T (is_number b) × (y < suc (x + y + z))) × (T (is_number c) × (z < suc (x + y + z)))
    go x y z = ((p, omega arith), (q, omega arith), (r, omega arith))

pub less-at-most : (a b : Double) → T (less a b) → T (at_most a b)
unfolding at_most
less-at-most a b t = or_l (less a b) (same a b) t

pub at-most-refl : (a : Double) → T (is_number a) → T (at_most a a)
at-most-refl a p = let h = (three a a a p p p).0 in le→at-most (bound a a a) a a h h (le_of_eq refl)

-- of two numbers, what is not less is at least the other, and the other way round
pub not-less-at-most : (a b : Double) → T (is_number a) → T (is_number b) → T (not (less a b)) → T (at_most b a)
not-less-at-most a b p q t =
    let B = bound a b b in
    let u = three a b b p q q in
    le→at-most B b a u.1 u.0 (nltb→le (height B a) (height B b) (subst (λ (x : Bool). T (not x)) (less-height B a b u.0 u.1) t))

pub at-most-not-less : (a b : Double) → T (at_most a b) → T (not (less b a))
at-most-not-less a b t =
    let n = at-most-numbers a b t in
    let B = bound a b b in
    let u = three a b b n.0 n.1 n.1 in
    not_T (less b a) (λ l. not-le_of_lt (less→lt B b a u.1 u.0 l) (at-most→le B a b u.0 u.1 t))

pub at-most-antisymm : (a b : Double) → T (at_most a b) → T (at_most b a) → T (same a b)
at-most-antisymm a b t u =
    let n = at-most-numbers a b t in
    let B = bound a b b in
    let w = three a b b n.0 n.1 n.1 in
    subst T (sym (same-height B a b w.0 w.1)) (eq→eqb (le_antisymm (at-most→le B a b w.0 w.1 t) (at-most→le B b a w.1 w.0 u)))

pub at-most-trans : (a b c : Double) → T (at_most a b) → T (at_most b c) → T (at_most a c)
at-most-trans a b c t u =
    let n = at-most-numbers b c u in
    let B = bound a b c in
    let w = three a b c (at-most-numbers a b t).0 n.0 n.1 in
    le→at-most B a c w.0 w.2 (le_trans (at-most→le B a b w.0 w.1 t) (at-most→le B b c w.1 w.2 u))

pub at-most-less-trans : (a b c : Double) → T (at_most a b) → T (less b c) → T (less a c)
at-most-less-trans a b c t u =
    let n = less-numbers b c u in
    let B = bound a b c in
    let w = three a b c (at-most-numbers a b t).0 n.0 n.1 in
    lt→less B a c w.0 w.2 (lt_of_le_of_lt (at-most→le B a b w.0 w.1 t) (less→lt B b c w.1 w.2 u))

-- ---- equal numbers are one and the same, but for the two zeros

equal-signs : (s t : Bool) (m : ℕ) → (finite s m ≡ finite true 0 → ⊥) → (finite t m ≡ finite true 0 → ⊥) → T (beq s t) ⊎ (m ≡ 0) → finite s m ≡ finite t m
equal-signs true true m p q h = refl
equal-signs false false m p q h = refl
equal-signs true false m p q (inl h) = absurd h
equal-signs true false m p q (inr z) = absurd (p (ap (finite true) z))
equal-signs false true m p q (inl h) = absurd h
equal-signs false true m p q (inr z) = absurd (q (ap (finite true) z))

pub same-equal : (a b : Double) → (a ≡ finite true 0 → ⊥) → (b ≡ finite true 0 → ⊥) → T (same a b) → a ≡ b
unfolding same
same-equal not_a_number b p q t = absurd t
same-equal (infinite s) not_a_number p q t = absurd t
same-equal (infinite true) (infinite true) p q t = refl
same-equal (infinite true) (infinite false) p q t = absurd t
same-equal (infinite false) (infinite true) p q t = absurd t
same-equal (infinite false) (infinite false) p q t = refl
same-equal (infinite s) (finite u n) p q t = absurd t
same-equal (finite s m) not_a_number p q t = absurd t
same-equal (finite s m) (infinite u) p q t = absurd t
same-equal (finite s m) (finite u n) p q t =
    let w = same-says m n (beq s u) t in
    let e : finite u n ≡ finite u m = ap (finite u) (sym w.0) in
    equal-signs s u m p (λ z. q (e ∙ z)) w.1 ∙ sym e

-- ---- the lower of two

pub lower-is-one : (a b : Double) → (lower_of a b ≡ a) ⊎ (lower_of a b ≡ b)
unfolding lower_of
lower-is-one a b = go (less b a)
  where
    go : (t : Bool) → (cond t b a ≡ a) ⊎ (cond t b a ≡ b)
    go true = inr refl
    go false = inl refl

pub lower-at-most : (a b : Double) → T (is_number a) → T (is_number b) → T (at_most (lower_of a b) a) × T (at_most (lower_of a b) b)
unfolding lower_of
lower-at-most a b p q = go (less b a) (less-at-most b a) (not-less-at-most b a q p)
  where
    go : (t : Bool) → (T t → T (at_most b a)) → (T (not t) → T (at_most a b)) → T (at_most (cond t b a) a) × T (at_most (cond t b a) b)
    go true f g = (f tt, at-most-refl b q)
    go false f g = (at-most-refl a p, g tt)

-- ---- what the order of finite doubles says of their magnitudes

-- a finite double is its upper part less its lower part
abbrev pub upper : Bool → ℕ → ℕ
upper true m = 0
upper false m = m

abbrev pub lower : Bool → ℕ → ℕ
lower true m = m
lower false m = 0

pub at-most-finite : (s : Bool) (m : ℕ) (t : Bool) (n : ℕ) → T (at_most (finite s m) (finite t n)) → upper s m + lower t n ≤ upper t n + lower s m
unfolding is_number
at-most-finite s m t n h = go s t (at-most→le (suc (m + n)) (finite s m) (finite t n) (under s m n) (under-right t m n) h)
  where
    under : (s : Bool) (m n : ℕ) → Under (suc (m + n)) (finite s m)
    under s m n = (tt, omega arith)

    under-right : (t : Bool) (m n : ℕ) → Under (suc (m + n)) (finite t n)
    under-right t m n = (tt, omega arith)

    go : (s t : Bool) → height (suc (m + n)) (finite s m) ≤ height (suc (m + n)) (finite t n) → upper s m + lower t n ≤ upper t n + lower s m
    go true true l = omega arith
    go true false l = omega arith
    go false true l = omega arith
    go false false l = omega arith

pub minus_plus : (m n : ℕ) → T (at_most (finite true m) (finite false n))
unfolding is_number
minus_plus m n = le→at-most (suc (m + n)) (finite true m) (finite false n) (tt, omega arith) (tt, omega arith) (omega arith)

pub plus-plus : {m n : ℕ} → m ≤ n → T (at_most (finite false m) (finite false n))
unfolding is_number
plus-plus {m} {n} l = le→at-most (suc (m + n)) (finite false m) (finite false n) (tt, omega arith) (tt, omega arith) (omega arith)

pub minus_minus : {m n : ℕ} → n ≤ m → T (at_most (finite true m) (finite true n))
unfolding is_number
minus_minus {m} {n} l = le→at-most (suc (m + n)) (finite true m) (finite true n) (tt, omega arith) (tt, omega arith) (omega arith)

pub zeros-level : (s t : Bool) → T (at_most (finite s 0) (finite t 0))
unfolding at_most
zeros-level true true = tt
zeros-level true false = tt
zeros-level false true = tt
zeros-level false false = tt
