-- The lowest score is one of the scores and at most each of them, so it is finite where they all are; 10 less is finite too,
-- for a finite double. Assumes nothing.
use mathlib.Core.Path.{◌≡◌, refl, sym, ap, subst}
use mathlib.Core.List.{List, [], ◌∷◌, map}
use mathlib.Core.Logic.{⊎_elim}
use Prim.Native.Nat.{ℕ, zero, suc, ◌-◌, ◌≤◌, ◌<◌}
use native.Mathlib.Omega.{arith}
use lib.Dec.{T}
use lib.Ieee.{Float, nan}
use lib.ListN.{length, get_or, take, drop, drop_of_length-le}
use lib.Seq.{drop-cons, take_all}
use Rattle.doubles.specs.Double.{Double, plus_zero, minus_ten, sum, at_most, is_number, is_finite, lower_of}
use Rattle.doubles.proofs.Largest.{is_double}
use Rattle.doubles.specs.Units.{units}
use Rattle.doubles.proofs.Order.{lower-is-one, lower-at-most, at-most-refl, at-most-trans}
use Rattle.doubles.proofs.Largest.{minus-ten-finite}
use Rattle.rows.specs.Scores.{lowest, lowest_of, unknown_score}

-- ---- a loop over the scores: the lowest of the first and the rest is that of what was found and what is left

module _ (score : List Float) where
  pub low_turn :
      (low : Double) (i : ℕ) → i < length score
      → lowest low (map units (drop i score)) ≡ lowest (lower_of low (units (get_or score i nan))) (map units (drop (suc i) score))
  unfolding lowest
  low_turn low i h = ap (λ (l : List Float). lowest low (map units l)) (drop-cons score i nan h)

  pub low-stop : (low : Double) (i : ℕ) → length score ≤ i → lowest low (map units (drop i score)) ≡ low
  unfolding lowest
  low-stop low i h = ap (λ (l : List Float). lowest low (map units l)) (drop_of_length-le score h)

-- ---- the lowest of all, as the code finds it

pub lowest-none : (score : List Float) → length score ≡ 0 → lowest_of (map units score) ≡ plus_zero
unfolding lowest_of
lowest-none [] e = refl
lowest-none (x ∷ score) e = absurd (omega arith)

pub lowest-some :
    (score : List Float) → (length score ≡ 0 → ⊥)
    → lowest_of (map units score) ≡ lowest (units (get_or score 0 nan)) (map units (take (length score - 1) (drop 1 score)))
unfolding lowest_of
lowest-some [] f = absurd (f refl)
lowest-some (x ∷ score) f = rw (take_all (length (x ∷ score) - 1) score (omega arith))

-- "with no rows, -10": 0 and -10, added, are -10
pub unknown-empty : unknown_score [] ≡ minus_ten
unfolding unknown_score lowest_of sum
unknown-empty = refl

-- ---- the lowest is one of the scores, and at most each

-- what holds of two scores holds of the lower
lower_in : (P : Double → Type 0) (x y : Double) → P x → P y → P (lower_of x y)
lower_in P x y p q = ⊎_elim (λ e. subst P (sym e) p) (λ e. subst P (sym e) q) (lower-is-one x y)

-- what holds of x and of each score holds of the lowest
pub lowest-in : (P : Double → Type 0) (x : Double) (xs : List Double) → P x → ((k : ℕ) → k < length xs → P (get_or xs k plus_zero)) → P (lowest x xs)
unfolding lowest
lowest-in P x [] p ps = p
lowest-in P x (y ∷ ys) p ps = lowest-in P (lower_of x y) ys (lower_in P x y p (ps 0 (omega arith))) (λ k h. ps (suc k) (omega arith))

-- no NaN
abbrev pub Number : Double → Type 0
Number x = T (is_number x)

abbrev pub Numbers : List Double → Type 0
Numbers xs = (k : ℕ) → k < length xs → Number (get_or xs k plus_zero)

pub lowest-at-most : (x : Double) (xs : List Double) → Number x → Numbers xs → T (at_most (lowest x xs) x)
unfolding lowest
lowest-at-most x [] p ps = at-most-refl x p
lowest-at-most x (y ∷ ys) p ps =
    let q : Number y = ps 0 (omega arith) in
    let low : Number (lower_of x y) = lower_in Number x y p q in
    at-most-trans (lowest (lower_of x y) ys) (lower_of x y) x (lowest-at-most (lower_of x y) ys low (λ k h. ps (suc k) (omega arith))) (lower-at-most x y p q).0

pub lowest-at-most-each :
    (x : Double) (xs : List Double) → Number x → Numbers xs
    → (k : ℕ) → k < length xs → T (at_most (lowest x xs) (get_or xs k plus_zero))
unfolding lowest
lowest-at-most-each x [] p ps k h = absurd (omega arith)
lowest-at-most-each x (y ∷ ys) p ps zero h =
    let q : Number y = ps 0 (omega arith) in
    let low : Number (lower_of x y) = lower_in Number x y p q in
    at-most-trans (lowest (lower_of x y) ys) (lower_of x y) y (lowest-at-most (lower_of x y) ys low (λ k h. ps (suc k) (omega arith))) (lower-at-most x y p q).1
lowest-at-most-each x (y ∷ ys) p ps (suc k) h =
    lowest-at-most-each (lower_of x y) ys (lower_in Number x y p (ps 0 (omega arith))) (λ j l. ps (suc j) (omega arith)) k (omega arith)

-- ---- what is finite

-- the doubles that a score may be
abbrev pub Scored : Double → Type 0
Scored x = T (is_double x) × T (is_finite x)

-- the unknown score of finite doubles is finite
pub unknown-finite : (xs : List Double) → ((k : ℕ) → k < length xs → Scored (get_or xs k plus_zero)) → T (is_finite (unknown_score xs))
unfolding unknown_score lowest_of is_finite sum
unknown-finite [] h = tt
unknown-finite (x ∷ xs) h =
    let s : Scored (lowest x xs) = lowest-in Scored x xs (h 0 (omega arith)) (λ k l. h (suc k) (omega arith)) in
    minus-ten-finite (lowest x xs) s.0 s.1
