-- A table's rule, proved at once for all of its entries: the rule is a test of a place and its entry, antt computes it down the
-- whole table, and `entry-is` reads off what it says of one place. Assumes nothing.
use mathlib.Core.Path.{◌≡◌, subst}
use mathlib.Core.Bool.{Bool, true, false, ◌&&◌}
use mathlib.Core.List.{List, [], ◌∷◌}
use Prim.Native.Nat.{ℕ, zero, suc, ◌+◌, ◌<◌}
use native.Mathlib.Nat.{zero-add, add-zero, le_of_suc-le-suc, not-suc-le-zero}
use native.Mathlib.Omega.{arith}
use lib.Dec.{T, eqb, eqb→eq}
use lib.ListN.{length, get_or}

-- the rule holds of every entry, the first of which stands at `at`
abbrev pub passes : (ℕ → ℕ → Bool) → ℕ → List ℕ → Bool
passes rule at [] = true
passes rule at (x ∷ xs) = rule at x && passes rule (suc at) xs

and_left : (a b : Bool) → T (a && b) → T a
and_left true b t = tt
and_left false b t = t

and_right : (a b : Bool) → T (a && b) → T b
and_right true b t = t
and_right false b t = absurd t

passes_at : (rule : ℕ → ℕ → Bool) (at : ℕ) (xs : List ℕ) → T (passes rule at xs) → (i : ℕ) → i < length xs → T (rule (at + i) (get_or xs i 0))
passes_at rule at [] t i h = absurd (not-suc-le-zero h)
passes_at rule at (x ∷ xs) t zero h = rw add-zero (and_left (rule at x) (passes rule (suc at) xs) t)
passes_at rule at (x ∷ xs) t (suc i) h =
    let later : T (rule (suc at + i) (get_or xs i 0)) = passes_at rule (suc at) xs (and_right (rule at x) (passes rule (suc at) xs) t) i (le_of_suc-le-suc h) in
    subst (λ (n : ℕ). T (rule n (get_or xs i 0))) (omega arith) later

-- The whole test gives the value at each place: the entry at i is `value i`.
pub entry-is : (value : ℕ → ℕ) (xs : List ℕ) (i : ℕ) → i < length xs → passes (λ at x. eqb x (value at)) 0 xs ≡ true → get_or xs i 0 ≡ value i
entry-is value xs i h e = eqb→eq _ _ (rw zero-add at (passes_at (λ at x. eqb x (value at)) 0 xs (rw e tt) i h))
