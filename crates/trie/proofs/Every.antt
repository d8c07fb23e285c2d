-- A test of every number below a count. A loop that has passed i of them knows `every i test`; one number that fails decides
-- all. Assumes nothing.
use mathlib.Core.Path.{◌≡◌, refl}
use mathlib.Core.Bool.{Bool, true, false, ◌&&◌}
use mathlib.Core.Logic.{⊎_elim}
use Prim.Native.Nat.{ℕ, zero, suc, ◌+◌, ◌<◌}
use native.Mathlib.Nat.{le_of_suc-le-suc, eq-or-lt_of_le}
use native.Mathlib.Numerals.{add-one}
use native.Mathlib.Omega.{arith}
use Rattle.trie.specs.Sound.{every}

-- ---- two tests

pub both : {a b : Bool} → a ≡ true → b ≡ true → a && b ≡ true
both p q = rw (p, q)

pub first : (a b : Bool) → a && b ≡ true → a ≡ true
first true b h = refl
first false b h = h

pub second : (a b : Bool) → a && b ≡ true → b ≡ true
second true b h = h
second false b h = cc

pub fails : (a b : Bool) → b ≡ false → a && b ≡ false
fails true b h = h
fails false b h = refl

-- ---- all of them

module _ (test : ℕ → Bool) where
  pub every-all : (n : ℕ) → every n test ≡ true → (k : ℕ) → k < n → test k ≡ true
  unfolding every
  every-all zero h k l = absurd (omega arith)
  every-all (suc n) h k l =
      ⊎_elim
      (λ e. rw e (second (every n test) (test n) h))
      (λ m. every-all n (first (every n test) (test n) h) k m)
      (eq-or-lt_of_le (le_of_suc-le-suc l))

  pub all-every : (n : ℕ) → ((k : ℕ) → k < n → test k ≡ true) → every n test ≡ true
  unfolding every
  all-every zero all = refl
  all-every (suc n) all = both (all-every n (λ k l. all k (omega arith))) (all n (omega arith))

  pub every-fails : (n k : ℕ) → k < n → test k ≡ false → every n test ≡ false
  unfolding every
  every-fails zero k l h = absurd (omega arith)
  every-fails (suc n) k l h =
      ⊎_elim
      (λ e. fails (every n test) (test n) (rw e at h))
      (λ m. rw (every-fails n k m h))
      (eq-or-lt_of_le (le_of_suc-le-suc l))

  -- the turn of a loop
  pub every-none : every 0 test ≡ true
  unfolding every
  every-none = refl

  pub every_more : (i : ℕ) → every i test ≡ true → test i ≡ true → every (i + 1) test ≡ true
  unfolding every
  every_more i h here = rw add-one (both h here)
