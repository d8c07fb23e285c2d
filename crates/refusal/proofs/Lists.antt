-- Numbers and lists: what more than one layer asks of them. Assumes nothing.
use Rattle.std.specs.Prelude.{None, Some}
use mathlib.Core.Path.{◌≡◌, refl, ap}
use mathlib.Core.Bool.{Bool, true, false}
use mathlib.Core.List.{List, [], ◌∷◌, map}
use mathlib.Core.Logic.{◌⊎◌, inl, inr}
use Prim.Native.Nat.{ℕ, zero, suc, ◌≤◌, ◌<◌}
use native.Mathlib.Omega.{arith}
use borrow.Author.Tests.{leb-true, leb-false}
use lib.Dec.{leb}
use lib.ListN.{length, get_or, set}

-- what would make 0 and 1 equal can't be
pub zero_one : ◌≡◌ {A = ℕ} 0 1 → ⊥
zero_one e = omega (arith, e)

-- nothing is not something, and false is not true: from there anything follows
pub none-some {ℓ} : {A : Type 0} {B : Type ℓ} {x : A} → None ≡ Some x → B
none-some e = absurd (zero_one cc)

pub false-true {ℓ} : {B : Type ℓ} → false ≡ true → B
false-true e = absurd (zero_one cc)

pub true-false : {b : Bool} → b ≡ true → b ≡ false → ⊥
true-false p q = zero_one cc

-- one number below the other, or not
pub below_or : (i j : ℕ) → (i < j) ⊎ (j ≤ i)
below_or i j = go (leb (suc i) j) refl
  where
    go : (t : Bool) → leb (suc i) j ≡ t → (i < j) ⊎ (j ≤ i)
    go true e = inl (leb-true (suc i) j e)
    go false e = inr (let h : j < suc i = leb-false (suc i) j e in omega arith)

pub map-inside {ℓ κ} : {A : Type ℓ} {B : Type κ} (f : A → B) (xs : List A) (k : ℕ) (d : A) (e : B) → k < length xs → get_or (map f xs) k e ≡ f (get_or xs k d)
map-inside f [] k d e l = absurd (omega arith)
map-inside f (x ∷ xs) zero d e l = refl
map-inside f (x ∷ xs) (suc k) d e l = map-inside f xs k d e (omega arith)

pub place_inside {ℓ} : {A : Type ℓ} (xs : List A) (k : ℕ) (d e : A) → k < length xs → get_or xs k d ≡ get_or xs k e
place_inside [] k d e l = absurd (omega arith)
place_inside (x ∷ xs) zero d e l = refl
place_inside (x ∷ xs) (suc k) d e l = place_inside xs k d e (omega arith)

pub map-set {ℓ κ} : {A : Type ℓ} {B : Type κ} (f : A → B) (xs : List A) (k : ℕ) (a : A) → map f (set xs k a) ≡ set (map f xs) k (f a)
map-set f [] k a = refl
map-set f (x ∷ xs) zero a = refl
map-set f (x ∷ xs) (suc k) a = ap (λ l. f x ∷ l) (map-set f xs k a)
