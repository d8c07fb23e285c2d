-- What stands in places made zero. One law for columns of every width. Assumes nothing.
use mathlib.Core.Path.{◌≡◌, refl, ap, ◌∙◌}
use mathlib.Core.List.{List}
use Prim.Native.Nat.{ℕ, zero, suc}
use lib.ListN.{length, get_or, replicate, length-replicate}
use Rattle.refusal.specs.Places.{zeroed}
use Rattle.build.specs.Held.{ZeroFrom}
use Rattle.build.specs.Memory.{memory, cleared}

pub get_or-zeros : (n k : ℕ) → ◌≡◌ {A = ℕ} (get_or (replicate n 0) k 0) 0
get_or-zeros zero k = refl
get_or-zeros (suc n) zero = refl
get_or-zeros (suc n) (suc k) = get_or-zeros n k

pub zero-from : (xs ys : List ℕ) (n : ℕ) → ys ≡ zeroed 0 xs → ZeroFrom n ys
zero-from xs ys n e k h = ap (λ (l : List ℕ). get_or l k 0) e ∙ get_or-zeros (length xs) k

pub length-zeroed : (xs ys : List ℕ) → ys ≡ zeroed 0 xs → length ys ≡ length xs
length-zeroed xs ys e = ap length e ∙ length-replicate (length xs) 0

-- all columns zero are the memory cleared
pub cleared-is :
    (edge_at edge_n id byte to work : List ℕ) {edge_at' edge_n' id' byte' to' work' : List ℕ} → edge_at' ≡ zeroed 0 edge_at
    → edge_n' ≡ zeroed 0 edge_n → id' ≡ zeroed 0 id → byte' ≡ zeroed 0 byte → to' ≡ zeroed 0 to → work' ≡ zeroed 0 work
    → memory edge_at' edge_n' id' byte' to' work' ≡ cleared (memory edge_at edge_n id byte to work)
unfolding cleared
cleared-is edge_at edge_n id byte to work p q r s t u =
    λ i. memory (p i) (q i) (r i) (s i) (t i) (u i)
