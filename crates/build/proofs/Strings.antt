-- Strings, as lists of bytes: `same` is equality, and the last byte of a string and what stands before it are the string's own.
-- Assumes nothing.
use mathlib.Core.Path.{◌≡◌, refl, sym, ap, ◌∙◌}
use mathlib.Core.Bool.{Bool, true, false, ◌&&◌}
use mathlib.Core.List.{List, [], ◌∷◌, ◌++◌}
use mathlib.Core.Logic.{◌⊎◌, inl, inr}
use Prim.Native.Nat.{ℕ, suc}
use native.Mathlib.Omega.{arith}
use borrow.Author.Tests.{eq-eqb, eqb-true}
use lib.Dec.{eqb}
use lib.ListN.{length, length-append}
use Rattle.refusal.proofs.Lists.{false-true}
use Rattle.build.specs.Names.{same}

pub and_left : (a b : Bool) → (a && b) ≡ true → a ≡ true
and_left true b e = refl
and_left false b e = e

pub and_right : (a b : Bool) → (a && b) ≡ true → b ≡ true
and_right true b e = e
and_right false b e = false-true e

-- ---- `same`

pub same_refl : (s : List ℕ) → same s s ≡ true
unfolding same
same_refl [] = refl
same_refl (b ∷ s) = rw (eq-eqb b b refl, same_refl s)

pub same-eq : (s t : List ℕ) → same s t ≡ true → s ≡ t
unfolding same
same-eq [] [] e = refl
same-eq [] (c ∷ t) e = false-true e
same-eq (b ∷ s) [] e = false-true e
same-eq (b ∷ s) (c ∷ t) e =
    let p = eqb-true b c (and_left (eqb b c) (same s t) e) in
    let q = same-eq s t (and_right (eqb b c) (same s t) e) in
    cc

pub same-ne : (s t : List ℕ) → (s ≡ t → ⊥) → same s t ≡ false
same-ne s t h = go (same s t) refl
  where
    go : (r : Bool) → same s t ≡ r → same s t ≡ false
    go true e = absurd (h (same-eq s t e))
    go false e = e

pub same_false : (s t : List ℕ) → same s t ≡ false → s ≡ t → ⊥
same_false s t e p = false-true (sym e ∙ ap (same s) (sym p) ∙ same_refl s)

-- two strings are equal or not
pub equal? : (s t : List ℕ) → (s ≡ t) ⊎ (s ≡ t → ⊥)
equal? s t = go (same s t) refl
  where
    go : (r : Bool) → same s t ≡ r → (s ≡ t) ⊎ (s ≡ t → ⊥)
    go true e = inl (same-eq s t e)
    go false e = inr (same_false s t e)

-- ---- one byte more

pub length-snoc : (s : List ℕ) (b : ℕ) → length (s ++ (b ∷ [])) ≡ suc (length s)
length-snoc s b = omega (arith, length-append s (b ∷ []))

pub snoc-nil : {A : Type 0} (s : List ℕ) (b : ℕ) → s ++ (b ∷ []) ≡ [] → A
snoc-nil s b e = absurd (omega (arith, ap length e, length-snoc s b))

pub snoc-front : (s t : List ℕ) (a b : ℕ) → s ++ (a ∷ []) ≡ t ++ (b ∷ []) → s ≡ t
snoc-front [] [] a b e = refl
snoc-front [] (y ∷ t) a b e = absurd (omega (arith, ap length e, length-snoc t b))
snoc-front (x ∷ s) [] a b e = absurd (omega (arith, ap length e, length-snoc s a))
snoc-front (x ∷ s) (y ∷ t) a b e =
    let r : s ++ (a ∷ []) ≡ t ++ (b ∷ []) = cc in
    let h = snoc-front s t a b r in
    let g : x ≡ y = cc in
    cc

pub snoc-last : (s t : List ℕ) (a b : ℕ) → s ++ (a ∷ []) ≡ t ++ (b ∷ []) → a ≡ b
snoc-last [] [] a b e = cc
snoc-last [] (y ∷ t) a b e = absurd (omega (arith, ap length e, length-snoc t b))
snoc-last (x ∷ s) [] a b e = absurd (omega (arith, ap length e, length-snoc s a))
snoc-last (x ∷ s) (y ∷ t) a b e = snoc-last s t a b (cc)

-- a string is not one byte longer than itself
pub snoc-longer : {A : Type 0} (s : List ℕ) (b : ℕ) → s ++ (b ∷ []) ≡ s → A
snoc-longer s b e = absurd (omega (arith, ap length e, length-snoc s b))
