-- Characters that tests of their bytes tell: the lead byte gives the length, the second byte is in the lead byte's range, and
-- the later ones are tails. Assumes nothing.
use mathlib.Core.Path.{◌≡◌, refl, ap, ◌∙◌}
use mathlib.Core.Bool.{Bool, true, false, cond}
use mathlib.Core.List.{List}
use Prim.Native.Nat.{ℕ, ◌+◌, ◌≤◌, ◌<◌}
use native.Mathlib.Omega.{arith}
use borrow.Author.Tests.{eqb-true}
use lib.Dec.{eqb}
use lib.ListN.{length, get_or, drop}
use Rattle.text.specs.Text.{tail, length_of, second_low, second_high, character}
use Rattle.text.proofs.Characters.{second, within_low, within-high, within_of}
use Rattle.text.proofs.Entries.{length_two, length_three, length-four}
use Rattle.text.proofs.Reading.{tails-none, tails-only, tails-two, character-whole}

-- ---- the second byte

-- what is above the case that holds is above the choice; and the same from below
above-choice : (b v x y n : ℕ) → (b ≡ v → x ≤ n) → y ≤ n → cond (eqb b v) x y ≤ n
above-choice b v x y n p q = go (eqb b v) (λ e. p (eqb-true b v e))
  where
    go : (t : Bool) → (t ≡ true → x ≤ n) → cond t x y ≤ n
    go true h = h refl
    go false h = q

below-choice : (b v x y n : ℕ) → (b ≡ v → n ≤ x) → n ≤ y → n ≤ cond (eqb b v) x y
below-choice b v x y n p q = go (eqb b v) (λ e. p (eqb-true b v e))
  where
    go : (t : Bool) → (t ≡ true → n ≤ x) → n ≤ cond t x y
    go true h = h refl
    go false h = q

-- A tail may follow, but for the four lead bytes with a range of their own.
pub second-of :
    (b x : ℕ) → tail x ≡ true → (b ≡ 0xE0 → 0xA0 ≤ x) → (b ≡ 0xED → x ≤ 0x9F) → (b ≡ 0xF0 → 0x90 ≤ x) → (b ≡ 0xF4 → x ≤ 0x8F)
    → second b x ≡ true
unfolding second_low second_high
second-of b x t e0 ed f0 f4 =
    within_of (second_low b) (second_high b) x
    (above-choice b 0xE0 0xA0 _ x e0 (above-choice b 0xF0 0x90 0x80 x f0 (within_low 0x80 0xBF x t)))
    (below-choice b 0xED 0x9F _ x ed (below-choice b 0xF4 0x8F 0xBF x f4 (within-high 0x80 0xBF x t)))

-- ---- the character at i

module _ (s : List ℕ) (i : ℕ) where
  pub two_at : i + 2 ≤ length s → 0xC2 ≤ get_or s i 0 → get_or s i 0 < 0xE0 → tail (get_or s (i + 1) 0) ≡ true → character (drop i s) ≡ 2
  two_at h low high x =
      let long : length_of (get_or s i 0) ≡ 2 = length_two (get_or s i 0) low high in
      character-whole s i (omega arith) (omega arith)
      (second-of _ _ x (λ e. omega arith) (λ e. omega arith) (λ e. omega arith) (λ e. omega arith))
      (tails-none s (i + 2) _ (omega arith))
      ∙ long

  pub three-at :
      i + 3 ≤ length s → 0xE0 ≤ get_or s i 0 → get_or s i 0 < 0xF0 → tail (get_or s (i + 1) 0) ≡ true → tail (get_or s (i + 2) 0) ≡ true
      → (get_or s i 0 ≡ 0xE0 → 0xA0 ≤ get_or s (i + 1) 0) → (get_or s i 0 ≡ 0xED → get_or s (i + 1) 0 ≤ 0x9F) → character (drop i s) ≡ 3
  three-at h low high x y e0 ed =
      let long : length_of (get_or s i 0) ≡ 3 = length_three (get_or s i 0) low high in
      character-whole s i (omega arith) (omega arith)
      (second-of _ _ x e0 ed (λ e. omega arith) (λ e. omega arith))
      (tails-only s (i + 2) _ (omega arith) (omega arith) y)
      ∙ long

  pub four-at :
      i + 4 ≤ length s → get_or s i 0 ≡ 0xF0 → 0x90 ≤ get_or s (i + 1) 0 → get_or s (i + 1) 0 ≤ 0xBF → tail (get_or s (i + 2) 0) ≡ true
      → tail (get_or s (i + 3) 0) ≡ true → character (drop i s) ≡ 4
  four-at h lead low high y z =
      let long : length_of (get_or s i 0) ≡ 4 = length-four (get_or s i 0) (omega arith) (omega arith) in
      let last : i + 2 + 1 ≡ i + 3 = omega arith in
      character-whole s i (omega arith) (omega arith)
      (second-of _ _ (within_of 0x80 0xBF _ (omega arith) high) (λ e. omega arith) (λ e. omega arith) (λ e. low) (λ e. omega arith))
      (tails-two s (i + 2) _ (omega arith) (omega arith) y ∙ ap (λ (k : ℕ). tail (get_or s k 0)) last ∙ z)
      ∙ long

-- all of them
pub ruleset plain = (two_at, three-at, four-at)
