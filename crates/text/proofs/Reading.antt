-- What a reader of the bytes at a position learns: the list from i on begins with the byte at i, so a definition by clauses on
-- the list takes a step where the code reads a byte. Assumes nothing.
use mathlib.Core.Path.{◌≡◌, refl, sym, ap, ◌∙◌}
use mathlib.Core.Bool.{Bool, true, false, not, ◌&&◌, cond, and-true}
use mathlib.Core.List.{List, [], ◌∷◌}
use Prim.Native.Nat.{ℕ, zero, suc, ◌+◌, ◌-◌, ◌/◌, ◌≤◌, ◌<◌}
use native.Mathlib.Numerals.{add-one}
use native.Mathlib.Omega.{arith}
use lib.Dec.{eqb, eqb-suc-zero, eqb-suc-suc}
use lib.ListN.{length, get_or, drop, length-drop, drop_of_length-le}
use lib.Seq.{drop-cons}
use Rattle.refusal.proofs.Lists.{zero_one}
use Rattle.text.specs.Text.{tail, tails, length_of, rest, character, boundary}
use Rattle.text.proofs.Characters.{second, within_low, within-high, within_of, Found, none, here, found, front_lead, front-inside}

-- the byte is a tail exactly where its upper two bits are 10
pub quarter-tail : (b : ℕ) → b / 64 ≡ 2 → tail b ≡ true
quarter-tail b e = within_of 0x80 0xBF b (omega arith) (omega arith)

pub tail-quarter : (b : ℕ) → tail b ≡ true → b / 64 ≡ 2
tail-quarter b e = omega (arith, within_low 0x80 0xBF b e, within-high 0x80 0xBF b e)

pub no-tail-quarter : (b : ℕ) → tail b ≡ false → b / 64 ≡ 2 → ⊥
no-tail-quarter b e q =
    let inside : tail b ≡ true = quarter-tail b q in
    zero_one cc

-- a lead byte of a length below 2 decides by itself
lead-short : (b : ℕ) (t : List ℕ) (n : ℕ) → length_of b ≡ n → n < 2 → character (b ∷ t) ≡ n
unfolding character rest
lead-short b t zero e h = rw e
lead-short b t (suc zero) e h = rw e
lead-short b t (suc (suc n)) e h = absurd (omega arith)

-- one of a length of 2 and more looks at the second byte and the tails
lead-long : (b x : ℕ) (t : List ℕ) (m : ℕ) → length_of b ≡ suc (suc m) → character (b ∷ x ∷ t) ≡ cond (second b x && tails m t) (suc (suc m)) 0
unfolding character rest
lead-long b x t m e = rw e

pub at_most_one : (t : Bool) → cond t 0 1 ≤ 1
at_most_one true = omega arith
at_most_one false = omega arith

module _ (s : List ℕ) (i : ℕ) where
  from_one : i < length s → drop i s ≡ get_or s i 0 ∷ drop (i + 1) s
  from_one h = rw add-one (drop-cons s i 0 h)

  from-two : i + 1 < length s → drop i s ≡ get_or s i 0 ∷ get_or s (i + 1) 0 ∷ drop (i + 2) s
  from-two h =
      let two : suc (i + 1) ≡ i + 2 = omega arith in
      from_one (omega arith)
      ∙ ap (λ (t : List ℕ). get_or s i 0 ∷ t) (drop-cons s (i + 1) 0 h)
      ∙ ap (λ (j : ℕ). get_or s i 0 ∷ get_or s (i + 1) 0 ∷ drop j s) two

  -- ---- tails

  pub tails-one : (n : ℕ) → i < length s → tails (suc n) (drop i s) ≡ (tail (get_or s i 0) && tails n (drop (i + 1) s))
  unfolding tails
  tails-one n h = rw (from_one h)

  -- of at most two: none is asked, the first is no tail, the first is the only one, the second decides
  pub tails-none : (n : ℕ) → n ≡ 0 → tails n (drop i s) ≡ true
  unfolding tails
  tails-none n e = rw e

  pub tails-first : (n : ℕ) → 0 < n → i < length s → tail (get_or s i 0) ≡ false → tails n (drop i s) ≡ false
  tails-first zero p h e = absurd (omega arith)
  tails-first (suc n) p h e = rw (tails-one n h, e)

  pub tails-only : (n : ℕ) → n ≡ 1 → i < length s → tail (get_or s i 0) ≡ true → tails n (drop i s) ≡ true
  unfolding tails
  tails-only n p h e = rw (p, tails-one 0 h, e)

  pub tails-two : (n : ℕ) → n ≡ 2 → i + 1 < length s → tail (get_or s i 0) ≡ true → tails n (drop i s) ≡ tail (get_or s (i + 1) 0)
  unfolding tails
  tails-two n p h e = rw (p, from-two h, e, and-true)

  -- ---- the character at i

  pub character-past : length s ≤ i → character (drop i s) ≡ 0
  unfolding character
  character-past h = rw (drop_of_length-le s h)

  -- there is none, or it is as long as its lead byte says and lies inside
  pub character-none : i < length s → length s - i < length_of (get_or s i 0) → character (drop i s) ≡ 0
  character-none h short = go (found (drop i s))
    where
      go : Found (drop i s) → character (drop i s) ≡ 0
      go (none e) = e
      go (here k f) =
          absurd
          (omega (
            arith,
            front-inside f,
            length-drop i s,
            ap (λ (t : List ℕ). length_of (get_or t 0 0)) (from_one h),
            front_lead f,
          ))

  pub character-short : i < length s → length_of (get_or s i 0) < 2 → character (drop i s) ≡ length_of (get_or s i 0)
  character-short h small = rw (from_one h) (lead-short (get_or s i 0) (drop (i + 1) s) (length_of (get_or s i 0)) refl small)

  pub character-long :
      i + 1 < length s → 2 ≤ length_of (get_or s i 0)
      → character (drop i s)
      ≡ cond (second (get_or s i 0) (get_or s (i + 1) 0) && tails (length_of (get_or s i 0) - 2) (drop (i + 2) s)) (length_of (get_or s i 0)) 0
  character-long h two =
      let n : ℕ = length_of (get_or s i 0) in
      ap character (from-two h)
      ∙ lead-long (get_or s i 0) (get_or s (i + 1) 0) (drop (i + 2) s) (n - 2) (omega arith)
      ∙ ap (λ (m : ℕ). cond (second (get_or s i 0) (get_or s (i + 1) 0) && tails (n - 2) (drop (i + 2) s)) m 0) (omega arith)

  module _ (h : i + 1 < length s) (two : 2 ≤ length_of (get_or s i 0)) where
    pub second-bad : second (get_or s i 0) (get_or s (i + 1) 0) ≡ false → character (drop i s) ≡ 0
    second-bad e = character-long h two ∙ rw e

    pub tails-bad :
        second (get_or s i 0) (get_or s (i + 1) 0) ≡ true → tails (length_of (get_or s i 0) - 2) (drop (i + 2) s) ≡ false → character (drop i s) ≡ 0
    tails-bad e f = character-long h two ∙ rw (e, f)

    pub character-whole :
        second (get_or s i 0) (get_or s (i + 1) 0) ≡ true → tails (length_of (get_or s i 0) - 2) (drop (i + 2) s) ≡ true
        → character (drop i s) ≡ length_of (get_or s i 0)
    character-whole e f = character-long h two ∙ rw (e, f)

  -- ---- positions

  pub boundary-inside : i < length s → boundary s i ≡ not (tail (get_or s i 0))
  unfolding boundary
  boundary-inside h = at s i h
    where
      at : (s : List ℕ) (i : ℕ) → i < length s → boundary s i ≡ not (tail (get_or s i 0))
      at [] i h = absurd (omega arith)
      at (b ∷ s) zero h = refl
      at (b ∷ s) (suc i) h = at s i (omega arith)

  pub boundary-outside : length s ≤ i → boundary s i ≡ eqb i (length s)
  unfolding boundary
  boundary-outside h = at s i h
    where
      at : (s : List ℕ) (i : ℕ) → length s ≤ i → boundary s i ≡ eqb i (length s)
      at [] zero h = refl
      at [] (suc i) h = sym (eqb-suc-zero i)
      at (b ∷ s) zero h = absurd (omega arith)
      at (b ∷ s) (suc i) h = at s i (omega arith) ∙ sym (eqb-suc-suc i (length s))
