-- The character at the front of a byte list, written out. `Front s k` has a case for each length, so that what is said of a
-- character is seen byte by byte: it stays where bytes follow it, its first byte is no tail, its others are tails. Assumes
-- nothing.
use mathlib.Core.Path.{◌≡◌, refl}
use mathlib.Core.Bool.{Bool, true, false, ◌&&◌, cond}
use mathlib.Core.List.{List, [], ◌∷◌, ◌++◌}
use Prim.Native.Nat.{ℕ, zero, suc, ◌≤◌, ◌<◌}
use native.Mathlib.Omega.{arith}
use borrow.Author.Tests.{leb-true, le-leb}
use lib.Dec.{leb, lit≤}
use lib.ListN.{length, get_or, take}
use Rattle.refusal.proofs.Lists.{zero_one, false-true}
use Rattle.text.specs.Text.{within, tail, tails, length_of, second_low, second_high, rest, character, boundary}
use Rattle.text.proofs.Entries.{length-le-four, length-low, low-above, high-below}

-- ---- tests of a byte

and_left : (a b : Bool) → (a && b) ≡ true → a ≡ true
and_left true b e = refl
and_left false b e = e

and_right : (a b : Bool) → (a && b) ≡ true → b ≡ true
and_right true b e = e
and_right false b e = absurd (zero_one cc)

pub within_low : (lo hi x : ℕ) → within lo hi x ≡ true → lo ≤ x
within_low lo hi x e = leb-true lo x (and_left (leb lo x) (leb x hi) e)

pub within-high : (lo hi x : ℕ) → within lo hi x ≡ true → x ≤ hi
within-high lo hi x e = leb-true x hi (and_right (leb lo x) (leb x hi) e)

pub within_of : (lo hi x : ℕ) → lo ≤ x → x ≤ hi → within lo hi x ≡ true
within_of lo hi x p q = simp (le-leb lo x p, le-leb x hi q)

-- x is in the range of the second byte after the lead byte b
abbrev pub second : ℕ → ℕ → Bool
second b x = within (second_low b) (second_high b) x

-- a second byte in any lead byte's range is a tail
pub second-tail : (b x : ℕ) → second b x ≡ true → tail x ≡ true
second-tail b x e =
    within_of 0x80 0xBF x
    (omega (arith, low-above b, within_low (second_low b) (second_high b) x e))
    (omega (arith, high-below b, within-high (second_low b) (second_high b) x e))

tail-leads-none : (b : ℕ) → tail b ≡ true → length_of b ≡ 0
tail-leads-none b e = length-low b (within_low 0x80 0xBF b e) (omega (arith, within-high 0x80 0xBF b e))

-- a byte that begins a character is no tail
pub lead-no-tail : (b n : ℕ) → length_of b ≡ suc n → tail b ≡ false
lead-no-tail b n e = go (tail b) refl
  where
    go : (t : Bool) → tail b ≡ t → t ≡ false
    go true p = absurd (omega (arith, tail-leads-none b p))
    go false p = refl

-- ---- the character at the front

pub data Front : List ℕ → ℕ → Type 0 where
  one : {b : ℕ} {s : List ℕ} → length_of b ≡ 1 → Front (b ∷ s) 1
  two : {b x : ℕ} {s : List ℕ} → length_of b ≡ 2 → second b x ≡ true → Front (b ∷ x ∷ s) 2
  three : {b x y : ℕ} {s : List ℕ} → length_of b ≡ 3 → second b x ≡ true → tail y ≡ true → Front (b ∷ x ∷ y ∷ s) 3
  four :
      {b x y z : ℕ} {s : List ℕ} → length_of b ≡ 4 → second b x ≡ true → tail y ≡ true → tail z ≡ true
      → Front (b ∷ x ∷ y ∷ z ∷ s) 4

-- what `character` finds is there
pub front-character : {s : List ℕ} {k : ℕ} → Front s k → character s ≡ k
unfolding character rest tails
front-character (one {b = b} e) = rw e
front-character (two {b = b} e w) = rw (e, w)
front-character (three e w y) = rw (e, w, y)
front-character (four e w y z) = rw (e, w, y, z)

rest-front : (b n : ℕ) (s : List ℕ) → length_of b ≡ n → n ≤ 4 → rest b n s ≡ true → Front (b ∷ s) n
unfolding rest tails
rest-front b zero s e h r = false-true r
rest-front b (suc zero) s e h r = one e
rest-front b (suc (suc n)) [] e h r = false-true r
rest-front b (suc (suc zero)) (x ∷ s) e h r = two e (and_left (second b x) true r)
rest-front b (suc (suc (suc n))) (x ∷ []) e h r = false-true (and_right (second b x) false r)
rest-front b (suc (suc (suc zero))) (x ∷ y ∷ s) e h r =
    three e (and_left (second b x) (tail y && true) r) (and_left (tail y) true (and_right (second b x) (tail y && true) r))
rest-front b (suc (suc (suc (suc n)))) (x ∷ y ∷ []) e h r =
    false-true (and_right (tail y) false (and_right (second b x) (tail y && false) r))
rest-front b (suc (suc (suc (suc zero)))) (x ∷ y ∷ z ∷ s) e h r =
    let ys : (tail y && (tail z && true)) ≡ true = and_right (second b x) (tail y && (tail z && true)) r in
    four e (and_left (second b x) (tail y && (tail z && true)) r) (and_left (tail y) (tail z && true) ys)
    (and_left (tail z) true (and_right (tail y) (tail z && true) ys))
rest-front b (suc (suc (suc (suc (suc n))))) (x ∷ y ∷ z ∷ s) e h r = absurd (omega arith)

-- where `character` finds one, it is at the front
pub character-front : (s : List ℕ) (k : ℕ) → character s ≡ suc k → Front s (suc k)
unfolding character
character-front [] k e = absurd (omega arith)
character-front (b ∷ s) k e = go (rest b (length_of b) s) refl e
  where
    go : (t : Bool) → rest b (length_of b) s ≡ t → cond t (length_of b) 0 ≡ suc k → Front (b ∷ s) (suc k)
    go true r q = rw q at (rest-front b (length_of b) s refl (length-le-four b) r)
    go false r q = absurd (omega arith)

-- either there is none at the front, or one
pub data Found (s : List ℕ) : Type 0 where
  none : character s ≡ 0 → Found s
  here : (k : ℕ) → Front s (suc k) → Found s

pub found : (s : List ℕ) → Found s
found s = go (character s) refl
  where
    go : (n : ℕ) → character s ≡ n → Found s
    go zero e = none e
    go (suc k) e = here k (character-front s k e)

pub front-positive : {s : List ℕ} {k : ℕ} → Front s k → 0 < k
front-positive (one e) = lit≤ tt
front-positive (two e w) = lit≤ tt
front-positive (three e w y) = lit≤ tt
front-positive (four e w y z) = lit≤ tt

pub front-inside : {s : List ℕ} {k : ℕ} → Front s k → k ≤ length s
front-inside (one e) = omega arith
front-inside (two e w) = omega arith
front-inside (three e w y) = omega arith
front-inside (four e w y z) = omega arith

-- its length is that of its lead byte
pub front_lead : {s : List ℕ} {k : ℕ} → Front s k → length_of (get_or s 0 0) ≡ k
front_lead (one e) = e
front_lead (two e w) = e
front_lead (three e w y) = e
front_lead (four e w y z) = e

-- what follows does not matter
pub front-append : {s : List ℕ} {k : ℕ} → Front s k → (t : List ℕ) → Front (s ++ t) k
front-append (one e) t = one e
front-append (two e w) t = two e w
front-append (three e w y) t = three e w y
front-append (four e w y z) t = four e w y z

pub front-take : {s : List ℕ} {k : ℕ} → Front s k → (n : ℕ) → k ≤ n → Front (take n s) k
front-take (one e) zero h = absurd (omega arith)
front-take (one e) (suc n) h = one e
front-take (two e w) zero h = absurd (omega arith)
front-take (two e w) (suc zero) h = absurd (omega arith)
front-take (two e w) (suc (suc n)) h = two e w
front-take (three e w y) zero h = absurd (omega arith)
front-take (three e w y) (suc zero) h = absurd (omega arith)
front-take (three e w y) (suc (suc zero)) h = absurd (omega arith)
front-take (three e w y) (suc (suc (suc n))) h = three e w y
front-take (four e w y z) zero h = absurd (omega arith)
front-take (four e w y z) (suc zero) h = absurd (omega arith)
front-take (four e w y z) (suc (suc zero)) h = absurd (omega arith)
front-take (four e w y z) (suc (suc (suc zero))) h = absurd (omega arith)
front-take (four e w y z) (suc (suc (suc (suc n)))) h = four e w y z

-- its first place is a boundary
pub front-boundary : {s : List ℕ} {k : ℕ} → Front s k → boundary s 0 ≡ true
unfolding boundary
front-boundary (one {b = b} e) = rw (lead-no-tail b 0 e)
front-boundary (two {b = b} e w) = rw (lead-no-tail b 1 e)
front-boundary (three {b = b} e w y) = rw (lead-no-tail b 2 e)
front-boundary (four {b = b} e w y z) = rw (lead-no-tail b 3 e)

-- and no place inside it is
pub front-no-boundary : {s : List ℕ} {k : ℕ} → Front s k → (i : ℕ) → 0 < i → i < k → boundary s i ≡ false
unfolding boundary
front-no-boundary (one e) i p h = absurd (omega arith)
front-no-boundary (two e w) zero p h = absurd (omega arith)
front-no-boundary (two {b = b} {x = x} e w) (suc zero) p h = rw (second-tail b x w)
front-no-boundary (two e w) (suc (suc i)) p h = absurd (omega arith)
front-no-boundary (three e w y) zero p h = absurd (omega arith)
front-no-boundary (three {b = b} {x = x} e w y) (suc zero) p h = rw (second-tail b x w)
front-no-boundary (three e w y) (suc (suc zero)) p h = rw y
front-no-boundary (three e w y) (suc (suc (suc i))) p h = absurd (omega arith)
front-no-boundary (four e w y z) zero p h = absurd (omega arith)
front-no-boundary (four {b = b} {x = x} e w y z) (suc zero) p h = rw (second-tail b x w)
front-no-boundary (four e w y z) (suc (suc zero)) p h = rw y
front-no-boundary (four e w y z) (suc (suc (suc zero))) p h = rw z
front-no-boundary (four e w y z) (suc (suc (suc (suc i)))) p h = absurd (omega arith)
