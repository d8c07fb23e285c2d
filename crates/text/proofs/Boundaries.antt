-- Boundaries and characters of a well-formed text, end to end. A text cut at a boundary is two texts (`cut`), so what holds of
-- the first character of a text holds of the one at any boundary. Assumes nothing.
use mathlib.Core.Path.{◌≡◌, refl, sym, ap, ◌∙◌}
use mathlib.Core.Bool.{Bool, true, false, not, cond}
use mathlib.Core.List.{List, [], ◌∷◌, ◌++◌}
use Rattle.std.specs.List.{count_by}
use Rattle.std.proofs.lemmas.List.Recursion.{is_count_by}
use Prim.Native.Nat.{ℕ, zero, suc, ◌+◌, ◌-◌, ◌≤◌, ◌<◌}
use native.Mathlib.Nat.{zero-add, add-zero}
use native.Mathlib.Omega.{arith}
use borrow.Author.Tests.{leb-true, leb-false}
use lib.Dec.{leb}
use lib.ListN.{length, get_or, take, drop, length-drop}
use lib.Seq.{take-add, get_or-drop, drop-drop}
use Rattle.refusal.proofs.Lists.{false-true}
use Rattle.text.specs.Text.{tail, length_of, well_formed, boundary, next, characters}
use Rattle.text.proofs.Characters.{Front, one, two, three, four, second-tail, lead-no-tail}
use Rattle.text.proofs.Characters.{front-positive, front-inside, front_lead, front-take, front-boundary, front-no-boundary}
use Rattle.text.proofs.Reading.{at_most_one}
use Rattle.text.proofs.Valid.{Chars, end, more, drop_of_take, well-chars}

-- ---- a position past a prefix

pub boundary-drop : (k : ℕ) (s : List ℕ) (i : ℕ) → k ≤ length s → boundary s (k + i) ≡ boundary (drop k s) i
unfolding boundary
boundary-drop zero s i h = ap (boundary s) (zero-add i)
boundary-drop (suc k) [] i h = absurd (omega arith)
boundary-drop (suc k) (b ∷ s) i h =
    let e : suc k + i ≡ suc (k + i) = omega arith in
    ap (boundary (b ∷ s)) e ∙ boundary-drop k s i (omega arith)

pub boundary-le : (s : List ℕ) (i : ℕ) → boundary s i ≡ true → i ≤ length s
unfolding boundary
boundary-le [] zero e = omega arith
boundary-le [] (suc i) e = false-true e
boundary-le (b ∷ s) zero e = omega arith
boundary-le (b ∷ s) (suc i) e = omega (arith, boundary-le s i e)

pub boundary_end : (s : List ℕ) → boundary s (length s) ≡ true
unfolding boundary
boundary_end [] = refl
boundary_end (b ∷ s) = boundary_end s

-- ---- a cut

pub chars-boundary : {s : List ℕ} → Chars s → boundary s 0 ≡ true
unfolding boundary
chars-boundary end = refl
chars-boundary (more f c) = front-boundary f

-- past the first character, a cut is one of what follows it
module _ {s : List ℕ} {k : ℕ} (f : Front s k) (i : ℕ) (past : k ≤ i) where
  place : k + (i - k) ≡ i
  place = omega arith

  pub later-boundary : boundary s i ≡ boundary (drop k s) (i - k)
  later-boundary = ap (boundary s) (sym place) ∙ boundary-drop k s (i - k) (front-inside f)

  later-cut : Chars (take (i - k) (drop k s)) × Chars (drop (i - k) (drop k s)) → Chars (take i s) × Chars (drop i s)
  later-cut p =
      let taken : drop k (take i s) ≡ take (i - k) (drop k s) =
      ap (λ (n : ℕ). drop k (take n s)) (sym place) ∙ drop_of_take k (i - k) s (front-inside f)
      in
      let dropped : drop (i - k) (drop k s) ≡ drop i s = drop-drop (i - k) k s ∙ ap (λ (n : ℕ). drop n s) place in
      (more (front-take f i past) (rw taken p.0), rw dropped at p.1)

-- cut at a boundary, both parts are text
pub cut : {s : List ℕ} → Chars s → (i : ℕ) → boundary s i ≡ true → Chars (take i s) × Chars (drop i s)
unfolding boundary
cut end zero e = (end, end)
cut end (suc i) e = false-true e
cut (more f c) zero e = (end, more f c)
cut (more {s = s} {k = k} f c) (suc i) e = go (leb k (suc i)) refl (cut c (suc i - k))
  where
    go :
        (t : Bool) → leb k (suc i) ≡ t
        → (boundary (drop k s) (suc i - k) ≡ true → Chars (take (suc i - k) (drop k s)) × Chars (drop (suc i - k) (drop k s)))
        → Chars (take (suc i) s) × Chars (drop (suc i) s)
    go true p rest = let past : k ≤ suc i = leb-true k (suc i) p in later-cut f (suc i) past (rest (sym (later-boundary f (suc i) past) ∙ e))
    go false p rest = false-true (sym (front-no-boundary f (suc i) (omega arith) (leb-false k (suc i) p)) ∙ e)

-- ---- boundaries and characters, end to end

-- a text that is not empty begins with the character of its first byte
pub chars-front : {s : List ℕ} → Chars s → 0 < length s → Front s (length_of (get_or s 0 0))
chars-front end h = absurd (omega arith)
chars-front (more f c) h = rw (front_lead f) f

-- which ends at a boundary
pub chars-next : {s : List ℕ} → Chars s → 0 < length s → boundary s (length_of (get_or s 0 0)) ≡ true
chars-next end h = absurd (omega arith)
chars-next (more {s = s} {k = k} f c) h =
    rw (front_lead f) (ap (boundary s) (sym (add-zero k)) ∙ boundary-drop k s 0 (front-inside f) ∙ chars-boundary c)

module _ (s : List ℕ) (well : well_formed s ≡ true) where
  pub boundary-zero : boundary s 0 ≡ true
  boundary-zero = chars-boundary (well-chars s well)

  -- at a boundary below the end stands a character
  module _ (i : ℕ) (at : boundary s i ≡ true) (below : i < length s) where
    lead-byte : get_or (drop i s) 0 0 ≡ get_or s i 0
    lead-byte = get_or-drop i s 0 0 ∙ ap (λ (n : ℕ). get_or s n 0) (add-zero i)

    pub front_at : Front (drop i s) (length_of (get_or s i 0))
    front_at = rw lead-byte at (chars-front (cut (well-chars s well) i at).1 (omega (arith, length-drop i s)))

    -- of one to four bytes
    pub length-positive : 1 ≤ length_of (get_or s i 0)
    length-positive = front-positive front_at

    -- it ends above i, inside the text, at a boundary, and there is none in between
    pub next-above : i < next s i
    next-above = omega (arith, length-positive)

    pub next-inside : next s i ≤ length s
    next-inside = omega (arith, front-inside front_at, length-drop i s)

    pub next-boundary : boundary s (next s i) ≡ true
    next-boundary =
        boundary-drop i s (length_of (get_or s i 0)) (omega arith)
        ∙ (rw lead-byte at (chars-next (cut (well-chars s well) i at).1 (omega (arith, length-drop i s))))

    pub next-first : (j : ℕ) → i < j → j < next s i → boundary s j ≡ false
    next-first j p q =
        let e : i + (j - i) ≡ j = omega arith in
        ap (boundary s) (sym e) ∙ boundary-drop i s (j - i) (omega arith) ∙ front-no-boundary front_at (j - i) (omega arith) (omega arith)

-- ---- counting

-- how many of the numbers below n pass the test
abbrev pub count : (ℕ → Bool) → ℕ → ℕ
count f zero = 0
count f (suc n) = cond (f 0) 1 0 + count (λ i. f (suc i)) n

pub characters-le : (s : List ℕ) → characters s ≤ length s
unfolding characters
characters-le [] = omega arith
characters-le (b ∷ s) = omega (arith, at_most_one (tail b), characters-le s)

pub characters-append : (s t : List ℕ) → characters (s ++ t) ≡ characters s + characters t
unfolding characters
characters-append [] t = sym (zero-add (characters t))
characters-append (b ∷ s) t = omega (arith, characters-append s t)

-- a character counts one
front-one : {s : List ℕ} {k : ℕ} → Front s k → characters (take k s) ≡ 1
unfolding characters
front-one (one {b = b} e) = rw (lead-no-tail b 0 e)
front-one (two {b = b} {x = x} e w) = rw (lead-no-tail b 1 e, second-tail b x w)
front-one (three {b = b} {x = x} e w y) = rw (lead-no-tail b 2 e, second-tail b x w, y)
front-one (four {b = b} {x = x} e w y z) = rw (lead-no-tail b 3 e, second-tail b x w, y, z)

module _ (s : List ℕ) (well : well_formed s ≡ true) (i : ℕ) (at : boundary s i ≡ true) (below : i < length s) where
  -- the characters before the next boundary are one more
  pub characters-next : characters (take (next s i) s) ≡ suc (characters (take i s))
  characters-next =
      ap characters (take-add i (length_of (get_or s i 0)) s)
      ∙ characters-append (take i s) (take (length_of (get_or s i 0)) (drop i s))
      ∙ omega (arith, front-one (front_at s well i at below))

-- counted at once: the bytes that are no tails
pub characters-counted : (s : List ℕ) → characters s ≡ count_by (λ b. not (tail b)) s
unfolding characters
characters-counted = is_count_by characters (λ b. not (tail b)) refl more
  where
    more : (b : ℕ) (s : List ℕ) → characters (b ∷ s) ≡ cond (not (tail b)) (1 + characters s) (characters s)
    more b s = elim (tail b) as (λ t. cond t 0 1 + characters s ≡ cond (not t) (1 + characters s) (characters s)) [ true ↦ omega arith | false ↦ refl ]
