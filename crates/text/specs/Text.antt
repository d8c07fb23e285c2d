-- "Well-formed text (RFC 3629)": which byte lists are text, and where its characters begin. Definitions only; assumes nothing.
use Rattle.std.specs.Prelude.{ℕ, zero, suc, ◌+◌, ◌-◌, Bool, true, false, not, ◌&&◌, cond, leb, eqb, Option, None}
use Rattle.std.specs.Prelude.{List, [], ◌∷◌, length, get_or, take, drop}
use Rattle.refusal.specs.declared.Fault.{Fault}
use Rattle.refusal.specs.declared.Fault.TheVariants as fault
use Rattle.refusal.specs.Refusal.{refuse}

-- lo ≤ x ≤ hi
abbrev pub within : ℕ → ℕ → ℕ → Bool
within lo hi x = leb lo x && leb x hi

-- ---- the table by lead byte

-- The length: "00-7F length 1; C2-DF 2; E0 3; E1-EC, EE, EF 3; ED 3; F0 4; F1-F3 4; F4 4; all others none", which is 0 here.
unfoldable pub length_of : ℕ → ℕ
length_of b =
    cond (leb b 0x7F) 1
    (cond (within 0xC2 0xDF b) 2
    (cond (within 0xE0 0xEF b) 3
    (cond (within 0xF0 0xF4 b) 4 0)))

-- The range of the second byte: "E0 second A0-BF; ED second 80-9F; F0 second 90-BF; F4 second 80-8F. Where no range is given
-- the second byte is 80-BF"
unfoldable pub second_low : ℕ → ℕ
second_low b = cond (eqb b 0xE0) 0xA0 (cond (eqb b 0xF0) 0x90 0x80)

unfoldable pub second_high : ℕ → ℕ
second_high b = cond (eqb b 0xED) 0x9F (cond (eqb b 0xF4) 0x8F 0xBF)

-- ---- characters

-- "80-BF, as are all later ones": a byte that continues a character
abbrev pub tail : ℕ → Bool
tail = within 0x80 0xBF

-- n bytes that continue a character stand at the front
unfoldable pub tails : ℕ → List ℕ → Bool
tails zero s = true
tails (suc n) [] = false
tails (suc n) (x ∷ s) = tail x && tails n s

-- the rest of a character of n bytes with the lead byte b stands at the front
unfoldable pub rest : ℕ → ℕ → List ℕ → Bool
unfolding tails second_low second_high
rest b zero s = false
rest b (suc zero) s = true
rest b (suc (suc n)) [] = false
rest b (suc (suc n)) (x ∷ s) = within (second_low b) (second_high b) x && tails n s

-- how many bytes the well-formed character at the front takes; 0 where there is none
unfoldable pub character : List ℕ → ℕ
unfolding length_of rest
character [] = 0
character (b ∷ s) = cond (rest b (length_of b) s) (length_of b) 0

-- How many bytes the characters at the front take, end to end. The first argument bounds how many characters; the length is
-- enough.
unfoldable pub valid_in : ℕ → List ℕ → ℕ
unfolding character
valid_in zero s = 0
valid_in (suc n) s = let k = character s in let more = valid_in n (drop k s) in cond (eqb k 0) 0 (k + more)

-- the length of the longest prefix made of whole well-formed characters
unfoldable pub valid_up_to : List ℕ → ℕ
unfolding valid_in
valid_up_to s = valid_in (length s) s

unfoldable pub well_formed : List ℕ → Bool
unfolding valid_up_to
well_formed s = eqb (valid_up_to s) (length s)

-- 4: "a token, text, word or prefix is not well-formed UTF-8"
unfoldable pub text_fault : List ℕ → Option Fault
text_fault s = refuse (not (well_formed s)) fault.Text None

-- ---- positions in a text

-- a position at which a character begins, or the text ends: i is the length, or below it with a byte outside 80-BF
unfoldable pub boundary : List ℕ → ℕ → Bool
boundary [] zero = true
boundary [] (suc i) = false
boundary (b ∷ s) zero = not (tail b)
boundary (b ∷ s) (suc i) = boundary s i

-- where the character at i ends
abbrev pub next : List ℕ → ℕ → ℕ
next s i = i + length_of (get_or s i 0)

-- how many characters a well-formed text has: the bytes that begin one
unfoldable pub characters : List ℕ → ℕ
characters [] = 0
characters (b ∷ s) = cond (tail b) 0 1 + characters s

-- the bytes from i up to j
abbrev pub part : List ℕ → ℕ → ℕ → List ℕ
part s i j = take (j - i) (drop i s)
