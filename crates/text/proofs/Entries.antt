-- The entries of the lead table. Both ends of a range fit a byte, so an entry's digits are its parts; the lengths change where
-- `char_len` tests; and one test over the whole table gives each entry. Assumes nothing.
use mathlib.Core.Path.{◌≡◌, refl}
use mathlib.Core.Bool.{Bool, true, false, cond}
use mathlib.Core.List.{List}
use Prim.Native.Nat.{ℕ, ◌+◌, ◌*◌, ◌/◌, ◌%◌, ◌≤◌, ◌<◌}
use native.Mathlib.Omega.{arith}
use lib.Dec.{eqb, leb, lit≤}
use lib.ListN.{length}
use borrow.Author.Tests.{le-leb, lt-leb}
use Rattle.text.specs.Text.{length_of, second_low, second_high, within}
use Rattle.text.specs.Lead.{entry_of, IsLead}
use Rattle.text.proofs.Table.{passes, entry-is}

cond-le : (t : Bool) (x y n : ℕ) → x ≤ n → y ≤ n → cond t x y ≤ n
cond-le true x y n p q = p
cond-le false x y n p q = q

pub low_fits : (b : ℕ) → second_low b ≤ 255
unfolding second_low
low_fits b = cond-le (eqb b 0xE0) 0xA0 _ 255 (lit≤ tt) (cond-le (eqb b 0xF0) 0x90 0x80 255 (lit≤ tt) (lit≤ tt))

le-cond : (t : Bool) (x y n : ℕ) → n ≤ x → n ≤ y → n ≤ cond t x y
le-cond true x y n p q = p
le-cond false x y n p q = q

-- every second byte is a tail
pub low-above : (b : ℕ) → 0x80 ≤ second_low b
unfolding second_low
low-above b = le-cond (eqb b 0xE0) 0xA0 _ 0x80 (lit≤ tt) (le-cond (eqb b 0xF0) 0x90 0x80 0x80 (lit≤ tt) (lit≤ tt))

pub high-below : (b : ℕ) → second_high b ≤ 0xBF
unfolding second_high
high-below b = cond-le (eqb b 0xED) 0x9F _ 0xBF (lit≤ tt) (cond-le (eqb b 0xF4) 0x8F 0xBF 0xBF (lit≤ tt) (lit≤ tt))

-- no character is longer than four bytes
pub length-le-four : (b : ℕ) → length_of b ≤ 4
unfolding length_of
length-le-four b =
    cond-le (leb b 0x7F) 1 _ 4 (lit≤ tt)
    (cond-le (within 0xC2 0xDF b) 2 _ 4 (lit≤ tt)
    (cond-le (within 0xE0 0xEF b) 3 _ 4 (lit≤ tt) (cond-le (within 0xF0 0xF4 b) 4 0 4 (lit≤ tt) (lit≤ tt))))

-- where the lengths change
module _ (b : ℕ) where
  pub length-ascii : b < 0x80 → length_of b ≡ 1
  unfolding length_of
  length-ascii h = simp (le-leb b 0x7F (omega arith))

  pub length-low : 0x80 ≤ b → b < 0xC2 → length_of b ≡ 0
  unfolding length_of
  length-low l h = simp (lt-leb b 0x7F (omega arith), lt-leb 0xC2 b (omega arith), lt-leb 0xE0 b (omega arith), lt-leb 0xF0 b (omega arith))

  pub length_two : 0xC2 ≤ b → b < 0xE0 → length_of b ≡ 2
  unfolding length_of
  length_two l h = simp (lt-leb b 0x7F (omega arith), le-leb 0xC2 b (omega arith), le-leb b 0xDF (omega arith))

  pub length_three : 0xE0 ≤ b → b < 0xF0 → length_of b ≡ 3
  unfolding length_of
  length_three l h =
      simp (
        lt-leb b 0x7F (omega arith),
        le-leb 0xC2 b (omega arith),
        lt-leb b 0xDF (omega arith),
        le-leb 0xE0 b (omega arith),
        le-leb b 0xEF (omega arith),
      )

  pub length-four : 0xF0 ≤ b → b < 0xF5 → length_of b ≡ 4
  unfolding length_of
  length-four l h =
      simp (
        lt-leb b 0x7F (omega arith),
        le-leb 0xC2 b (omega arith),
        lt-leb b 0xDF (omega arith),
        le-leb 0xE0 b (omega arith),
        lt-leb b 0xEF (omega arith),
        le-leb 0xF0 b (omega arith),
        le-leb b 0xF4 (omega arith),
      )

  pub length_high : 0xF5 ≤ b → length_of b ≡ 0
  unfolding length_of
  length_high l =
      simp (
        lt-leb b 0x7F (omega arith),
        le-leb 0xC2 b (omega arith),
        lt-leb b 0xDF (omega arith),
        le-leb 0xE0 b (omega arith),
        lt-leb b 0xEF (omega arith),
        le-leb 0xF0 b (omega arith),
        lt-leb b 0xF4 (omega arith),
      )

-- all of them
pub ruleset lengths = (length-ascii, length-low, length_two, length_three, length-four, length_high)

module _ (b : ℕ) where
  sum : entry_of b ≡ length_of b * 0x1_00_00 + second_low b * 0x1_00 + second_high b
  unfolding entry_of
  sum = refl

  pub entry_length : entry_of b / 0x1_00_00 ≡ length_of b
  entry_length = omega (arith, sum, low_fits b, high-below b)

  pub entry-low : entry_of b / 0x1_00 % 0x1_00 ≡ second_low b
  entry-low = omega (arith, sum, low_fits b, high-below b)

  pub entry-high : entry_of b % 0x1_00 ≡ second_high b
  entry-high = omega (arith, sum, low_fits b, high-below b)

  -- the range that the entry has is the lead byte's
  pub entry-second : (entry x : ℕ) → entry ≡ entry_of b → within (entry / 0x1_00 % 0x1_00) (entry % 0x1_00) x ≡ within (second_low b) (second_high b) x
  entry-second entry x e = rw (e, entry-low, entry-high)

-- ---- the whole table

-- a list of 256 whose every place passes the test of RFC 3629's rule is the table
pub lead-table : (table : List ℕ) → length table ≡ 0x1_00 → passes (λ b x. eqb x (entry_of b)) 0 table ≡ true → IsLead table
lead-table table size test = record { entry = λ b below. entry-is entry_of table b (omega arith) test }
