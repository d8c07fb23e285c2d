-- What the functions behind `valid_up_to` promise one another; no public call speaks of it. Definitions only; assumes nothing.
use Rattle.std.specs.Prelude.{◌≡◌, ℕ, ◌+◌, ◌/◌, ◌≤◌, ◌<◌, List, length, get_or, drop}
use Rattle.text.specs.Text.{valid_up_to}

-- the bytes from i up to j are ASCII, each a character by itself
abbrev pub Ascii : List ℕ → ℕ → ℕ → Type 0
Ascii s i j = (k : ℕ) → i ≤ k → k < j → get_or s k 0 < 0x80

-- In a text of ASCII and characters of two bytes b may stand before c: C2-DF stands before 80-BF, whose upper two bits are 10,
-- and nothing else does.
pub record Follows (b c : ℕ) : Type 0 where
  pub low : b < 0xC0 → c / 64 ≡ 2 → ⊥
  pub lead : 0xC0 ≤ b → (0xC2 ≤ b) × (b < 0xE0) × (c / 64 ≡ 2)

-- each byte from i up to j may stand before the next
abbrev pub Paired : List ℕ → ℕ → ℕ → Type 0
Paired s i j = (k : ℕ) → i ≤ k → k < j → Follows (get_or s k 0) (get_or s (k + 1) 0)

-- In a text of characters of up to three bytes a may stand before b and c: c is a tail exactly where b begins a character of
-- more than one byte, or a one of three.
pub record Fits (a b c : ℕ) : Type 0 where
  pub below : a < 0xF0
  pub lead : 0xC0 ≤ a → 0xC2 ≤ a
  pub after-e0 : a ≡ 0xE0 → 0xA0 ≤ b
  pub after-ed : a ≡ 0xED → b ≤ 0x9F
  pub third : 0xE0 ≤ a → c / 64 ≡ 2
  pub second : 0xC0 ≤ b → c / 64 ≡ 2
  pub none : a < 0xE0 → b < 0xC0 → c / 64 ≡ 2 → ⊥

-- each byte from i up to j may stand before the next two
abbrev pub Fit : List ℕ → ℕ → ℕ → Type 0
Fit s i j = (k : ℕ) → i ≤ k → k < j → Fits (get_or s k 0) (get_or s (k + 1) 0) (get_or s (k + 2) 0)

-- a is no tail, and b after it is one exactly where a begins a character of more than one byte
pub record Begins (a b : ℕ) : Type 0 where
  pub first : a / 64 ≡ 2 → ⊥
  pub more : 0xC0 ≤ a → b / 64 ≡ 2
  pub alone : a < 0xC0 → b / 64 ≡ 2 → ⊥

-- j is reached from i over whole characters: what is valid from i on ends where what is valid from j on does
pub record Passed (s : List ℕ) (i j : ℕ) : Type 0 where
  pub above : i ≤ j
  pub inside : j ≤ length s
  pub same : i + valid_up_to (drop i s) ≡ j + valid_up_to (drop j s)

-- a step from i came to j; it stays at i only where nothing from there on is valid
pub record Stepped (s : List ℕ) (i j : ℕ) : Type 0 where
  pub passed : Passed s i j
  pub stuck : j ≡ i → valid_up_to (drop i s) ≡ 0
