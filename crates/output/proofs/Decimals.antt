-- The digits of a number: its last digit after those of a tenth of it. How many digits are allowed does not matter once they
-- are more than the number. Assumes nothing.
use mathlib.Core.Path.{◌≡◌, refl, sym, ap, ◌∙◌}
use mathlib.Core.Bool.{Bool, cond}
use mathlib.Core.List.{List, [], ◌∷◌, ◌++◌, append_assoc, append-nil}
use Prim.Native.Nat.{ℕ, zero, suc, ◌+◌, ◌/◌, ◌%◌, ◌^◌, ◌≤◌, ◌<◌}
use native.Mathlib.Omega.{arith}
use native.Mathlib.Decide.{dec_lt}
use borrow.Author.Tests.{lt-ltb, le-ltb}
use lib.ListN.{length, length-append}
use Rattle.refusal.specs.declared.Fault.{Fault}
use Rattle.refusal.specs.declared.Fault.TheVariants as fault
use Rattle.refusal.specs.Refusal.{number}
use Rattle.output.specs.Lines.{digits, decimal, spaced}

abbrev last : ℕ → List ℕ
last n = (0x30 + n % 10) ∷ []

low : (more n : ℕ) → n < 10 → digits (suc more) n ≡ last n
unfolding digits
low more n h = ap (λ (b : Bool). cond b (last n) (digits more (n / 10) ++ last n)) (lt-ltb n 10 h)

high : (more n : ℕ) → 10 ≤ n → digits (suc more) n ≡ digits more (n / 10) ++ last n
unfolding digits
high more n h = ap (λ (b : Bool). cond b (last n) (digits more (n / 10) ++ last n)) (le-ltb n 10 h)

enough : (f g n : ℕ) → n < f → n < g → digits f n ≡ digits g n
enough zero g n h k = absurd (omega arith)
enough (suc f) zero n h k = absurd (omega arith)
enough (suc f) (suc g) n h k = go (λ p q. enough f g (n / 10) p q) (dec_lt n 10)
  where
    go : (n / 10 < f → n / 10 < g → digits f (n / 10) ≡ digits g (n / 10)) → Dec (n < 10) → digits (suc f) n ≡ digits (suc g) n
    go tenth (yes p) = low f n p ∙ sym (low g n p)
    go tenth (no p) =
        let l : 10 ≤ n = omega (arith, p) in
        high f n l ∙ ap (λ (ds : List ℕ). ds ++ last n) (tenth (omega arith) (omega arith)) ∙ sym (high g n l)

pub decimal-low : (n : ℕ) → n < 10 → decimal n ≡ (0x30 + n) ∷ []
unfolding decimal
decimal-low n h = let e : n % 10 ≡ n = omega arith in low n n h ∙ ap (λ (d : ℕ). (0x30 + d) ∷ []) e

pub decimal-high : (n : ℕ) → 10 ≤ n → decimal n ≡ decimal (n / 10) ++ ((0x30 + n % 10) ∷ [])
unfolding decimal
decimal-high n h = high n n h ∙ ap (λ (ds : List ℕ). ds ++ last n) (enough n (suc (n / 10)) (n / 10) (omega arith) (omega arith))

-- ---- room for them

pub low-room : (n at l : ℕ) → n < 10 → at + length (decimal n) ≤ l → at < l
low-room n at l h r = omega (arith, r, ap length (decimal-low n h))

pub tenth-room : (n at l : ℕ) → 10 ≤ n → at + length (decimal n) ≤ l → at + length (decimal (n / 10)) < l
tenth-room n at l h r = omega (arith, r, ap length (decimal-high n h), length-append (decimal (n / 10)) ((0x30 + n % 10) ∷ []))

-- ---- how many digits

-- one more digit than a tenth has
longer : (n k : ℕ) → (10 ≤ n → length (decimal (n / 10)) ≤ k) → length (decimal n) ≤ suc k
longer n k tenth = go (dec_lt n 10)
  where
    go : Dec (n < 10) → length (decimal n) ≤ suc k
    go (yes p) = omega (arith, ap length (decimal-low n p))
    go (no p) =
        let l : 10 ≤ n = omega (arith, p) in
        omega (arith, ap length (decimal-high n l), length-append (decimal (n / 10)) ((0x30 + n % 10) ∷ []), tenth l)

short : (k n : ℕ) → n < 10 ^ k → 0 < n → length (decimal n) ≤ k
short zero n h p = absurd (omega arith)
short (suc k) n h p = longer n k (λ l. short k (n / 10) (omega arith) (omega arith))

-- a u32 has at most ten
pub decimal-short : (n : ℕ) → n < 2 ^ 32 → length (decimal n) ≤ 10
decimal-short n h = longer n 9 (λ l. short 9 (n / 10) (omega arith) (omega arith))

-- the numbers of refusals go to 11
number-few : (f : Fault) → (0 < number f) × (number f < 100)
number-few fault.Size = (omega arith, omega arith)
number-few fault.Span = (omega arith, omega arith)
number-few fault.Token = (omega arith, omega arith)
number-few fault.Text = (omega arith, omega arith)
number-few fault.Score = (omega arith, omega arith)
number-few fault.Id = (omega arith, omega arith)
number-few fault.Room = (omega arith, omega arith)
number-few fault.Trie = (omega arith, omega arith)
number-few fault.Scratch = (omega arith, omega arith)
number-few fault.Ids = (omega arith, omega arith)
number-few fault.Pack = (omega arith, omega arith)

-- so a refusal's number has at most two digits
pub number_short : (f : Fault) → length (decimal (number f)) ≤ 2
number_short f = let n = number-few f in short 2 (number f) n.1 n.0

-- ---- several numbers

-- a number after one space
abbrev pub spaced_one : ℕ → List ℕ
spaced_one n = 0x20 ∷ decimal n

pub spaced-none : spaced [] ≡ []
unfolding spaced
spaced-none = refl

pub spaced-snoc : (ns : List ℕ) (n : ℕ) → spaced (ns ++ (n ∷ [])) ≡ spaced ns ++ spaced_one n
unfolding spaced
spaced-snoc [] n = ap (λ (l : List ℕ). 0x20 ∷ l) (append-nil (decimal n))
spaced-snoc (m ∷ ns) n = ap (λ (l : List ℕ). 0x20 ∷ decimal m ++ l) (spaced-snoc ns n) ∙ ap (λ (l : List ℕ). 0x20 ∷ l) (sym (append_assoc (decimal m) (spaced ns) (spaced_one n)))

pub spaced-one : (n : ℕ) → spaced_one n ≡ spaced (n ∷ [])
unfolding spaced
spaced-one n = ap (λ (l : List ℕ). 0x20 ∷ l) (sym (append-nil (decimal n)))
