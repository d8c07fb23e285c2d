-- A block of characters of up to three bytes: from what is known of each byte and the next two, its characters are passed one
-- by one, and the last of them ends at the block's end or up to two bytes further. Assumes nothing.
use mathlib.Core.Path.{◌≡◌, refl}
use mathlib.Core.Bool.{Bool, true, false}
use mathlib.Core.List.{List}
use Prim.Native.Nat.{ℕ, zero, suc, ◌+◌, ◌/◌, ◌≤◌, ◌<◌}
use native.Mathlib.Omega.{arith}
use borrow.Author.Tests.{ltb-true, ltb-false}
use lib.Dec.{ltb}
use lib.ListN.{length, get_or}
use Rattle.text.specs.Text.{tail}
use Rattle.text.specs.Passing.{Fits, Fit, Begins, Passed}
use Rattle.text.proofs.Passing.{passed_none, passed_on, passed-character, passed-byte}
use Rattle.text.proofs.Plain.{two_at, three-at}
use Rattle.text.proofs.Reading.{quarter-tail, tail-quarter, no-tail-quarter}

-- the byte at a place is a tail
abbrev pub Tail : List ℕ → ℕ → Type 0
Tail s k = get_or s k 0 / 64 ≡ 2

-- what is passed of a block up to j, by how many tails stand there
record Ended (s : List ℕ) (i j : ℕ) : Type 0 where
  pub none : (Tail s j → ⊥) → Passed s i j
  pub one : Tail s j → (Tail s (j + 1) → ⊥) → Passed s i (j + 1)
  pub two : Tail s j → Tail s (j + 1) → Passed s i (j + 2)

-- behind a byte below E0, a byte that is no tail begins a character
begins-behind : (x a b : ℕ) → x < 0xE0 → (a / 64 ≡ 2 → ⊥) → Fits x a b → Begins a b
begins-behind x a b h n f = record { first = n; more = f.second; alone = f.none h }

module _ (s : List ℕ) where
  ended-on : (i k j : ℕ) → Passed s i k → Ended s k j → Ended s i j
  ended-on i k j p e =
      record {
        none = λ t. passed_on s i k j p (e.none t);
        one = λ t u. passed_on s i k (j + 1) p (e.one t u);
        two = λ t u. passed_on s i k (j + 2) p (e.two t u);
      }

  abbrev Window : ℕ → Type 0
  Window k = Fits (get_or s k 0) (get_or s (k + 1) 0) (get_or s (k + 2) 0)

  passed-two :
      (i : ℕ) → i + 2 ≤ length s → 0xC0 ≤ get_or s i 0 → get_or s i 0 < 0xE0 → Begins (get_or s i 0) (get_or s (i + 1) 0) → Window i → Passed s i (i + 2)
  passed-two i h low high b f =
      passed-character s i 2 (two_at s i h (f.lead low) high (quarter-tail (get_or s (i + 1) 0) (b.more low))) (omega arith)

  passed-three :
      (i : ℕ) → i + 3 ≤ length s → 0xE0 ≤ get_or s i 0 → Begins (get_or s i 0) (get_or s (i + 1) 0) → Window i → Passed s i (i + 3)
  passed-three i h low b f =
      passed-character s i 3
      (three-at s i h low f.below (quarter-tail (get_or s (i + 1) 0) (b.more (omega arith))) (quarter-tail (get_or s (i + 2) 0) (f.third low))
      f.after-e0 f.after-ed)
      (omega arith)

  -- a byte that is neither ASCII nor a tail is C0 or more
  above : (i : ℕ) → ltb (get_or s i 0) 0x80 ≡ false → (Tail s i → ⊥) → 0xC0 ≤ get_or s i 0
  above i e start = omega (arith, ltb-false (get_or s i 0) 0x80 e, start)

  -- the windows of the next two places
  inner : (i : ℕ) → Window (i + 1) → Fits (get_or s (i + 1) 0) (get_or s (i + 2) 0) (get_or s (i + 3) 0)
  inner i f =
      let one : i + 1 + 1 ≡ i + 2 = omega arith in
      let two : i + 1 + 2 ≡ i + 3 = omega arith in
      rw (one, two) at f

  outer : (i : ℕ) → Window (i + 2) → Fits (get_or s (i + 2) 0) (get_or s (i + 3) 0) (get_or s (i + 4) 0)
  outer i f =
      let one : i + 2 + 1 ≡ i + 3 = omega arith in
      let two : i + 2 + 2 ≡ i + 4 = omega arith in
      rw (one, two) at f

  -- from character to character; t and u tell whether the first byte is below 80 and below E0
  walk :
      (n i : ℕ) (t u : Bool) → ltb (get_or s i 0) 0x80 ≡ t → ltb (get_or s i 0) 0xE0 ≡ u → i + n + 1 < length s → Fit s i (i + n)
      → Begins (get_or s i 0) (get_or s (i + 1) 0) → Ended s i (i + n)
  walk zero i t u e d h run b =
      let still : i + 0 ≡ i = omega arith in
      rw still (
      record {
        none = λ q. passed_none s i (omega arith);
        one = λ q r. absurd (b.first q);
        two = λ q r. absurd (b.first q);
      }
      )
  walk (suc n) i true u e d h run b =
      let next : i + 1 + n ≡ i + suc n = omega arith in
      let small : get_or s i 0 < 0x80 = ltb-true _ _ e in
      let step : i + 1 + 1 ≡ i + 2 = omega arith in
      let f : Window i = run i (omega arith) (omega arith) in
      let later : Ended s (i + 1) (i + 1 + n) =
      walk n (i + 1) (ltb (get_or s (i + 1) 0) 0x80) (ltb (get_or s (i + 1) 0) 0xE0) refl refl (omega arith) (λ k p q. run k (omega arith) (omega arith))
      (rw step (begins-behind (get_or s i 0) (get_or s (i + 1) 0) (get_or s (i + 2) 0) (omega arith) (b.alone (omega arith)) f))
      in
      rw next at (ended-on i (i + 1) (i + 1 + n) (passed-byte s i (omega arith) small) later)
  walk (suc zero) i false true e d h run b =
      let here : i + suc zero ≡ i + 1 = omega arith in
      let step : i + 1 + 1 ≡ i + 2 = omega arith in
      let low : 0xC0 ≤ get_or s i 0 = above i e b.first in
      let high : get_or s i 0 < 0xE0 = ltb-true _ _ d in
      let f : Window i = run i (omega arith) (omega arith) in
      rw here (
      record {
        none = λ q. absurd (q (b.more low));
        one = λ q r. rw step (passed-two i (omega arith) low high b f);
        two = λ q r. absurd (f.none high (omega (arith, q)) (rw step at r));
      }
      )
  walk (suc (suc n)) i false true e d h run b =
      let next : i + 2 + n ≡ i + suc (suc n) = omega arith in
      let low : 0xC0 ≤ get_or s i 0 = above i e b.first in
      let high : get_or s i 0 < 0xE0 = ltb-true _ _ d in
      let f : Window i = run i (omega arith) (omega arith) in
      let g = inner i (run (i + 1) (omega arith) (omega arith)) in
      let x : Tail s (i + 1) = b.more low in
      let step : i + 2 + 1 ≡ i + 3 = omega arith in
      let later : Ended s (i + 2) (i + 2 + n) =
      walk n (i + 2) (ltb (get_or s (i + 2) 0) 0x80) (ltb (get_or s (i + 2) 0) 0xE0) refl refl (omega arith) (λ k p q. run k (omega arith) (omega arith))
      (rw step (begins-behind (get_or s (i + 1) 0) (get_or s (i + 2) 0) (get_or s (i + 3) 0) (omega arith) (f.none high (omega arith)) g))
      in
      rw next at (ended-on i (i + 2) (i + 2 + n) (passed-two i (omega arith) low high b f) later)
  walk (suc zero) i false false e d h run b =
      let here : i + suc zero ≡ i + 1 = omega arith in
      let step : i + 1 + 1 ≡ i + 2 = omega arith in
      let three : i + 1 + 2 ≡ i + 3 = omega arith in
      let low : 0xE0 ≤ get_or s i 0 = ltb-false _ _ d in
      let f : Window i = run i (omega arith) (omega arith) in
      rw here (
      record {
        none = λ q. absurd (q (b.more (omega arith)));
        one = λ q r. absurd ((rw step at r) (f.third low));
        two = λ q r. rw three (passed-three i (omega arith) low b f);
      }
      )
  walk (suc (suc zero)) i false false e d h run b =
      let here : i + suc (suc zero) ≡ i + 2 = omega arith in
      let step : i + 2 + 1 ≡ i + 3 = omega arith in
      let low : 0xE0 ≤ get_or s i 0 = ltb-false _ _ d in
      let f : Window i = run i (omega arith) (omega arith) in
      let g = inner i (run (i + 1) (omega arith) (omega arith)) in
      let x : Tail s (i + 1) = b.more (omega arith) in
      rw here (
      record {
        none = λ q. absurd (q (f.third low));
        one = λ q r. rw step (passed-three i (omega arith) low b f);
        two = λ q r. absurd (g.none (omega arith) (omega (arith, q)) (rw step at r));
      }
      )
  walk (suc (suc (suc n))) i false false e d h run b =
      let next : i + 3 + n ≡ i + suc (suc (suc n)) = omega arith in
      let low : 0xE0 ≤ get_or s i 0 = ltb-false _ _ d in
      let f : Window i = run i (omega arith) (omega arith) in
      let g = inner i (run (i + 1) (omega arith) (omega arith)) in
      let last = outer i (run (i + 2) (omega arith) (omega arith)) in
      let x : Tail s (i + 1) = b.more (omega arith) in
      let y : Tail s (i + 2) = f.third low in
      let step : i + 3 + 1 ≡ i + 4 = omega arith in
      let later : Ended s (i + 3) (i + 3 + n) =
      walk n (i + 3) (ltb (get_or s (i + 3) 0) 0x80) (ltb (get_or s (i + 3) 0) 0xE0) refl refl (omega arith) (λ k p q. run k (omega arith) (omega arith))
      (rw step (begins-behind (get_or s (i + 2) 0) (get_or s (i + 3) 0) (get_or s (i + 4) 0) (omega arith) (g.none (omega arith) (omega arith)) last))
      in
      rw next at (ended-on i (i + 3) (i + 3 + n) (passed-three i (omega arith) low b f) later)

  -- a block at whose start a character begins ends with a whole one, up to two bytes further
  module _ (i n : ℕ) (h : i + n + 1 < length s) (run : Fit s i (i + n)) (b : Begins (get_or s i 0) (get_or s (i + 1) 0)) where
    ended : Ended s i (i + n)
    ended = walk n i (ltb (get_or s i 0) 0x80) (ltb (get_or s i 0) 0xE0) refl refl h run b

    pub fit-none : tail (get_or s (i + n) 0) ≡ false → Passed s i (i + n)
    fit-none e = ended.none (no-tail-quarter _ e)

    pub fit-one : tail (get_or s (i + n) 0) ≡ true → tail (get_or s (i + n + 1) 0) ≡ false → Passed s i (i + n + 1)
    fit-one e f = ended.one (tail-quarter _ e) (no-tail-quarter _ f)

    pub fit-two : tail (get_or s (i + n) 0) ≡ true → tail (get_or s (i + n + 1) 0) ≡ true → Passed s i (i + n + 2)
    fit-two e f = ended.two (tail-quarter _ e) (tail-quarter _ f)
