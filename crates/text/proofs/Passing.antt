-- The turns of `valid_up_to`: whole characters are passed one by one; a run of ASCII is passed at once, each of its bytes a
-- character; and so is a block of ASCII and characters of two bytes, from what is known of each byte and the next. `Passed`
-- composes, so that each function only says what it passes itself. Assumes nothing.
use mathlib.Core.Path.{◌≡◌, refl, ◌∙◌}
use mathlib.Core.Bool.{Bool, true, false}
use mathlib.Core.List.{List}
use Prim.Native.Nat.{ℕ, zero, suc, ◌+◌, ◌/◌, ◌≤◌, ◌<◌}
use native.Mathlib.Omega.{arith}
use borrow.Author.Tests.{ltb-true, ltb-false}
use lib.Dec.{ltb}
use lib.ListN.{length, get_or, drop}
use Rattle.text.specs.Text.{length_of, character}
use Rattle.text.specs.Passing.{Ascii, Follows, Paired, Passed}
use Rattle.text.proofs.Entries.{length-ascii}
use Rattle.text.proofs.Plain.{two_at}
use Rattle.text.proofs.Reading.{character-short, quarter-tail}
use Rattle.text.proofs.Valid.{valid-turn, turn_inside}

-- ---- what holds of each place from i on

module _ (P : ℕ → Type 0) (i : ℕ) where
  pub run_more : (n : ℕ) → ((k : ℕ) → i ≤ k → k < i + n → P k) → P (i + n) → (k : ℕ) → i ≤ k → k < i + (n + 1) → P k
  run_more n run last k p q = go (ltb k (i + n)) refl
    where
      go : (t : Bool) → ltb k (i + n) ≡ t → P k
      go true e = run k p (ltb-true k (i + n) e)
      go false e =
          let here : k ≡ i + n = omega (arith, ltb-false k (i + n) e) in
          rw here last

-- ---- what is passed

pub passed_none : (s : List ℕ) (i : ℕ) → i ≤ length s → Passed s i i
passed_none s i h = record { above = omega arith; inside = h; same = refl }

pub passed_on : (s : List ℕ) (i j k : ℕ) → Passed s i j → Passed s j k → Passed s i k
passed_on s i j k p q = record { above = omega arith; inside = q.inside; same = p.same ∙ q.same }

pub passed-character : (s : List ℕ) (i n : ℕ) → character (drop i s) ≡ n → 0 < n → Passed s i (i + n)
passed-character s i n e p = record { above = omega arith; inside = turn_inside s i n e p; same = valid-turn s i n e p }

pub passed-byte : (s : List ℕ) (i : ℕ) → i < length s → get_or s i 0 < 0x80 → Passed s i (i + 1)
passed-byte s i h b =
    let one : length_of (get_or s i 0) ≡ 1 = length-ascii (get_or s i 0) b in
    passed-character s i 1 (character-short s i h (omega arith) ∙ one) (omega arith)

pub passed-ascii : (n : ℕ) (s : List ℕ) (i : ℕ) → i + n ≤ length s → Ascii s i (i + n) → Passed s i (i + n)
passed-ascii zero s i h run = let e : i + 0 ≡ i = omega arith in rw e (passed_none s i (omega arith))
passed-ascii (suc n) s i h run =
    let e : i + 1 + n ≡ i + suc n = omega arith in
    let first : Passed s i (i + 1) = passed-byte s i (omega arith) (run i (omega arith) (omega arith)) in
    let later : Passed s (i + 1) (i + 1 + n) = passed-ascii n s (i + 1) (omega arith) (λ k p q. run k (omega arith) (omega arith)) in
    rw e at (passed_on s i (i + 1) (i + 1 + n) first later)

-- ---- ASCII and characters of two bytes

-- what is passed of a block up to j: all of it, and one byte more where the last one begins a character
record Ended (s : List ℕ) (i j : ℕ) : Type 0 where
  pub at_tail : get_or s j 0 / 64 ≡ 2 → Passed s i (j + 1)
  pub at-lead : (get_or s j 0 / 64 ≡ 2 → ⊥) → Passed s i j

module _ (s : List ℕ) where
  ended-on : (i k j : ℕ) → Passed s i k → Ended s k j → Ended s i j
  ended-on i k j p e = record { at_tail = λ t. passed_on s i k (j + 1) p (e.at_tail t); at-lead = λ t. passed_on s i k j p (e.at-lead t) }

  -- C2-DF and the tail that must follow
  passed-pair : (i : ℕ) → i + 2 ≤ length s → 0xC0 ≤ get_or s i 0 → Follows (get_or s i 0) (get_or s (i + 1) 0) → Passed s i (i + 2)
  passed-pair i h b f =
      let lead = f.lead b in
      passed-character s i 2 (two_at s i h lead.0 lead.1 (quarter-tail (get_or s (i + 1) 0) lead.2)) (omega arith)

  -- a byte that is neither ASCII nor a tail is C0 or more
  above : (i : ℕ) → ltb (get_or s i 0) 0x80 ≡ false → (get_or s i 0 / 64 ≡ 2 → ⊥) → 0xC0 ≤ get_or s i 0
  above i e start = omega (arith, ltb-false (get_or s i 0) 0x80 e, start)

  -- from character to character; t tells whether the first byte is ASCII
  walk :
      (n i : ℕ) (t : Bool) → ltb (get_or s i 0) 0x80 ≡ t → i + n < length s → Paired s i (i + n) → (get_or s i 0 / 64 ≡ 2 → ⊥) → Ended s i (i + n)
  walk zero i t e h run start =
      let still : i + 0 ≡ i = omega arith in
      rw still (record { at_tail = λ q. absurd (start q); at-lead = λ q. passed_none s i (omega arith) })
  walk (suc n) i true e h run start =
      let next : i + 1 + n ≡ i + suc n = omega arith in
      let small : get_or s i 0 < 0x80 = ltb-true _ _ e in
      let later : Ended s (i + 1) (i + 1 + n) =
      walk n (i + 1) (ltb (get_or s (i + 1) 0) 0x80) refl (omega arith) (λ k p q. run k (omega arith) (omega arith))
      ((run i (omega arith) (omega arith)).low (omega arith))
      in
      rw next at (ended-on i (i + 1) (i + 1 + n) (passed-byte s i (omega arith) small) later)
  walk (suc zero) i false e h run start =
      let here : i + suc zero ≡ i + 1 = omega arith in
      let lead : 0xC0 ≤ get_or s i 0 = above i e start in
      let f : Follows (get_or s i 0) (get_or s (i + 1) 0) = run i (omega arith) (omega arith) in
      let two : i + 2 ≡ i + 1 + 1 = omega arith in
      rw here (record { at_tail = λ q. rw two at (passed-pair i (omega arith) lead f); at-lead = λ q. absurd (q (f.lead lead).2) })
  walk (suc (suc n)) i false e h run start =
      let next : i + 2 + n ≡ i + suc (suc n) = omega arith in
      let lead : 0xC0 ≤ get_or s i 0 = above i e start in
      let f : Follows (get_or s i 0) (get_or s (i + 1) 0) = run i (omega arith) (omega arith) in
      let second : i + 1 + 1 ≡ i + 2 = omega arith in
      let g : Follows (get_or s (i + 1) 0) (get_or s (i + 2) 0) = rw second at (run (i + 1) (omega arith) (omega arith)) in
      let later : Ended s (i + 2) (i + 2 + n) =
      walk n (i + 2) (ltb (get_or s (i + 2) 0) 0x80) refl (omega arith) (λ k p q. run k (omega arith) (omega arith))
      (g.low (omega (arith, (f.lead lead).2)))
      in
      rw next at (ended-on i (i + 2) (i + 2 + n) (passed-pair i (omega arith) lead f) later)

  -- a block that starts at no tail ends with a whole character
  module _ (i n : ℕ) (h : i + n < length s) (run : Paired s i (i + n)) (start : get_or s i 0 / 64 ≡ 2 → ⊥) where
    pub paired-tail : get_or s (i + n) 0 / 64 ≡ 2 → Passed s i (i + n + 1)
    paired-tail = (walk n i (ltb (get_or s i 0) 0x80) refl h run start).at_tail

    pub paired-lead : (get_or s (i + n) 0 / 64 ≡ 2 → ⊥) → Passed s i (i + n)
    paired-lead = (walk n i (ltb (get_or s i 0) 0x80) refl h run start).at-lead
