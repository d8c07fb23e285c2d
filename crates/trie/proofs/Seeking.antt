-- Looking a byte up among edges whose bytes rise strictly. Places that do not hold the byte may be left out in front
-- (`seek-skip`) or behind (`seek-cut`); where bytes rise, one byte in between says which side that is. So a step that looks at
-- three edges and keeps one of the four parts between them is the scan. Assumes nothing.
use Rattle.std.specs.Prelude.{None, Some}
use mathlib.Core.Path.{◌≡◌, refl, sym, ap, ◌∙◌}
use mathlib.Core.Bool.{Bool, true, false, cond}
use mathlib.Core.List.{List}
use mathlib.Core.Logic.{⊎_elim}
use Prim.Native.Nat.{ℕ, zero, suc, ◌+◌, ◌-◌, ◌*◌, ◌/◌, ◌≤◌, ◌<◌}
use native.Mathlib.Nat.{eq-or-lt_of_le}
use native.Mathlib.Omega.{arith}
use borrow.Author.Tests.{eq-eqb, ne_eqb, eqb-true, leb-true, leb-false}
use lib.Dec.{leb, eqb}
use lib.ListN.{get_or}
use Rattle.refusal.proofs.Lists.{none-some}
use Rattle.trie.specs.Trie.{seek}

-- the byte b stands nowhere from `at` up to `end`
abbrev pub Clear : List ℕ → ℕ → ℕ → ℕ → Type 0
Clear bytes b at end = (k : ℕ) → at ≤ k → k < end → get_or bytes k 0 ≡ b → ⊥

-- an edge among the n from `at` on that has the byte b, and leads to j
pub record Holds (bytes tos : List ℕ) (b at n j : ℕ) : Type 0 where
  pub edge : ℕ
  pub from : at ≤ edge
  pub below : edge < at + n
  pub byte : get_or bytes edge 0 ≡ b
  pub target : get_or tos edge 0 ≡ j

-- ---- the scan

module _ (bytes tos : List ℕ) (b : ℕ) where
  pub seek-here : (at n : ℕ) → get_or bytes at 0 ≡ b → seek bytes tos b at (suc n) ≡ Some (get_or tos at 0)
  unfolding seek
  seek-here at n e = rw (eq-eqb (get_or bytes at 0) b e)

  pub seek-later : (at n : ℕ) → (get_or bytes at 0 ≡ b → ⊥) → seek bytes tos b at (suc n) ≡ seek bytes tos b (suc at) n
  unfolding seek
  seek-later at n e = rw (ne_eqb (get_or bytes at 0) b e)

  pub seek-empty : (at : ℕ) → seek bytes tos b at 0 ≡ None
  unfolding seek
  seek-empty at = refl

  -- the first of the edges up to `end` has the byte, or is passed over
  pub seek-first : (k end : ℕ) → k < end → get_or bytes k 0 ≡ b → seek bytes tos b k (end - k) ≡ Some (get_or tos k 0)
  seek-first k end below same =
      let e : end - k ≡ suc (end - k - 1) = omega arith in
      ap (seek bytes tos b k) e ∙ seek-here k (end - k - 1) same

  pub seek-past :
      (k end : ℕ) → k < end → (get_or bytes k 0 ≡ b → ⊥)
      → seek bytes tos b k (end - k) ≡ seek bytes tos b (k + 1) (end - (k + 1))
  seek-past k end below other =
      let e : end - k ≡ suc (end - (k + 1)) = omega arith in
      let next : suc k ≡ k + 1 = omega arith in
      ap (seek bytes tos b k) e
      ∙ seek-later k (end - (k + 1)) other
      ∙ ap (λ (i : ℕ). seek bytes tos b i (end - (k + 1))) next

  pub seek-over : (at n : ℕ) → n ≡ 0 → seek bytes tos b at n ≡ None
  seek-over at n e = ap (seek bytes tos b at) e ∙ seek-empty at

  pub seek-none : (n at : ℕ) → Clear bytes b at (at + n) → seek bytes tos b at n ≡ None
  seek-none zero at clear = seek-empty at
  seek-none (suc n) at clear =
      seek-later at n (clear at (omega arith) (omega arith))
      ∙ seek-none n (suc at) (λ k p q. clear k (omega arith) (omega arith))

  pub seek-skip : (m at n : ℕ) → Clear bytes b at (at + m) → seek bytes tos b at (m + n) ≡ seek bytes tos b (at + m) n
  seek-skip zero at n clear =
      let e : at + 0 ≡ at = omega arith in
      let f : 0 + n ≡ n = omega arith in
      rw (e, f)
  seek-skip (suc m) at n clear =
      let e : at + suc m ≡ suc at + m = omega arith in
      let f : suc m + n ≡ suc (m + n) = omega arith in
      rw (e, f)
      (seek-later at (m + n) (clear at (omega arith) (omega arith))
      ∙ seek-skip m (suc at) n (λ k p q. clear k (omega arith) (omega arith)))

  pub seek-cut : (m at n : ℕ) → Clear bytes b (at + m) (at + m + n) → seek bytes tos b at (m + n) ≡ seek bytes tos b at m
  unfolding seek
  seek-cut zero at n clear =
      let f : 0 + n ≡ n = omega arith in
      rw f (seek-none n at (λ k p q. clear k (omega arith) (omega arith)) ∙ sym (seek-empty at))
  seek-cut (suc m) at n clear =
      let f : suc m + n ≡ suc (m + n) = omega arith in
      rw (f, seek-cut m (suc at) n (λ k p q. clear k (omega arith) (omega arith)))

  -- ---- what was found

  pub seek_found : (n at : ℕ) {j : ℕ} → seek bytes tos b at n ≡ Some j → Holds bytes tos b at n j
  unfolding seek
  seek_found zero at e = none-some e
  seek_found (suc n) at {j} e = go (eqb (get_or bytes at 0) b) refl (seek_found n (suc at)) e
    where
      later : Holds bytes tos b (suc at) n j → Holds bytes tos b at (suc n) j
      later h = record { edge = h.edge; from = omega arith; below = omega arith; byte = h.byte; target = h.target }

      go :
          (t : Bool) → eqb (get_or bytes at 0) b ≡ t → (seek bytes tos b (suc at) n ≡ Some j → Holds bytes tos b (suc at) n j)
          → cond t (Some (get_or tos at 0)) (seek bytes tos b (suc at) n) ≡ Some j → Holds bytes tos b at (suc n) j
      go true p rest q =
          record { edge = at; from = omega arith; below = omega arith; byte = eqb-true (get_or bytes at 0) b p; target = cc }
      go false p rest q = later (rest q)

  -- ---- by quarters

  -- the bytes from `at` up to `end` rise strictly
  module _ (at n : ℕ) (rising : (i : ℕ) → suc i < n → get_or bytes (at + i) 0 < get_or bytes (at + suc i) 0) where
    next-above : (k : ℕ) → at ≤ k → suc k < at + n → get_or bytes k 0 < get_or bytes (suc k) 0
    next-above k p q =
        let here : at + (k - at) ≡ k = omega arith in
        let next : at + suc (k - at) ≡ suc k = omega arith in
        rw (here, next) at (rising (k - at) (omega arith))

    far-above : (d k : ℕ) → at ≤ k → k + suc d < at + n → get_or bytes k 0 < get_or bytes (k + suc d) 0
    far-above zero k p q = let e : k + 1 ≡ suc k = omega arith in rw e (next-above k p (omega arith))
    far-above (suc d) k p q =
        let e : k + suc (suc d) ≡ suc (k + suc d) = omega arith in
        let near : get_or bytes k 0 < get_or bytes (k + suc d) 0 = far-above d k p (omega arith) in
        let last : get_or bytes (k + suc d) 0 < get_or bytes (suc (k + suc d)) 0 =
        next-above (k + suc d) (omega arith) (omega arith)
        in
        rw e (omega arith)

    pub later-above : (k j : ℕ) → at ≤ k → k < j → j < at + n → get_or bytes k 0 < get_or bytes j 0
    later-above k j p q r =
        let e : k + suc (j - suc k) ≡ j = omega arith in
        rw e at (far-above (j - suc k) k p (omega arith))

    -- of the `left` edges from `low` on
    module _ (low left : ℕ) (from : at ≤ low) (to : low + left ≤ at + n) where
      -- those in front of one whose byte is at most b can be left out
      skip-to :
          (m : ℕ) → m < left → get_or bytes (low + m) 0 ≤ b → seek bytes tos b low left ≡ seek bytes tos b (low + m) (left - m)
      skip-to m s l =
          let whole : left ≡ m + (left - m) = omega arith in
          ap (seek bytes tos b low) whole
          ∙ seek-skip m low (left - m)
          (λ k p q same. omega (arith, later-above k (low + m) (omega arith) (omega arith) (omega arith)))

      -- and those from any place on that is not in front of one whose byte is above b
      cut-to :
          (m rest : ℕ) → m ≤ rest → rest ≤ left → m < left → b < get_or bytes (low + m) 0
          → seek bytes tos b low left ≡ seek bytes tos b low rest
      cut-to m rest p s r l =
          let whole : left ≡ rest + (left - rest) = omega arith in
          ap (seek bytes tos b low) whole
          ∙ seek-cut rest low (left - rest) (λ k u v same. above k (omega arith) (omega arith) same)
        where
          above : (k : ℕ) → low + m ≤ k → k < low + left → get_or bytes k 0 ≡ b → ⊥
          above k u v same =
              ⊎_elim
              (λ e. omega (arith, ap (λ (j : ℕ). get_or bytes j 0) e))
              (λ h. omega (arith, later-above (low + m) k (omega arith) h (omega arith)))
              (eq-or-lt_of_le u)

    -- The turn of a search that has the `left` edges from `low` on before it, and looks at three of them, `part` apart: it goes
    -- on by `part` for each whose byte is at most b, and leaves out three parts in all.
    module _
        (low part left : ℕ) (from : at ≤ low) (some : 3 * part < left) (parted : 4 * part ≤ left)
        (to : low + left ≤ at + n)
      where
        abbrev one : ℕ
        one = get_or bytes (low + part) 0

        abbrev two : ℕ
        two = get_or bytes (low + 2 * part) 0

        abbrev three : ℕ
        three = get_or bytes (low + 3 * part) 0

        moved : (i j k m : ℕ) → i ≡ j → k ≡ m → seek bytes tos b i k ≡ seek bytes tos b j m
        moved i j k m e f = ap (seek bytes tos b i) f ∙ ap (λ (x : ℕ). seek bytes tos b x m) e

        rises : (1 ≤ part) → (one < two) × (two < three)
        rises p = (
          later-above (low + part) (low + 2 * part) (omega arith) (omega arith) (omega arith),
          later-above (low + 2 * part) (low + 3 * part) (omega arith) (omega arith) (omega arith),
        )

        pub quarters :
            1 ≤ part
            → seek bytes tos b low left
            ≡ seek bytes tos b (low + (cond (leb one b) part 0 + cond (leb two b) part 0 + cond (leb three b) part 0))
            (left - 3 * part)
        quarters p = go (leb one b) (leb two b) (leb three b) refl refl refl
          where
            go :
                (x y z : Bool) → leb one b ≡ x → leb two b ≡ y → leb three b ≡ z
                → seek bytes tos b low left
                ≡ seek bytes tos b (low + (cond x part 0 + cond y part 0 + cond z part 0)) (left - 3 * part)
            go true true true u v w =
                skip-to low left from to (3 * part) (omega arith) (leb-true three b w) ∙ moved _ _ _ _ (omega arith) refl
            go true true false u v w =
                skip-to low left from to (2 * part) (omega arith) (leb-true two b v)
                ∙ cut-to (low + 2 * part) (left - 2 * part) (omega arith) (omega arith) part (left - 3 * part) (omega arith)
                (omega arith) (omega arith)
                (let e : low + 2 * part + part ≡ low + 3 * part = omega arith in rw e (leb-false three b w))
                ∙ moved _ _ _ _ (omega arith) refl
            go true false false u v w =
                skip-to low left from to part (omega arith) (leb-true one b u)
                ∙ cut-to (low + part) (left - part) (omega arith) (omega arith) part (left - 3 * part) (omega arith)
                (omega arith) (omega arith)
                (let e : low + part + part ≡ low + 2 * part = omega arith in rw e (leb-false two b v))
                ∙ moved _ _ _ _ (omega arith) refl
            go false false false u v w =
                cut-to low left from to part (left - 3 * part) (omega arith) (omega arith) (omega arith) (leb-false one b u)
                ∙ moved _ _ _ _ (omega arith) refl
            go false true z u v w = absurd (omega (arith, rises p, leb-false one b u, leb-true two b v))
            go false false true u v w = absurd (omega (arith, rises p, leb-false one b u, leb-true three b w))
            go true false true u v w = absurd (omega (arith, rises p, leb-false two b v, leb-true three b w))

-- the turns of a search that looks at one edge after the other
pub ruleset one_by_one = (seek-first, seek-past, seek-over)

-- how far a turn goes on
pub at_most : (t : Bool) (part : ℕ) → cond t part 0 ≤ part
at_most true part = omega arith
at_most false part = omega arith

-- the number by which a turn tells the parts apart: 256 + b - x is 256 or more exactly where x is at most b
pub passed_is : (part x b : ℕ) → x < 256 → b < 256 → part * ((256 + b - x) / 256) ≡ cond (leb x b) part 0
passed_is part x b p q = go (leb x b) refl
  where
    go : (t : Bool) → leb x b ≡ t → part * ((256 + b - x) / 256) ≡ cond t part 0
    go true e =
        let l : x ≤ b = leb-true x b e in
        let one : (256 + b - x) / 256 ≡ 1 = omega arith in
        rw one (omega arith)
    go false e =
        let l : b < x = leb-false x b e in
        let none : (256 + b - x) / 256 ≡ 0 = omega arith in
        rw none (omega arith)
