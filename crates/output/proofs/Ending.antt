-- Lines, one after the other: the first is what stands before the first LF, and the rest are the lines of what stands behind
-- it. Assumes nothing.
use mathlib.Core.Path.{◌≡◌, refl, sym, ap, ◌∙◌}
use mathlib.Core.Bool.{Bool, true, false, cond}
use mathlib.Core.List.{List, [], ◌∷◌, ◌++◌, append-nil}
use Prim.Native.Nat.{ℕ, suc, ◌+◌, ◌≤◌, ◌<◌}
use native.Mathlib.Omega.{arith}
use native.Mathlib.Numerals.{add-one}
use borrow.Author.Tests.{eq-eqb, ne_eqb, eqb-true}
use lib.Dec.{eqb}
use lib.ListN.{length, get_or, take, drop, length-append, drop_of_length-le}
use lib.Seq.{append_snoc, drop-cons}
use Rattle.output.specs.Lines.{lf, lines_after, lines, until_lf}

-- ---- the first line

no_lines : lines_after [] [] ≡ []
unfolding lines_after
no_lines = refl

first_ends : (begun s : List ℕ) → lines_after begun (lf ∷ s) ≡ begun ∷ lines_after [] s
unfolding lines_after
first_ends [] s = refl
first_ends (c ∷ begun) s = refl

goes_on : (begun : List ℕ) (b : ℕ) (s : List ℕ) → eqb b lf ≡ false → lines_after begun (b ∷ s) ≡ lines_after (begun ++ (b ∷ [])) s
unfolding lines_after
goes_on [] b s e = ap (λ (t : Bool). cond t ([] ∷ lines_after [] s) (lines_after (b ∷ []) s)) e
goes_on (c ∷ begun) b s e = ap (λ (t : Bool). cond t ((c ∷ begun) ∷ lines_after [] s) (lines_after (c ∷ begun ++ (b ∷ [])) s)) e

ends_there : (b : ℕ) (s : List ℕ) → eqb b lf ≡ true → until_lf (b ∷ s) ≡ 0
unfolding until_lf
ends_there b s e = ap (λ (t : Bool). cond t 0 (suc (until_lf s))) e

ends-later : (b : ℕ) (s : List ℕ) → eqb b lf ≡ false → until_lf (b ∷ s) ≡ suc (until_lf s)
unfolding until_lf
ends-later b s e = ap (λ (t : Bool). cond t 0 (suc (until_lf s))) e

-- the line that stands before the first LF, after what has begun
abbrev split : List ℕ → List ℕ → ℕ → List (List ℕ)
split begun s u = (begun ++ take u s) ∷ lines_after [] (drop (suc u) s)

first-after : (begun s : List ℕ) → 0 < length begun + length s → lines_after begun s ≡ split begun s (until_lf s)
unfolding until_lf lines_after
first-after [] [] h = absurd (omega arith)
first-after (c ∷ begun) [] h = ap (λ (l : List ℕ). l ∷ []) (sym (append-nil (c ∷ begun)))
first-after begun (b ∷ s) h = go (eqb b lf) refl (λ more. first-after (begun ++ (b ∷ [])) s more)
  where
    go :
        (t : Bool) → eqb b lf ≡ t → (0 < length (begun ++ (b ∷ [])) + length s → lines_after (begun ++ (b ∷ [])) s ≡ split (begun ++ (b ∷ [])) s (until_lf s))
        → lines_after begun (b ∷ s) ≡ split begun (b ∷ s) (until_lf (b ∷ s))
    go true e on =
        let is-lf : b ≡ lf = eqb-true b lf e in
        ap (λ (x : ℕ). lines_after begun (x ∷ s)) is-lf ∙ first_ends begun s
        ∙ sym (ap (split begun (b ∷ s)) (ends_there b s e) ∙ ap (λ (l : List ℕ). l ∷ lines_after [] s) (append-nil begun))
    go false e on =
        goes_on begun b s e ∙ on (omega (arith, length-append begun (b ∷ [])))
        ∙ ap (λ (l : List ℕ). l ∷ lines_after [] (drop (suc (until_lf s)) s)) (append_snoc begun b (take (until_lf s) s))
        ∙ sym (ap (split begun (b ∷ s)) (ends-later b s e))

-- what the program does first with what is left of its input
pub lines-first : (s : List ℕ) → 0 < length s → lines s ≡ take (until_lf s) s ∷ lines (drop (suc (until_lf s)) s)
unfolding lines
lines-first s h = first-after [] s (omega arith)

pub lines_none : (s : List ℕ) → length s ≡ 0 → lines s ≡ []
unfolding lines
lines_none [] h = no_lines
lines_none (b ∷ s) h = absurd (omega arith)

pub until-inside : (s : List ℕ) → until_lf s ≤ length s
unfolding until_lf
until-inside [] = omega arith
until-inside (b ∷ s) = go (eqb b lf) refl (until-inside s)
  where
    go : (t : Bool) → eqb b lf ≡ t → until_lf s ≤ length s → until_lf (b ∷ s) ≤ suc (length s)
    go true e on = omega (arith, ends_there b s e)
    go false e on = omega (arith, ends-later b s e)

-- ---- looking for LF from byte i on

pub until-here : (s : List ℕ) (i : ℕ) → i < length s → get_or s i 0 ≡ lf → until_lf (drop i s) ≡ 0
until-here s i h e = ap until_lf (drop-cons s i 0 h) ∙ ends_there (get_or s i 0) (drop (suc i) s) (eq-eqb (get_or s i 0) lf e)

pub until-next : (s : List ℕ) (i : ℕ) → i < length s → (get_or s i 0 ≡ lf → ⊥) → i + until_lf (drop i s) ≡ i + 1 + until_lf (drop (i + 1) s)
until-next s i h e =
    let step : until_lf (drop i s) ≡ suc (until_lf (drop (suc i) s)) =
    ap until_lf (drop-cons s i 0 h) ∙ ends-later (get_or s i 0) (drop (suc i) s) (ne_eqb (get_or s i 0) lf e) in
    let same : until_lf (drop (suc i) s) ≡ until_lf (drop (i + 1) s) = ap (λ (k : ℕ). until_lf (drop k s)) (sym (add-one i)) in
    omega (arith, step, same)

pub until_end : (s : List ℕ) (i : ℕ) → length s ≤ i → until_lf (drop i s) ≡ 0
unfolding until_lf
until_end s i h = ap until_lf (drop_of_length-le s h)
