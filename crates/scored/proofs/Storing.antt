-- A score column stored from the front: the places below k hold what a rule gives them, the others what they held. And a column
-- filled with zeros. Assumes nothing.
use mathlib.Core.Path.{◌≡◌, sym, ap, ◌∙◌}
use mathlib.Core.List.{List, ◌++◌, map}
use mathlib.Core.Logic.{⊎_elim}
use Prim.Native.Nat.{ℕ, ◌+◌, ◌-◌, ◌≤◌, ◌<◌}
use native.Mathlib.Omega.{arith}
use lib.Ieee.{Float, of_bits, binary64}
use lib.LanesLaws.{map-replicate}
use lib.ListN.{
  length,
  get_or,
  set,
  take,
  replicate,
  length-append,
  length-map,
  length-set,
  length-replicate,
  get_or-replicate,
  get_or-append,
  get_or-eq_default,
}
use lib.Seq.{length-take-le, get_or-take, get_or-append-add, get_or-set_same, get_or-set_other, ext_get_or}
use Rattle.doubles.specs.Double.{Double, plus_zero}
use Rattle.doubles.specs.Units.{units}
use Rattle.doubles.proofs.Patterns.{zero-units}
use Rattle.refusal.specs.Places.{zeroed}
use Rattle.scored.specs.NodeScores.{row_score, filled_scores}
use Rattle.refusal.proofs.Lists.{below_or}
use Rattle.refusal.proofs.Lists.{map-inside, map-set}

pub record Stored (f : ℕ → Double) (before : List Double) (k : ℕ) (xs : List Float) : Type 0 where
  pub inside : k ≤ length before
  pub kept : length xs ≡ length before
  pub front : (j : ℕ) → j < k → get_or (map units xs) j plus_zero ≡ f j
  pub rest : (j : ℕ) → k ≤ j → get_or (map units xs) j plus_zero ≡ get_or before j plus_zero

pub stored-none : (f : ℕ → Double) (before : List Double) (xs : List Float) → map units xs ≡ before → Stored f before 0 xs
stored-none f before xs e =
    record {
      inside = omega arith;
      kept = sym (length-map xs units) ∙ ap length e;
      front = λ j h. absurd (omega arith);
      rest = λ j h. ap (λ (l : List Double). get_or l j plus_zero) e;
    }

module _ {f : ℕ → Double} {before : List Double} {k : ℕ} {xs : List Float} (s : Stored f before k xs) where
  -- one place more
  pub stored_more : (z : Float) → k < length xs → units z ≡ f k → Stored f before (k + 1) (set xs k z)
  stored_more z h e =
      record {
        inside = omega (arith, s.kept);
        kept = length-set xs k z ∙ s.kept;
        front = λ j l. ⊎_elim (λ (p : j < k). other j (omega arith) ∙ s.front j p) (λ (p : k ≤ j). here j (omega arith)) (below_or j k);
        rest = λ j l. other j (omega arith) ∙ s.rest j (omega arith);
      }
    where
      other : (j : ℕ) → (j ≡ k → ⊥) → get_or (map units (set xs k z)) j plus_zero ≡ get_or (map units xs) j plus_zero
      other j n = ap (λ (l : List Double). get_or l j plus_zero) (map-set units xs k z) ∙ get_or-set_other (map units xs) k j (units z) plus_zero n

      here : (j : ℕ) → j ≡ k → get_or (map units (set xs k z)) j plus_zero ≡ f j
      here j p =
          ap (λ (i : ℕ). get_or (map units (set xs k z)) i plus_zero) p
          ∙ ap (λ (l : List Double). get_or l k plus_zero) (map-set units xs k z)
          ∙ get_or-set_same (map units xs) k (units z) plus_zero (omega (arith, length-map xs units))
          ∙ e
          ∙ ap f (sym p)

-- a column filled with 0.0
pub filled-zeros :
    (xs : List Float) {ys : List Float} → ys ≡ replicate (length xs) (of_bits binary64 0)
    → map units ys ≡ zeroed plus_zero (map units xs)
filled-zeros xs e =
    ap (map units) e ∙ map-replicate units (length xs) (of_bits binary64 0)
    ∙ ap (replicate (length xs)) zero-units ∙ ap (λ (n : ℕ). replicate n plus_zero) (sym (length-map xs units))

-- the nodes' scores, over zeros
module _ (scores : List Double) (ids : List ℕ) (n : ℕ) (ys : List Double) where
  abbrev vs : List Double
  vs = map (row_score scores) (take n ids)

  pub stored-scores :
      {xs : List Float} → n ≤ length ids → n ≤ length ys → Stored (λ j. row_score scores (get_or ids j 0)) (zeroed plus_zero ys) n xs
      → map units xs ≡ filled_scores scores (take n ids) ys
  stored-scores {xs} p q s =
      ext_get_or plus_zero (map units xs) (vs ++ replicate (length ys - length vs) plus_zero)
      (omega (arith, length-map xs units, s.kept, length-replicate (length ys) plus_zero, both))
      (λ j h. ⊎_elim (front j) (back j) (below_or j n))
    where
      count : length vs ≡ n
      count = length-map (take n ids) (row_score scores) ∙ length-take-le n ids p

      both : length (vs ++ replicate (length ys - length vs) plus_zero) ≡ length ys
      both =
          omega (
            arith,
            count,
            length-append vs (replicate (length ys - length vs) plus_zero),
            length-replicate (length ys - length vs) plus_zero,
          )

      front : (j : ℕ) → j < n → get_or (map units xs) j plus_zero ≡ get_or (vs ++ replicate (length ys - length vs) plus_zero) j plus_zero
      front j h =
          s.front j h
          ∙ ap (row_score scores) (sym (get_or-take n ids j 0 h))
          ∙ sym (map-inside (row_score scores) (take n ids) j 0 plus_zero (omega (arith, length-take-le n ids p)))
          ∙ sym (get_or-append vs (replicate (length ys - length vs) plus_zero) plus_zero j (omega (arith, count)))

      zeros : (m j : ℕ) → get_or (replicate m plus_zero) j plus_zero ≡ plus_zero
      zeros m j =
          ⊎_elim (get_or-replicate m j plus_zero plus_zero)
          (λ (h : m ≤ j). get_or-eq_default (replicate m plus_zero) plus_zero (omega (arith, length-replicate m plus_zero)))
          (below_or j m)

      back : (j : ℕ) → n ≤ j → get_or (map units xs) j plus_zero ≡ get_or (vs ++ replicate (length ys - length vs) plus_zero) j plus_zero
      back j h =
          let e : length vs + (j - length vs) ≡ j = omega (arith, count) in
          s.rest j h
          ∙ zeros (length ys) j
          ∙ sym (zeros (length ys - length vs) (j - length vs))
          ∙ sym (get_or-append-add vs (replicate (length ys - length vs) plus_zero) (j - length vs) plus_zero)
          ∙ ap (λ (i : ℕ). get_or (vs ++ replicate (length ys - length vs) plus_zero) i plus_zero) e

-- ---- one row's score

pub score-inside : (scores : List Float) (row : ℕ) (d : Float) → row < length scores → units (get_or scores row d) ≡ get_or (map units scores) row plus_zero
score-inside scores row d h = sym (map-inside units scores row d plus_zero h)

pub score-none : (scores : List Float) (row : ℕ) → length scores ≤ row → plus_zero ≡ get_or (map units scores) row plus_zero
score-none scores row h = sym (get_or-eq_default (map units scores) plus_zero (omega (arith, length-map scores units)))
