-- The scores of a Unigram pack's rows, by their place; the lowest, in a loop from row to row; and the unknown score. Assumes
-- nothing.
use mathlib.Core.Path.{◌≡◌, refl, ap, ◌∙◌}
use mathlib.Core.List.{List, map}
use Prim.Native.Nat.{ℕ, suc, ◌+◌, ◌-◌, ◌≤◌, ◌<◌}
use native.Mathlib.Omega.{arith}
use lib.ListN.{length, get_or, length-map, get_or-eq_default}
use Rattle.doubles.specs.Double.{Double, plus_zero, is_finite, lower_of}
use Rattle.rows.specs.declared.Kind.TheVariants.{Unigram}
use Rattle.rows.specs.Rows.{Row, score}
use Rattle.rows.specs.Scores.{lowest, lowest_of}
use Rattle.rows.proofs.RowFaults.{fine-score, fine-worth}
use Rattle.rows.proofs.RowLists.{get_or-map-inside}
use Rattle.build.specs.Rules.{score_of, scores_of}
use Rattle.pack.specs.Pack.{worth_at, row_at, rows_from}
use Rattle.pack.specs.Reading.{double_at, row_start, FineRows, FiniteRows}
use Rattle.pack.proofs.Resting.{all, rest, rest-next, rest-none, from-length, from_at}

-- the score of a row
pub score-is : (bytes : List ℕ) (at : ℕ) → score_of (row_at Unigram bytes at).worth ≡ double_at bytes (at + 8)
unfolding score_of row_at worth_at
score-is bytes at = refl

-- fine rows have finite scores
pub fine-finite : {bytes strings : List ℕ} {n : ℕ} → FineRows Unigram bytes strings n → FiniteRows bytes n
unfolding row_at worth_at
fine-finite {bytes = bytes} {strings = strings} f =
    record {
      few = f.few;
      inside = f.inside;
      finite = λ i h.
          let d = double_at bytes (row_start i + 8) in
          let w = fine-score (score d) (fine-worth Unigram strings (row_at Unigram bytes (row_start i)) (f.fine i h)) in
          let same : d ≡ w.0 = cc w.1 in
          ap is_finite same ∙ w.2;
    }

module _ (bytes : List ℕ) (rows : ℕ) where
  abbrev pub scores : List Double
  scores = scores_of (all Unigram bytes rows)

  pub scores-length : length scores ≡ rows
  unfolding scores_of
  scores-length = length-map (all Unigram bytes rows) (λ r. score_of r.worth) ∙ from-length Unigram bytes 36 rows

  pub scores-at : (i : ℕ) → i < rows → get_or scores i plus_zero ≡ double_at bytes (row_start i + 8)
  unfolding scores_of
  scores-at i h =
      let d = row_at Unigram bytes 0 in
      get_or-map-inside (λ (r : Row). score_of r.worth) (all Unigram bytes rows) i d plus_zero (omega (arith, from-length Unigram bytes 36 rows))
      ∙ ap (λ (r : Row). score_of r.worth) (from_at Unigram bytes d 36 rows i h) ∙ score-is bytes (row_start i)

  pub scores-past : (i : ℕ) → rows ≤ i → get_or scores i plus_zero ≡ plus_zero
  scores-past i h = get_or-eq_default scores plus_zero (omega (arith, scores-length))

  -- ---- the lowest, from row i on

  pub low_turn :
      (low : Double) (i : ℕ) → i < rows
      → lowest low (scores_of (rest Unigram bytes rows i))
      ≡ lowest (lower_of low (double_at bytes (row_start i + 8))) (scores_of (rest Unigram bytes rows (i + 1)))
  unfolding lowest scores_of
  low_turn low i h =
      ap (λ (l : List Row). lowest low (map (λ (r : Row). score_of r.worth) l)) (rest-next Unigram bytes rows i h)
      ∙ ap (λ (d : Double). lowest (lower_of low d) (scores_of (rest Unigram bytes rows (i + 1)))) (score-is bytes (row_start i))

  pub low-stop : (low : Double) (i : ℕ) → rows ≤ i → lowest low (scores_of (rest Unigram bytes rows i)) ≡ low
  unfolding lowest scores_of
  low-stop low i h = ap (λ (l : List Row). lowest low (map (λ (r : Row). score_of r.worth) l)) (rest-none Unigram bytes rows i h)

  -- ---- the lowest of all

  pub lowest-none : rows ≡ 0 → lowest_of scores ≡ plus_zero
  unfolding lowest_of scores_of rows_from
  lowest-none e = ap (λ (n : ℕ). lowest_of (map (λ (r : Row). score_of r.worth) (rows_from Unigram bytes 36 n))) e

  pub lowest-some : 0 < rows → lowest_of scores ≡ lowest (double_at bytes 44) (scores_of (rows_from Unigram bytes 52 (rows - 1)))
  unfolding lowest_of scores_of rows_from
  lowest-some h =
      let e : rows ≡ suc (rows - 1) = omega arith in
      ap (λ (n : ℕ). lowest_of (map (λ (r : Row). score_of r.worth) (rows_from Unigram bytes 36 n))) e
      ∙ ap (λ (d : Double). lowest d (scores_of (rows_from Unigram bytes 52 (rows - 1)))) (score-is bytes 36)
