-- The promise of `build_rows` fixes what it answers and what it leaves, as that of `build` does.
use Rattle.scored.specs.declared.Summary.{Summary}
use Rattle.std.specs.Prelude.{None, Some, Result, Err, ℕ, Ok}
use mathlib.Core.Path.{◌≡◌, sym, ap, ◌∙◌}
use mathlib.Core.Logic.{◌↔◌}
use Prim.Native.Nat.{ℕ}
use mathlib.Core.List.{List, [], map}
use Rattle.refusal.specs.declared.Reason.{Reason}
use lib.Dec.{T}
use lib.Ieee.{Float}
use lib.ListN.{length}
use Rattle.doubles.specs.Units.{units}
use Rattle.doubles.proofs.Determinacy.{all_held, column-once}
use Rattle.rows.specs.Rows.{Row}
use Rattle.build.specs.Memory.{Memory, with_scores}
use Rattle.build.specs.Promise.{build_fault}
use Rattle.build.proofs.Promises.{promised-once, refused-exactly, accepted-exactly}
use Rattle.scored.specs.Build.{report_of, told}
use Rattle.scored.proofs.Determinacy.{held_in, told-known, told-refused}
use Rattle.sliced.specs.BuildRows.{RowPlaces, row_places, rows_judged, short_for, RowsBuilt}

-- The answer itself and the lent columns themselves: node scores x₁ and x₂, places for the rows' scores y₁ and y₂. That the
-- format holds them is so of every column.
module _ (tab : List ℕ) (rows : List Row) (l : RowPlaces) (m m₁ m₂ : Memory) (a b : Result Summary Reason) (o₁ o₂ n₁ n₂ : List ℕ) (x₁ x₂ y₁ y₂ : List Float)
    (p : RowsBuilt tab rows l m a (row_places o₁ n₁ y₁) (with_scores m₁ (map units x₁))) (q : RowsBuilt tab rows l m b (row_places o₂ n₂ y₂) (with_scores m₂ (map units x₂)))
    (h : T (held_in a)) (k : T (held_in b)) (h₁ : T (all_held x₁)) (h₂ : T (all_held x₂)) (k₁ : T (all_held y₁)) (k₂ : T (all_held y₂)) where
  pub rows-built-once : (a ≡ b) × (o₁ ≡ o₂) × (n₁ ≡ n₂) × (y₁ ≡ y₂) × (with_scores m₁ [] ≡ with_scores m₂ []) × (x₁ ≡ x₂)
  rows-built-once =
      let t = promised-once p.built q.built in
      let places = p.places ∙ sym q.places in (
        told-known a b h k t.0,
        ap (λ (c : RowPlaces). c.off) places,
        ap (λ (c : RowPlaces). c.len) places,
        column-once y₁ y₂ k₁ k₂ (ap (λ (c : RowPlaces). c.score) places),
        ap (λ (x : Memory). with_scores x []) t.1,
        column-once x₁ x₂ h₁ h₂ (ap (λ (x : Memory). x.score) t.1),
      )

module _ (tab : List ℕ) (rows : List Row) (l : RowPlaces) (m : Memory) (answer : Result Summary Reason) (l' : RowPlaces) (after : Memory) (p : RowsBuilt tab rows l m answer l' after) where
  pub rows-refused-exactly : (r : Reason) → (answer ≡ Err r) ↔ (build_fault (rows_judged tab rows) (short_for (length rows) tab rows l m) ≡ Some r)
  rows-refused-exactly r =
      let one = told-refused answer r in
      let two = refused-exactly p.built r in
      (λ q. two.0 (one.0 q), λ e. one.1 (two.1 e))

  pub rows-accepted-exactly : (told answer ≡ Ok (report_of tab rows)) ↔ (build_fault (rows_judged tab rows) (short_for (length rows) tab rows l m) ≡ None)
  rows-accepted-exactly = accepted-exactly p.built
