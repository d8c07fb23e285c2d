-- The promise of `build` fixes what it answers and what it leaves. Scores are promised as doubles, of which the format has one
-- value each, so that the answer and the score column themselves are fixed too.
use Rattle.scored.specs.declared.Summary.{Summary}
use Rattle.std.specs.Prelude.{None, Some, Result, Ok, Err, ℕ}
use mathlib.Core.Path.{◌≡◌, ap, ap₂}
use mathlib.Core.Bool.{Bool, true}
use mathlib.Core.Logic.{◌↔◌}
use Prim.Native.Nat.{ℕ}
use mathlib.Core.List.{List, [], map}
use lib.Dec.{T}
use lib.Ieee.{Float}
use Rattle.refusal.proofs.Lists.{zero_one}
use Rattle.refusal.specs.declared.Reason.{Reason}
use Rattle.doubles.specs.Double.{Double}
use Rattle.doubles.specs.Units.{units}
use Rattle.doubles.proofs.Floats.{units-injective}
use Rattle.doubles.proofs.Determinacy.{held, all_held, column-once}
use Rattle.rows.specs.declared.Kind.TheVariants.{Unigram}
use Rattle.rows.specs.Columns.{Columns, rows_of, columns_fault}
use Rattle.build.specs.Memory.{Memory, with_scores, no_scored_room}
use Rattle.build.specs.Checked.{nodes_of}
use Rattle.build.specs.Promise.{build_fault}
use Rattle.build.proofs.Promises.{promised-once, refused-exactly, accepted-exactly}
use Rattle.scored.specs.Build.{Report, report_of, told, Built}

-- the score that an answer has is one that the format holds, as every `f64` is
abbrev pub held_in : Result Summary Reason → Bool
held_in (Ok s) = held s.unknown_score
held_in (Err r) = true

-- an answer is known by what it tells
pub told-known : (a b : Result Summary Reason) → T (held_in a) → T (held_in b) → told a ≡ told b → a ≡ b
unfolding told
told-known (Ok s) (Ok t) h k e =
    let n : s.nodes ≡ t.nodes = ap (nodes-in 0) e in
    let x : units s.unknown_score ≡ units t.unknown_score = ap (unknown-in (units s.unknown_score)) e in
    ap₂ (λ (n : ℕ) (x : Float). Ok (record { nodes = n; unknown_score = x })) n
    (units-injective s.unknown_score t.unknown_score h k x)
  where
    nodes-in : ℕ → Result Report Reason → ℕ
    nodes-in d (Ok r) = r.nodes
    nodes-in d (Err r) = d

    unknown-in : Double → Result Report Reason → Double
    unknown-in d (Ok r) = r.unknown
    unknown-in d (Err r) = d
told-known (Ok s) (Err r) h k e = cc
told-known (Err r) (Ok t) h k e = cc
told-known (Err q) (Err r) h k e = let same : q ≡ r = cc in ap Err same

-- `build` on the same rows and memory: one answer, and one content of every lent column. That the format holds the scores is so
-- of every column.
module _ (tab : List ℕ) (c : Columns) (m m₁ m₂ : Memory) (a b : Result Summary Reason) (x₁ x₂ : List Float)
    (p : Built tab c m a (with_scores m₁ (map units x₁))) (q : Built tab c m b (with_scores m₂ (map units x₂)))
    (h : T (held_in a)) (k : T (held_in b)) (h₁ : T (all_held x₁)) (h₂ : T (all_held x₂)) where
  pub built-once : (a ≡ b) × (with_scores m₁ [] ≡ with_scores m₂ []) × (x₁ ≡ x₂)
  built-once =
      let t = promised-once p q in (
        told-known a b h k t.0,
        ap (λ (x : Memory). with_scores x []) t.1,
        column-once x₁ x₂ h₁ h₂ (ap (λ (x : Memory). x.score) t.1),
      )

-- "exactly when", both ways: a build is refused with r exactly when r is its fault, and says N and the unknown score exactly
-- when there is none
pub told-refused : (b : Result Summary Reason) (r : Reason) → (b ≡ Err r) ↔ (told b ≡ Err r)
unfolding told
told-refused b r = (λ e. ap told e, says b)
  where
    says : (b : Result Summary Reason) → told b ≡ Err r → b ≡ Err r
    says (Ok s) e = absurd (zero_one cc)
    says (Err q) e = let same : q ≡ r = cc in ap Err same

module _ (tab : List ℕ) (c : Columns) (m : Memory) (answer : Result Summary Reason) (after : Memory) (p : Built tab c m answer after) where
  pub build-refused-exactly : (r : Reason) → (answer ≡ Err r) ↔ (build_fault (columns_fault Unigram tab c) (no_scored_room (nodes_of tab (rows_of c)) m) ≡ Some r)
  build-refused-exactly r =
      let one = told-refused answer r in
      let two = refused-exactly p r in
      (λ q. two.0 (one.0 q), λ e. one.1 (two.1 e))

  pub build-accepted-exactly : (told answer ≡ Ok (report_of tab (rows_of c))) ↔ (build_fault (columns_fault Unigram tab c) (no_scored_room (nodes_of tab (rows_of c)) m) ≡ None)
  build-accepted-exactly = accepted-exactly p
