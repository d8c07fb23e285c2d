-- A turn of merging, whether or not a run is still to come; and merging makes no more ids than there are pieces, since such a
-- run was at least one piece. Assumes nothing.
use Rattle.std.specs.Prelude.{Option, None, Some}
use mathlib.Core.Path.{◌≡◌, refl, ap}
use mathlib.Core.Bool.{Bool, true, false, cond}
use mathlib.Core.List.{List, [], ◌∷◌, ◌++◌}
use Prim.Native.Nat.{ℕ, ◌+◌, ◌≤◌}
use native.Mathlib.Omega.{arith}
use lib.Dec.{eqb}
use lib.ListN.{length, length-append}
use Rattle.cutting.specs.Cuttings.{Step}
use Rattle.unigram.specs.Runs.{run_id, merged}

module _ (id_of : ℕ → ℕ → Option ℕ) (unknown : ℕ) where
  -- ---- the turns

  -- where the run begins that a piece from `at` joins: that of the run still to come, or the piece itself
  abbrev pub begun : Option ℕ → ℕ → ℕ
  begun None at = at
  begun (Some i) at = i

  -- the run that is still to come has one id
  abbrev pub owed : Option ℕ → ℕ → List ℕ
  owed None at = []
  owed (Some i) at = run_id id_of unknown i at ∷ []

  pub merged-end : (run : Option ℕ) (at : ℕ) → merged id_of unknown run at [] ≡ owed run at
  unfolding merged
  merged-end None at = refl
  merged-end (Some i) at = refl

  -- a piece with the unknown id begins a run or joins it; any other stands, after the run before it
  pub merged-more :
      (run : Option ℕ) (at : ℕ) (e : Step) (es : List Step) {t : Bool} → eqb e.id unknown ≡ t
      → merged id_of unknown run at (e ∷ es)
      ≡ cond t (merged id_of unknown (Some (begun run at)) e.end es)
      (owed run at ++ (e.id ∷ merged id_of unknown None e.end es))
  unfolding merged
  merged-more None at e es h =
      ap (λ (t : Bool). cond t (merged id_of unknown (Some at) e.end es) (e.id ∷ merged id_of unknown None e.end es)) h
  merged-more (Some i) at e es h =
      ap (λ (t : Bool).
      cond t (merged id_of unknown (Some i) e.end es)
      (run_id id_of unknown i at ∷ e.id ∷ merged id_of unknown None e.end es))
      h

  -- ---- how many

  few-from :
      (run : Option ℕ) (at : ℕ) (es : List Step) → length (merged id_of unknown run at es) ≤ length (owed run at) + length es
  few-from run at [] = omega (arith, ap length (merged-end run at))
  few-from run at (e ∷ es) =
      by-test (eqb e.id unknown) refl (few-from (Some (begun run at)) e.end es) (few-from None e.end es)
    where
      by-test :
          (t : Bool) → eqb e.id unknown ≡ t
          → length (merged id_of unknown (Some (begun run at)) e.end es) ≤ 1 + length es
          → length (merged id_of unknown None e.end es) ≤ 0 + length es
          → length (merged id_of unknown run at (e ∷ es)) ≤ length (owed run at) + length (e ∷ es)
      by-test true h p q = omega (arith, ap length (merged-more run at e es h))
      by-test false h p q =
          let rest = e.id ∷ merged id_of unknown None e.end es in
          omega (arith, ap length (merged-more run at e es h), length-append (owed run at) rest)

  pub merged-few : (at : ℕ) (es : List Step) → length (merged id_of unknown None at es) ≤ length es
  merged-few at es = omega (arith, few-from None at es)
