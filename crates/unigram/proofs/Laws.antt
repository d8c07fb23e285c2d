-- What a run's id is: the rule of the paper on unknown pieces, by computing its definition. Assumes nothing.
use Rattle.std.specs.Prelude.{Option, None, Some, unwrap_or}
use mathlib.Core.Path.{◌≡◌, ap}
use Prim.Native.Nat.{ℕ}
use Rattle.unigram.specs.Runs.{run_id}

-- a run has the id of its bytes where they have one
pub run-known : (id_of : ℕ → ℕ → Option ℕ) (unknown i j x : ℕ) → id_of i j ≡ Some x → run_id id_of unknown i j ≡ x
unfolding run_id
run-known id_of unknown i j x e = ap (λ (o : Option ℕ). unwrap_or o unknown) e

-- else the unknown id
pub run-unknown : (id_of : ℕ → ℕ → Option ℕ) (unknown i j : ℕ) → id_of i j ≡ None → run_id id_of unknown i j ≡ unknown
unfolding run_id
run-unknown id_of unknown i j e = ap (λ (o : Option ℕ). unwrap_or o unknown) e
