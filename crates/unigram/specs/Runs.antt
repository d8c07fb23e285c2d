-- "Then runs of adjacent pieces whose id is the unknown id become one id: that of the whole run's bytes if they have one, else
-- the unknown id." Definitions only; assumes nothing.
use Rattle.std.specs.Prelude.{ℕ, cond, List, [], ◌∷◌, eqb, Option, None, Some, unwrap_or}
use Rattle.cutting.specs.Cuttings.{Step}

-- the id of the run from byte i up to byte j; `id_of i j` is the id of these bytes, where they have one
unfoldable pub run_id : (ℕ → ℕ → Option ℕ) → ℕ → ℕ → ℕ → ℕ
run_id id_of unknown i j = unwrap_or (id_of i j) unknown

-- The ids of the pieces `es`, the first of which starts at `at`. `some i` for the run: the pieces from i up to `at` have the
-- unknown id, and the id of their run is still to come.
unfoldable pub merged : (ℕ → ℕ → Option ℕ) → ℕ → Option ℕ → ℕ → List Step → List ℕ
merged id_of unknown None at [] = []
merged id_of unknown (Some i) at [] = run_id id_of unknown i at ∷ []
merged id_of unknown None at (e ∷ es) =
    let joins = merged id_of unknown (Some at) e.end es in
    let stands = e.id ∷ merged id_of unknown None e.end es in
    cond (eqb e.id unknown) joins stands
merged id_of unknown (Some i) at (e ∷ es) =
    let joins = merged id_of unknown (Some i) e.end es in
    let stands = run_id id_of unknown i at ∷ e.id ∷ merged id_of unknown None e.end es in
    cond (eqb e.id unknown) joins stands
