-- What merging reads and writes: the path, the slots' ids, the lent id places. Definitions only; assumes nothing.
use Rattle.std.specs.Prelude.{◌≡◌, ℕ, ◌+◌, ◌≤◌, ◌<◌, true, cond, List, [], ◌∷◌, ◌++◌, ltb, eqb, length, take, drop, Option}
use Rattle.trie.specs.Trie.{Trie}
use Rattle.trie.specs.Sound.{sound}
use Rattle.cutting.specs.Tracing.{Ends}
use Rattle.unigram.specs.Runs.{run_id}

-- the ids of the run from `run` up to `at`: none where the two are one
unfoldable pub run_ids : (ℕ → ℕ → Option ℕ) → ℕ → ℕ → ℕ → List ℕ
run_ids id_of unknown run at = cond (ltb run at) (run_id id_of unknown run at ∷ []) []

-- what is written when a piece with the id x comes at `at`: nothing where it is the unknown id, else the run's id and x
unfoldable pub closing : (ℕ → ℕ → Option ℕ) → ℕ → ℕ → ℕ → ℕ → List ℕ
closing id_of unknown run at x = cond (eqb x unknown) [] (run_ids id_of unknown run at ++ (x ∷ []))

-- the ids ws stand from place n on, the others as they were, and r is the place after them
pub record Placed (ws before : List ℕ) (n : ℕ) (after : List ℕ) (r : ℕ) : Type 0 where
  pub ids : after ≡ take n before ++ (ws ++ drop (n + length ws) before)
  pub next : r ≡ n + length ws

-- the run may be looked up: in sound parts, within the text
pub record Run (t : Trie) (s : List ℕ) (run at : ℕ) : Type 0 where
  pub sound : sound t ≡ true
  pub forward : run ≤ at
  pub inside : at ≤ length s

-- the path may be merged: it rises within the text, each of its places has a slot, and there is an id place for each
pub record Mergeable (t : Trie) (s slot_ids path ids : List ℕ) : Type 0 where
  pub sound : sound t ≡ true
  pub ends : Ends (length s) 0 path
  pub slots : length s < length slot_ids
  pub room : length path ≤ length ids
