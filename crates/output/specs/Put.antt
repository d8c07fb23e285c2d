-- Text put into a lent buffer, one piece after another. Definitions only; assumes nothing.
use Rattle.std.specs.Prelude.{◌≡◌, List, ◌++◌, ℕ, ◌+◌, length, take, drop}

-- The text s stands at `at` and ends before `next`; all that stands before it and past it is unchanged.
pub record Put (before : List ℕ) (at : ℕ) (s : List ℕ) (next : ℕ) (after : List ℕ) : Type 0 where
  pub ends : next ≡ at + length s
  pub left : after ≡ take at before ++ s ++ drop next before
