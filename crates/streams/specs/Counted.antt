-- What a count of stored cases says. Definitions only; assumes nothing.
use Rattle.std.specs.Prelude.{◌≡◌, ℕ, ◌+◌, ◌≤◌, ◌<◌, Bool, not, List, Option, None, Some, count_by}
use Rattle.std.specs.List.{FoldsTo}

-- The calls of `next`, one after the other, answered these: so many true, so many false, and no more than the limit. Where they
-- are fewer, one more call answered nothing.
pub record Counted {F : Type 0} (step : F → Option Bool → F → Type 0) (limit : ℕ) (next : F) (agree differ : ℕ) : Type 0 where
  pub answers : List Bool
  pub last : F
  pub calls : FoldsTo (λ f a g. step f (Some a) g) next answers last
  pub agreed : agree ≡ count_by (λ a. a) answers
  pub differed : differ ≡ count_by not answers
  pub few : agree + differ ≤ limit
  pub ended : agree + differ < limit → (after : F) × step last None after
