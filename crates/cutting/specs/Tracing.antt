-- The records followed back in the lent columns: the pieces, and where they end. Definitions only; assumes nothing.
use Rattle.std.specs.Prelude.{◌≡◌, ℕ, zero, suc, ◌≤◌, ◌<◌, Bool, true, List, [], ◌∷◌, ◌++◌, map, length, get_or}
use Rattle.refusal.specs.Sizes.{no_id, max_text}
use Rattle.cutting.specs.Cuttings.{Step}
use Rattle.cutting.specs.Slots.{Slots, slot_at}

-- The pieces before j: those before the start that stands at j, then the piece that ends at j, with the id that stands there.
-- The second argument bounds how many; j is enough.
unfoldable pub followed_in : Slots → ℕ → ℕ → List Step
followed_in c zero j = []
followed_in c (suc n) zero = []
followed_in c (suc n) (suc j) =
    let r = slot_at c (suc j) in
    followed_in c n r.start ++ (record { end = suc j; id = r.id } ∷ [])

-- The ends of the pieces before j, in order. The second argument bounds how many; j is enough.
unfoldable pub ends_from : List ℕ → ℕ → ℕ → List ℕ
ends_from starts zero j = []
ends_from starts (suc n) zero = []
ends_from starts (suc n) (suc j) = ends_from starts n (get_or starts (suc j) no_id) ++ (suc j ∷ [])

-- the pieces that end at these places, with the ids of the slots there
abbrev pub steps_at : List ℕ → List ℕ → List Step
steps_at ids path = map (λ e. record { end = e; id = get_or ids e no_id }) path

-- the ends rise from `at` and are at most n
pub data Ends (n : ℕ) : ℕ → List ℕ → Type 0 where
  no_more : {at : ℕ} → Ends n at []
  and_then : {at e : ℕ} {es : List ℕ} → at < e → e ≤ n → Ends n e es → Ends n at (e ∷ es)

-- From n the starts fall until they come to 0: some positions are marked, n is one of them, and from each above 0 the start is
-- a marked one below.
pub record Falling (starts : List ℕ) (n : ℕ) : Type 0 where
  pub marks : ℕ → Bool
  pub inside : n < length starts
  pub size : n ≤ max_text
  pub marked : marks n ≡ true
  pub falls : (j : ℕ) → 0 < j → j ≤ n → marks j ≡ true → get_or starts j no_id < j
  pub stays : (j : ℕ) → 0 < j → j ≤ n → marks j ≡ true → marks (get_or starts j no_id) ≡ true
