-- Lists of names that grew as tokens were entered. Definitions only; assumes nothing.
use Rattle.std.specs.Prelude.{◌≡◌, List, [], ◌∷◌, ◌++◌, ℕ, ◌<◌, length, get_or, None, Some}
use Rattle.build.specs.Names.{place}

-- The root alone; or one more name, of a byte after a name that stands already.
pub data Grown : List (List ℕ) → Type 0 where
  root : Grown ([] ∷ [])
  more :
      {ns : List (List ℕ)} (p : List ℕ) (c j : ℕ) → Grown ns → place ns p ≡ Some j → c < 256 → place ns (p ++ (c ∷ [])) ≡ None
      → Grown (ns ++ ((p ++ (c ∷ [])) ∷ []))

-- every element is a byte
abbrev pub Bytes : List ℕ → Type 0
Bytes s = (i : ℕ) → i < length s → get_or s i 0 < 256
