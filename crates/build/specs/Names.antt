-- The nodes of a trie. A node is a prefix of a token, and its number is that prefix's place among them all. Definitions only;
-- assumes nothing.
use Rattle.std.specs.Prelude.{ℕ, suc, Bool, true, false, ◌&&◌, cond, eqb, Option, None, Some}
use mathlib.Core.List.{List, [], ◌∷◌, ◌++◌, flat_map}

-- two strings are the same
unfoldable pub same : List ℕ → List ℕ → Bool
same [] [] = true
same [] (c ∷ t) = false
same (b ∷ s) [] = false
same (b ∷ s) (c ∷ t) = eqb b c && same s t

unfoldable pub later : Option ℕ → Option ℕ
later None = None
later (Some k) = Some (suc k)

-- where s first stands in a list of strings
unfoldable pub place : List (List ℕ) → List ℕ → Option ℕ
place [] s = None
place (t ∷ ts) s = let further = later (place ts s) in cond (same s t) (Some 0) further

-- the prefixes of p ++ s that are longer than p, the shortest first
unfoldable pub prefixes : List ℕ → List ℕ → List (List ℕ)
prefixes p [] = []
prefixes p (b ∷ s) = let q = p ++ (b ∷ []) in q ∷ prefixes q s

-- "each new prefix takes the next node number"
unfoldable pub add : List (List ℕ) → List ℕ → List (List ℕ)
add ns s = elim (place ns s) [ None ↦ ns ++ (s ∷ []) | Some k ↦ ns ]

unfoldable pub enter : List (List ℕ) → List (List ℕ) → List (List ℕ)
enter ns [] = ns
enter ns (s ∷ ss) = enter (add ns s) ss

-- "Node 0 is the root. Tokens are entered in row order": node k is the string at k. The root is the empty one, and then come
-- the non-empty prefixes of the tokens, each where it first occurs. "N is 1 plus the number of distinct non-empty prefixes of
-- tokens": the length of this list.
unfoldable pub names : List (List ℕ) → List (List ℕ)
names tokens = enter ([] ∷ []) (flat_map (prefixes []) tokens)
