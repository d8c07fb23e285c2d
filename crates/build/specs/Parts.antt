-- The parts of the trie with given nodes: "Edges stand node after node, by rising byte." Definitions only; assumes nothing.
use Rattle.std.specs.Prelude.{ℕ, zero, suc, ◌+◌, length, Option, None, Some, unwrap_or}
use mathlib.Core.List.{List, [], ◌∷◌, ◌++◌, map, flatten}
use Rattle.refusal.specs.Sizes.{no_id}
use Rattle.trie.specs.Trie.{Trie}
use Rattle.build.specs.Names.{place, names}

pub record Edge : Type 0 where
  pub byte : ℕ
  pub to : ℕ

-- the edge by the byte b, where there is one
unfoldable pub edge : ℕ → Option ℕ → List Edge
edge b None = []
edge b (Some k) = record { byte = b; to = k } ∷ []

-- the edges of the node s by the n bytes from b on
unfoldable pub edges_from : List (List ℕ) → List ℕ → ℕ → ℕ → List Edge
edges_from ns s b zero = []
edges_from ns s b (suc n) = edge b (place ns (s ++ (b ∷ []))) ++ edges_from ns s (suc b) n

unfoldable pub edges_of : List (List ℕ) → List ℕ → List Edge
edges_of ns s = edges_from ns s 0 256

-- where each of some parts begins that stand one after another, by their lengths
unfoldable pub starts : ℕ → List ℕ → List ℕ
starts at [] = []
starts at (n ∷ ns) = at ∷ starts (at + n) ns

-- The nodes ns, each with the id that `rule` gives its string: "a node that ends no token has id 4,294,967,295".
unfoldable pub lay : (List ℕ → Option ℕ) → List (List ℕ) → Trie
lay rule ns =
    let parts = map (edges_of ns) ns in
    let edges = flatten parts in
    record {
      edge_at = starts 0 (map length parts);
      edge_n = map length parts;
      id = map (λ s. unwrap_or (rule s) no_id) ns;
      byte = map (λ e. e.byte) edges;
      to = map (λ e. e.to) edges;
    }

-- the trie of the tokens
unfoldable pub trie_of : (List ℕ → Option ℕ) → List (List ℕ) → Trie
trie_of rule tokens = lay rule (names tokens)
