-- "Tries (000, 001)": the parts in their columns, and walks in any parts, sound or not. A string is a list of bytes.
-- Definitions only; assumes nothing.
use Rattle.std.specs.Prelude.{ℕ, zero, suc, cond, List, [], ◌∷◌, eqb, get_or, Option, None, Some}
use Rattle.refusal.specs.Sizes.{no_id}
use Rattle.trie.specs.declared.Parts.{Parts}

-- "Each node has its first edge number, edge count, id": a place of the first three columns for each node, of the last two for
-- each edge. The score column of a Unigram trie stands beside these.
pub record Trie : Type 0 where
  pub edge_at : List ℕ
  pub edge_n : List ℕ
  pub id : List ℕ
  pub byte : List ℕ
  pub to : List ℕ

-- the parts that lent columns hold, in the columns' order
abbrev pub parts_of : List ℕ → List ℕ → List ℕ → List ℕ → List ℕ → Trie
parts_of edge_at edge_n id byte to = record { edge_at = edge_at; edge_n = edge_n; id = id; byte = byte; to = to }

-- the same as a contract names them
abbrev pub parts : Parts → Trie
parts t = parts_of t.edge_at.now t.edge_n.now t.id.now t.byte.now t.to.now

-- the target of the byte b among the n edges from `at` on
unfoldable pub seek : List ℕ → List ℕ → ℕ → ℕ → ℕ → Option ℕ
seek bytes tos b at zero = None
seek bytes tos b at (suc n) =
    let later = seek bytes tos b (suc at) n in
    cond (eqb (get_or bytes at 0) b) (Some (get_or tos at 0)) later

-- where the byte b leads from node k
unfoldable pub step : Trie → ℕ → ℕ → Option ℕ
step t k b = seek t.byte t.to b (get_or t.edge_at k 0) (get_or t.edge_n k 0)

-- where the walk over s from node k ends, if every step is there
unfoldable pub walk : Trie → ℕ → List ℕ → Option ℕ
walk t k [] = Some k
walk t k (b ∷ s) = elim (step t k b) [ None ↦ None | Some j ↦ walk t j s ]

-- the id of node k: "a node that ends no token has id 4,294,967,295"
unfoldable pub id_at : Trie → ℕ → Option ℕ
id_at t k = let i = get_or t.id k no_id in cond (eqb i no_id) None (Some i)

-- the id that the walk over s from node k ends with
unfoldable pub id_from : Trie → ℕ → List ℕ → Option ℕ
id_from t k s = elim (walk t k s) [ None ↦ None | Some j ↦ id_at t j ]

-- "A string has the id of the node its walk from the root ends in, if it has one." "Node 0 is the root."
unfoldable pub id_of : Trie → List ℕ → Option ℕ
id_of t s = id_from t 0 s
