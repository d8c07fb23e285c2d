-- Which id, and for Unigram which score, the node of a string has. Definitions only; assumes nothing.
use Rattle.std.specs.Prelude.{ℕ, cond, List, [], ◌∷◌, map, get_or, Option, None, Some}
use Rattle.doubles.specs.Double.{Double, plus_zero}
use Rattle.trie.specs.Trie.{Trie}
use Rattle.rows.specs.Rows.{Row, Worth, score, id, token_of}
use Rattle.build.specs.Names.{same, place, names}
use Rattle.build.specs.Parts.{trie_of}

-- ---- Unigram

-- "id = row index. A repeated token keeps its first id and score. An empty token takes an index, but it has no node."
unfoldable pub first_row : List (List ℕ) → List ℕ → Option ℕ
first_row tokens [] = None
first_row tokens (b ∷ s) = place tokens (b ∷ s)

-- the score of a row; a row with an id for its worth is refused before its score is asked for
unfoldable pub score_of : Worth → Double
score_of (score x) = x
score_of (id i) = plus_zero

unfoldable pub scores_of : List Row → List Double
scores_of rows = map (λ r. score_of r.worth) rows

-- the score of a node whose row is given: "a node that ends no token has score 0"
unfoldable pub node_score_of : List Double → Option ℕ → Double
node_score_of scores None = plus_zero
node_score_of scores (Some i) = get_or scores i plus_zero

unfoldable pub tokens_of : List ℕ → List Row → List (List ℕ)
tokens_of tab rows = map (token_of tab) rows

unfoldable pub unigram_trie : List ℕ → List Row → Trie
unigram_trie tab rows = let tokens = tokens_of tab rows in trie_of (first_row tokens) tokens

unfoldable pub unigram_scores : List ℕ → List Row → List Double
unigram_scores tab rows =
    let tokens = tokens_of tab rows in
    map (λ s. node_score_of (scores_of rows) (first_row tokens s)) (names tokens)

-- ---- WordPiece

-- the id of a row; a row with a score for its worth is refused before its id is asked for
unfoldable pub id_of_worth : Worth → ℕ
id_of_worth (score x) = 0
id_of_worth (id i) = i

-- the id of the last row with the token s
unfoldable pub last_of : List ℕ → List Row → List ℕ → Option ℕ
last_of tab [] s = None
last_of tab (r ∷ rs) s =
    elim (last_of tab rs s) [
      | Some i ↦ Some i
      | None ↦ cond (same s (token_of tab r)) (Some (id_of_worth r.worth)) None
    ]

-- "the row gives the id. A repeated token keeps its last id. Empty tokens do nothing."
unfoldable pub last_id : List ℕ → List Row → List ℕ → Option ℕ
last_id tab rows [] = None
last_id tab rows (b ∷ s) = last_of tab rows (b ∷ s)

unfoldable pub wordpiece_trie : List ℕ → List Row → Trie
wordpiece_trie tab rows = trie_of (last_id tab rows) (tokens_of tab rows)
