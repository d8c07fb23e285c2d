-- "WordPiece (001)": the ids of a word, over a look-up that gives the id of a string. Definitions only; assumes nothing.
use Rattle.std.specs.Prelude.{ℕ, zero, suc, ◌&&◌, cond, List, [], ◌∷◌, ◌++◌, ltb, eqb, length}
use Rattle.std.specs.Prelude.{Option, None, Some, option_map, option_and_then, unwrap_or}
use Rattle.refusal.specs.Refusal.{first}
use Rattle.text.specs.Text.{boundary, characters, part}

-- a piece that was found: where it ends, and its id
pub record Found : Type 0 where
  pub end : ℕ
  pub id : ℕ

-- "A piece is found exactly when some token spells a non-empty piece ending on a boundary": the piece of w from i up to j,
-- where p stands before it.
unfoldable pub piece_to : (List ℕ → Option ℕ) → List ℕ → List ℕ → ℕ → ℕ → Option Found
piece_to find p w i j =
    let found : Option Found = option_map (λ x. record { end = j; id = x }) (find (p ++ part w i j)) in
    cond (ltb i j && boundary w j) found None

-- the longest piece of w from i that ends at j or before, where p stands before it
unfoldable pub longest_to : (List ℕ → Option ℕ) → List ℕ → List ℕ → ℕ → ℕ → Option Found
longest_to find p w i zero = None
longest_to find p w i (suc j) = first (piece_to find p w i (suc j)) (longest_to find p w i j)

-- "take the longest token at the start, then repeatedly the longest token that is prefix + rest": the ids from i on, none at a
-- miss. Before the first piece stands `at`, before later ones the prefix. The number bounds how many pieces; more than the
-- length is enough.
unfoldable pub pieces_from : (List ℕ → Option ℕ) → List ℕ → List ℕ → ℕ → List ℕ → ℕ → Option (List ℕ)
pieces_from find prefix w zero at i = None
pieces_from find prefix w (suc n) at i =
    let ids : Found → Option (List ℕ) = λ f. option_map (λ later. f.id ∷ later) (pieces_from find prefix w n prefix f.end) in
    cond (eqb i (length w)) (Some []) (option_and_then ids (longest_to find at w i (length w)))

-- Nothing stands before the first piece. "An empty prefix continues from the root": later pieces are then found as the first.
unfoldable pub pieces_of : (List ℕ → Option ℕ) → List ℕ → List ℕ → Option (List ℕ)
pieces_of find prefix w = pieces_from find prefix w (suc (length w)) [] 0

-- "Any miss makes the whole word one unknown id." "More than `max_chars` characters: one unknown id." An empty word has no
-- pieces, with an absent prefix too: "We give none."
unfoldable pub ids_of : (List ℕ → Option ℕ) → ℕ → ℕ → List ℕ → List ℕ → List ℕ
ids_of find unknown max_chars prefix w =
    let ids = unwrap_or (pieces_of find prefix w) (unknown ∷ []) in
    cond (ltb max_chars (characters w)) (unknown ∷ []) ids
