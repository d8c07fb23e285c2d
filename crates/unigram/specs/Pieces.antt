-- Which pieces a text has in a Unigram trie, and its ids. Definitions only; assumes nothing.
use Rattle.std.specs.Prelude.{ℕ, ◌&&◌, cond, ltb, eqb, length, get_or, Option, None, Some, option_to_list}
use mathlib.Core.List.{List}
use Rattle.doubles.specs.Double.{Double, plus_zero, is_number}
use Rattle.refusal.specs.Refusal.{first}
use Rattle.text.specs.Text.{boundary, next, part}
use Rattle.trie.specs.Trie.{Trie, walk, id_at, id_of}
use Rattle.cutting.specs.Cuttings.{Piece, Rule, Step}
use Rattle.cutting.specs.Law.{best_pieces}
use Rattle.unigram.specs.Runs.{merged}

-- a Unigram trie's parts with its score column, and the unknown piece
pub record Model : Type 0 where
  pub trie : Trie
  pub score : List Double
  pub unknown : Piece

-- the piece that node k ends: its id and its score, if it has an id
unfoldable pub piece_at : Model → ℕ → Option Piece
piece_at m k = elim (id_at m.trie k) [ None ↦ None | Some i ↦ Some (record { id = i; score = get_or m.score k plus_zero }) ]

-- the piece that the string s is, if it has an id
unfoldable pub known : Model → List ℕ → Option Piece
known m s = elim (walk m.trie 0 s) [ None ↦ None | Some k ↦ piece_at m k ]

-- "From each character boundary, a piece is any non-empty string with an id that matches there and ends on a boundary. If none
-- is exactly one character long, that one character is also a piece, with the unknown id and score."
unfoldable pub piece_of : Model → List ℕ → ℕ → ℕ → Option Piece
piece_of m s i j =
    let unknown = cond (eqb j (next s i)) (Some m.unknown) None in
    cond (ltb i j && (boundary s i && boundary s j)) (first (known m (part s i j)) unknown) None

-- The rule of Unigram: a span has at most one piece. "A sum beyond the largest double is infinite as IEEE 754 has it and still
-- compares": every sum that is a number counts.
abbrev pub rule : Model → List ℕ → Rule
rule m s = record { pieces = λ i j. option_to_list (piece_of m s i j); counts = is_number }

-- the pieces of the best cutting of s, in order
abbrev pub pieces_of : Model → List ℕ → List Step
pieces_of m s = best_pieces (rule m s) (length s)

-- the id of the bytes from i up to j, where they have one
abbrev pub part_id : Trie → List ℕ → ℕ → ℕ → Option ℕ
part_id t s i j = id_of t (part s i j)

-- the ids of s
unfoldable pub ids_of : Model → List ℕ → List ℕ
ids_of m s = merged (part_id m.trie s) m.unknown.id None 0 (pieces_of m s)
