-- What the functions behind `encode` promise one another; no public call speaks of it. Definitions only; assumes nothing.
use Rattle.wordpiece.specs.declared.checked.Piece.{Piece}
use Rattle.std.specs.Prelude.{◌≡◌, ℕ, suc, ◌-◌, ◌≤◌, ◌<◌, true, List, [], length, take, Option, None, Some, option_map}
use Rattle.std.proofs.lemmas.List.Edits.{sets}
use Rattle.text.specs.Text.{well_formed, characters}
use Rattle.trie.specs.Trie.{Trie}
use Rattle.trie.specs.Sound.{sound}
use Rattle.wordpiece.specs.Pieces.{Found, pieces_from}

-- the piece that an answer names
abbrev pub found_in : Option Piece → Option Found
found_in (Some p) = Some (record { end = p.end; id = p.id })
found_in None = None

-- the ids of the pieces of w from i on, with nothing before any of them; none at a miss. From node k on, the look-up is
-- `id_from t k`.
abbrev pub rest_from : (List ℕ → Option ℕ) → List ℕ → ℕ → Option (List ℕ)
rest_from find w i = pieces_from find [] w (suc (length w - i)) [] i

-- the node is one of sound parts
pub record NodeOf (t : Trie) (node : ℕ) : Type 0 where
  pub parts : sound t ≡ true
  pub inside : node < length t.edge_at

-- What a walk over the rest leaves: the count of its ids, none at a miss; and where there is none, these in the places that
-- were lent, as many as there are places.
pub record Walked (rest : Option (List ℕ)) (before : List ℕ) (count : Option ℕ) (after : List ℕ) : Type 0 where
  pub answered : count ≡ option_map length rest
  pub held : (xs : List ℕ) → rest ≡ Some xs → after ≡ sets before 0 xs

-- There are n pieces from i on, and places for their ids from the second on. They are held, where there are places for n.
pub record Kept (find : List ℕ → Option ℕ) (w : List ℕ) (i : ℕ) (places kept : List ℕ) (n : ℕ) : Type 0 where
  pub below : i ≤ length w
  pub ids : List ℕ
  pub rest : rest_from find w i ≡ Some ids
  pub many : n ≡ length ids
  pub room : n < length places
  pub held : n ≤ length kept → take n kept ≡ ids

-- Sound parts, a tested word, and room for an id a character.
pub record Encodable (t : Trie) (w ids : List ℕ) : Type 0 where
  pub parts : sound t ≡ true
  pub well : well_formed w ≡ true
  pub room : characters w ≤ length ids
