-- For a reader: a piece is found exactly when the look-up has an id for it, the prefix before it after the first, and it is not
-- empty and ends on a boundary. Over a row list (`ids-of-rows` in BuiltTries) some row then has that token and that id. Assumes
-- nothing.
use Rattle.std.specs.Prelude.{Option, Some}
use mathlib.Core.Path.{◌≡◌, ◌∙◌}
use mathlib.Core.Bool.{true}
use mathlib.Core.Logic.{◌↔◌}
use mathlib.Core.List.{List, ◌∷◌, ◌++◌}
use Prim.Native.Nat.{ℕ, ◌<◌}
use borrow.Author.Tests.{lt-ltb}
use lib.ListN.{length, get_or}
use Rattle.text.specs.Text.{boundary, part}
use Rattle.rows.specs.Rows.{Row, token_of}
use Rattle.build.specs.Rules.{id_of_worth, last_id}
use Rattle.build.proofs.Lookups.{no_row, last_row}
use Rattle.wordpiece.specs.Pieces.{piece_to}
use Rattle.wordpiece.proofs.Longest.{piece-to, piece_is, piece-says}

-- the first piece where p is nothing, a later one where p is the prefix
pub piece-exactly :
    (find : List ℕ → Option ℕ) (p w : List ℕ) (i j x : ℕ)
    → (piece_to find p w i j ≡ Some (piece-to j x))
    ↔ ((i < j) × (boundary w j ≡ true) × (find (p ++ part w i j) ≡ Some x))
piece-exactly find p w i j x =
    (λ e. let s = piece-says find p w i j e in (s.0, s.1, s.3), λ h. piece_is find p w i j ∙ rw (lt-ltb i j h.0, h.1, h.2))

-- an id of a string that is not empty is that of some row with that token
pub row_of :
    (tab : List ℕ) (rows : List Row) (b : ℕ) (s : List ℕ) (x : ℕ) → last_id tab rows (b ∷ s) ≡ Some x
    → (k : ℕ) × (k < length rows) × (token_of tab (get_or rows k no_row) ≡ b ∷ s)
    × (id_of_worth (get_or rows k no_row).worth ≡ x)
unfolding last_id
row_of tab rows b s x e = last_row tab rows (b ∷ s) x e
