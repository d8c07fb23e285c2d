-- A row as it is entered: what is read of it is the row, and its id is what its kind gives. Assumes nothing.
use Rattle.std.specs.Prelude.{Option}
use mathlib.Core.Path.{◌≡◌, refl}
use mathlib.Core.List.{List}
use Prim.Native.Nat.{ℕ}
use Rattle.rows.specs.declared.Kind.{Kind}
use Rattle.rows.specs.declared.Kind.TheVariants.{Unigram, WordPiece}
use Rattle.rows.specs.Rows.{Row, token_of}
use Rattle.build.specs.Rules.{id_of_worth}
use Rattle.build.specs.Given.{value_of}
use Rattle.build.specs.Held.{RowEntered}
use Rattle.pack.specs.Pack.{worth_at, row_at}
use Rattle.pack.specs.Reading.{value_in}

-- the id of a row, by its worth
pub value-is : (kind : Kind) (bytes : List ℕ) (at i : ℕ) → value_in i (row_at kind bytes at).worth ≡ value_of kind i (id_of_worth (row_at kind bytes at).worth)
unfolding row_at worth_at id_of_worth
value-is Unigram bytes at i = refl
value-is WordPiece bytes at i = refl

-- what is entered for the row r is entered for the row that it is
pub entered-row :
    {edge_n id work edge_n' id' work' : List ℕ} {room n v : ℕ} {answer : Option ℕ} (kind : Kind) (bytes tab : List ℕ) (at i : ℕ) (r : Row)
    → r ≡ row_at kind bytes at → v ≡ value_in i r.worth → RowEntered edge_n id work edge_n' id' work' kind room n (token_of tab r) v answer
    → RowEntered edge_n id work edge_n' id' work' kind room n (token_of tab (row_at kind bytes at)) (value_of kind i (id_of_worth (row_at kind bytes at).worth)) answer
entered-row kind bytes tab at i r e v w = rw (← value-is kind bytes at i, ← e, ← v) w
