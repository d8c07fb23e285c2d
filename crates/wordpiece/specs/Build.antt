-- What `wordpiece::from_rows` promises: the promise of every build, of WordPiece rows in columns. Definitions only; assumes
-- nothing.
use Rattle.refusal.specs.declared.Reason.{Reason}
use Rattle.std.specs.Prelude.{ℕ, List, Result}
use Rattle.rows.specs.declared.Kind.TheVariants as kind
use Rattle.rows.specs.Columns.{Columns, rows_of, columns_fault}
use Rattle.build.specs.Checked.{nodes_of}
use Rattle.build.specs.Memory.{Memory, no_room}
use Rattle.build.specs.Promise.{Promised}

-- What `from_rows` promises of its answer and of the memory lent to it, before and after. "An accepted build reports a summary:
-- N"
abbrev pub Built : List ℕ → Columns → Memory → Result ℕ Reason → Memory → Type 0
Built tab c before answer after =
    let rows = rows_of c in
    let n = nodes_of tab rows in
    Promised kind.WordPiece tab rows (columns_fault kind.WordPiece tab c) (no_room n before) n before answer after
