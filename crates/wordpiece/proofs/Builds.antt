-- What `from_rows` promises: the room decides, and what the core says of its rows is said of the columns' rows. No score column
-- is lent. Assumes nothing.
use Rattle.std.specs.Prelude.{None, Option, Ok, Err, Some, ℕ}
use mathlib.Core.Path.{◌≡◌, refl, sym, ap, ◌∙◌}
use mathlib.Core.Bool.{Bool}
use mathlib.Core.List.{List, []}
use Prim.Native.Nat.{ℕ}
use native.Mathlib.Omega.{arith}
use lib.Dec.{ltb}
use lib.Ieee.{Float}
use Rattle.refusal.specs.declared.Fault.TheVariants as fault
use Rattle.refusal.specs.declared.Reason.TheVariants as reason
use Rattle.rows.specs.declared.Kind.TheVariants.{WordPiece}
use Rattle.rows.specs.Rows.{Row}
use Rattle.rows.specs.Columns.{Columns, rows_of, columns_fault}
use Rattle.rows.specs.Answers.{columns}
use Rattle.build.specs.Given.{given}
use Rattle.build.specs.Memory.{Memory, with_scores, no_room}
use Rattle.build.specs.Checked.{room_of, nodes_of, BuiltOf}
use Rattle.build.specs.Promise.{scores_in}
use Rattle.build.proofs.Rooms.{no_room_by, nodes-some}
use Rattle.build.proofs.Outcomes.{core-fits}
use Rattle.build.proofs.Judging.{nodes-small, columns-built}
use Rattle.build.proofs.Promises.{core-short, core-held}
use Rattle.wordpiece.specs.Build.{Built}

module _ (tab off len : List ℕ) (ids : List ℕ) (m after : Memory) {room : ℕ} {answer : (Option ℕ)}
    (r : room ≡ room_of m) (d : BuiltOf WordPiece tab (given off len ids) room m after answer)
    (scored : List Bool) (scores : List Float) (fine : columns_fault WordPiece tab (columns off len scored scores ids) ≡ None)
  where
    abbrev c : Columns
    c = columns off len scored scores ids

    abbrev rows : List Row
    rows = rows_of c

    -- the room decides
    decides : no_room (nodes_of tab rows) (with_scores m []) ≡ ltb room (nodes_of tab rows)
    decides =
        no_room_by (with_scores m []) (nodes_of tab rows) (nodes-some tab rows)
        (omega (arith, nodes-small WordPiece tab c fine))
        ∙ ap (λ (k : ℕ). ltb k (nodes_of tab rows)) (sym r)

    pub lists-full : answer ≡ None → Built tab c (with_scores m []) (Err (reason.Call fault.Room)) (with_scores after [])
    lists-full e =
        core-short WordPiece tab rows (nodes_of tab rows) m after [] []
        (columns-built WordPiece tab c fine d) fine decides e refl

    pub lists-built : {n : ℕ} → answer ≡ Some n → Built tab c (with_scores m []) (Ok n) (with_scores after [])
    unfolding scores_in
    lists-built e =
        let same = columns-built WordPiece tab c fine d in
        core-held WordPiece tab rows (nodes_of tab rows) m after [] [] same fine decides e (ap Ok (core-fits same e).1) refl
