-- `pack::enter::enter_row` meets its contract: what is read is the row, since it is fine, and its token is entered. Assumes
-- nothing.
use mathlib.Core.Path.{◌≡◌, refl, ap}
use Prim.Native.Nat.{◌+◌, ◌≤◌}
use native.Mathlib.Omega.{arith}
use lib.ListN.{length}
use Rattle.text.proofs.Spans.{bytes-given}
use Rattle.rows.specs.Rows.{Row, row_is}
use Rattle.rows.proofs.RowFaults.{fine-inside}
use Rattle.build.proofs.Marking.{row-valued}
use Rattle.pack.specs.Pack.{row_at}
use Rattle.pack.specs.Reading.{row_start}
use Rattle.pack.proofs.Entered.{entered-row}
use Rattle.pack.proofs.enter.enter_row.Goals as goal

pub span-token-requires : goal.span-token-requires
unfolding row_is
span-token-requires c =
    let row_same : (row_is c.row_at-row.result ≡ row_at c.args.kind c.args.bytes.now (row_start c.args.i)) = c.row_at-row.ensures.very c.args.strings.now c.requires.fine in
    let inside : c.row_at-row.result.off + c.row_at-row.result.len ≤ length c.args.strings.now = let row = row_at c.args.kind c.args.bytes.now (row_start c.args.i) in let in_table = fine-inside c.args.kind c.args.strings.now row c.requires.fine in omega (arith, in_table, ap (λ (r : Row). r.off) (row_same), ap (λ (r : Row). r.len) (row_same)) in
    inside

pub returns : goal.returns
unfolding row_is
returns c =
    let row_same : (row_is c.row_at-row.result ≡ row_at c.args.kind c.args.bytes.now (row_start c.args.i)) = c.row_at-row.ensures.very c.args.strings.now c.requires.fine in
    entered-row c.args.kind c.args.bytes.now c.args.strings.now (row_start c.args.i) c.args.i (row_is c.row_at-row.result)
    (row_same) c.value-v.ensures (row-valued (bytes-given c.span-token.ensures) refl c.enter_token.ensures)
