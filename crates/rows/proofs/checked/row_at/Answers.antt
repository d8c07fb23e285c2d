-- `rows::checked::row_at` meets its contract: the places at i are inside their lists. Assumes nothing.
use mathlib.Core.Path.{ap}
use lib.ListN.{get_or}
use native.Mathlib.Omega.{arith}
use Rattle.rows.specs.Rows.{Worth, row_is}
use Rattle.rows.specs.Columns.{row_at}
use Rattle.rows.proofs.RowLists.{lists-level}
use Rattle.rows.proofs.checked.row_at.Goals as goal

pub bounds-lists-i-2 : goal.bounds-lists-i-2
bounds-lists-i-2 c = omega (arith, (lists-level _ _ _ _ _ c.requires.level).len-level, c.requires.i_in_bounds)

pub returns : goal.returns
unfolding row_is row_at
returns c =
    let l = c.args.lists.now in
    ap (λ (w : Worth). record { off = get_or l.off.now c.args.i 0; len = get_or l.len.now c.args.i 0; worth = w }) c.worth_at.ensures
