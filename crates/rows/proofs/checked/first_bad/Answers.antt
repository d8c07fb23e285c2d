-- `rows::checked::first_bad` meets its contract. The loop's invariant: what is first bad of all rows is what is first bad from
-- row i on. Assumes nothing.
use mathlib.Core.Path.{sym, ap, ◌∙◌}
use native.Mathlib.Omega.{arith}
use native.Mathlib.Numerals.{add-one}
use Rattle.std.specs.Result.{result_err}
use Rattle.rows.specs.Rows.{row_fault}
use Rattle.rows.specs.Answers.{columns_in}
use Rattle.rows.proofs.FirstBad.{bad_from, bad-start, bad-turn, bad-found, bad-stop}
use Rattle.rows.proofs.checked.first_bad.Goals as goal

pub loop-i-init : goal.loop-i-init
loop-i-init c = bad-start c.args.kind c.args.tab.now (columns_in c.args.lists.now)

pub returns-in-Err : goal.returns-in-Err
returns-in-Err c =
    let a = c.args in
    let turn = c.row_fault.ensures ∙ ap (row_fault a.kind a.tab.now) c.row_at-row.ensures in
    sym
    (c.loop-i.invariant
    ∙ bad-found a.kind a.tab.now (columns_in a.lists.now) c.loop-i.i _ (omega arith) (sym turn ∙ ap result_err c.in-Err.is))

pub loop-i-preserved : goal.loop-i-preserved
loop-i-preserved c =
    let a = c.args in
    let turn = c.row_fault.ensures ∙ ap (row_fault a.kind a.tab.now) c.row_at-row.ensures in
    c.loop-i.invariant
    ∙ bad-turn a.kind a.tab.now (columns_in a.lists.now) c.loop-i.i (omega arith) (sym turn ∙ ap result_err c.in_default.is)
    ∙ ap (bad_from a.kind a.tab.now (columns_in a.lists.now)) (sym (add-one c.loop-i.i))

pub returns : goal.returns
returns c = sym (c.loop-i.invariant ∙ bad-stop c.args.kind c.args.tab.now (columns_in c.args.lists.now) _ (omega arith))
