-- `sliced::slice::judge` meets its contract: the sizes are tested first, and then each row. Assumes nothing.
use Rattle.std.proofs.Common.{rules}
use Rattle.std.specs.Prelude.{Err}
use Rattle.std.specs.Result.{result_err}
use mathlib.Core.Path.{◌≡◌, sym, ap, ◌∙◌}
use Rattle.sliced.proofs.Judging.{AtRow, judged-large, judged-fits, row-bad, row-fine, all-fine}
use Rattle.sliced.proofs.slice.judge.Goals as goal

pub returns-then-is_large : goal.returns-then-is_large
returns-then-is_large c = judged-large c.args.tab.now c.args.rows.now c.if-is_large.ensures

pub loop-i-init : goal.loop-i-init
loop-i-init c = judged-fits c.args.tab.now c.args.rows.now c.if-is_large.ensures

pub returns-in_err-map_err : goal.returns-in_err-map_err
returns-in_err-map_err c =
    let told : AtRow c.row_fault.result c.loop-i.i-counter c.map_err.result = search rules in
    let same : c.from_residual.result ≡ Err c.in_err-map_err.field-0.0 = search rules in
    ap result_err same
    ∙ sym
    (c.loop-i.invariant
    ∙ row-bad c.args.tab.now c.args.rows.now c.loop-i.i-counter _ c.loop-i-test.true c.row_fault.result c.row_fault.ensures told c.in_err-map_err.was)

pub loop-i-preserved : goal.loop-i-preserved
loop-i-preserved c =
    let told : AtRow c.row_fault.result c.loop-i.i-counter c.map_err.result = search rules in
    c.loop-i.invariant
    ∙ row-fine c.args.tab.now c.args.rows.now c.loop-i.i-counter _ c.loop-i-test.true c.row_fault.result c.row_fault.ensures told c.in_ok-map_err.was

pub returns : goal.returns
returns c = sym (c.loop-i.invariant ∙ all-fine c.args.tab.now c.args.rows.now c.loop-i.i-counter c.loop-i-test.false)
