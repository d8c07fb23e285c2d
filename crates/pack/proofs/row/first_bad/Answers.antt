-- `pack::row::first_bad` meets its contract. The loop's invariant: what is first bad of all rows is what is first bad from row
-- i on. The measure is what is left of the rows. Assumes nothing.
use Rattle.std.specs.Result.{result_err}
use mathlib.Core.Path.{sym, ap, ◌∙◌}
use native.Mathlib.Omega.{arith}
use Rattle.pack.proofs.Resting.{bad-turn, bad-found, bad-stop}
use Rattle.pack.proofs.row.first_bad.Goals as goal

pub returns-in-Err : goal.returns-in-Err
returns-in-Err c =
    let a = c.args in
    let judged = c.row_fault.ensures ∙ c.row_at-row.ensures.faults a.strings.now in
    sym
    (c.loop-i.invariant
    ∙ bad-found a.kind a.bytes.now a.rows a.strings.now c.loop-i.i _ (omega arith) (sym judged ∙ ap result_err c.in-Err.is))

pub loop-i-preserved : goal.loop-i-preserved
loop-i-preserved c =
    let a = c.args in
    let judged = c.row_fault.ensures ∙ c.row_at-row.ensures.faults a.strings.now in
    c.loop-i.invariant
    ∙ bad-turn a.kind a.bytes.now a.rows a.strings.now c.loop-i.i (omega arith) (sym judged ∙ ap result_err c.in_default.is)

pub returns : goal.returns
returns c = sym (c.loop-i.invariant ∙ bad-stop c.args.kind c.args.bytes.now c.args.rows c.args.strings.now _ (omega arith))
