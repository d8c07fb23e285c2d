-- `sliced::build_rows` meets its contract: a fault of the rows is told, too little room leaves every place zero, and else the
-- rows are built from the columns, which are zero afterwards. Assumes nothing.
use Rattle.std.specs.Prelude.{Err}
use Rattle.std.proofs.Common.{rules}
use mathlib.Core.Path.{◌≡◌, ◌∙◌}
use mathlib.Core.List.{map}
use native.Mathlib.Omega.{arith}
use lib.ListN.{length}
use Rattle.doubles.specs.Units.{units}
use Rattle.rows.specs.Rows.{row_is}
use Rattle.build.specs.Memory.{memory, with_scores}
use Rattle.build.proofs.Promises.{cleared-with}
use Rattle.sliced.specs.BuildRows.{row_places}
use Rattle.sliced.specs.Copied.{first_places}
use Rattle.sliced.proofs.Copies.{all_hold, same-zeros, put-fine, bad_row, few_places, put_rows, rows-built}
use Rattle.sliced.proofs.build_rows.Goals as goal

pub returns-in_err-judge : goal.returns-in_err-judge
returns-in_err-judge c =
    let a = c.args in
    let same : c.from_residual.result ≡ Err c.in_err-judge.field-0.0 = search rules in
    rw same
    (rows-built a.tab.now a.rows.now (row_places a.off.now a.len.now a.score.now) _ (bad_row c.in_err-judge.ensures))

pub returns-then-is_short : goal.returns-then-is_short
returns-then-is_short c =
    let a = c.args in
    rows-built a.tab.now a.rows.now (row_places a.off.now a.len.now a.score.now) _
    (few_places c.in_ok-judge.ensures c.if-is_short.ensures c.refuse_short.ensures.0 c.refuse_short.ensures.1
    (cleared-with (memory a.edge_at.now a.edge_n.now a.node_id.now a.byte.now a.to.now a.work.now) (map units a.node_score.now)
    c.refuse_short.ensures.2 c.refuse_short.ensures.3))

pub put-requires : goal.put-requires
put-requires c = all_hold _ c.args.off.now c.args.len.now c.args.score.now c.if-is_short.ensures

pub build_first-answer-requires-clause-roomy : goal.build_first-answer-requires-clause-roomy
build_first-answer-requires-clause-roomy c =
    let h = all_hold (length c.args.rows.now) c.args.off.now c.args.len.now c.args.score.now c.if-is_short.ensures in
    (omega arith, omega arith, omega arith)

pub build_first-answer-requires-clause-fine : goal.build_first-answer-requires-clause-fine
build_first-answer-requires-clause-fine c = put-fine c.args.tab.now (map row_is c.args.rows.now) c.in_ok-judge.ensures c.put.ensures

pub returns : goal.returns
returns c =
    let a = c.args in
    let p = c.put.new in
    let n = c.build_first-answer.new in
    rows-built a.tab.now a.rows.now (row_places a.off.now a.len.now a.score.now)
    (with_scores (memory a.edge_at.now a.edge_n.now a.node_id.now a.byte.now a.to.now a.work.now) (map units a.node_score.now))
    {after = with_scores (memory n.edge_at n.edge_n n.node_id n.byte n.to n.work) (map units n.node_score)}
    (put_rows (first_places (length a.rows.now) p.off p.len p.score) c.in_ok-judge.ensures c.if-is_short.ensures
    c.put.ensures c.build_first-answer.ensures
    (c.clear_rows.ensures
    ∙ same-zeros a.off.now a.len.now p.off p.len a.score.now p.score c.put.auto.off c.put.auto.len c.put.auto.score))
