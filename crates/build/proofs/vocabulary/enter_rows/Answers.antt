-- `build::vocabulary::enter_rows` meets its contract. The loop's invariant: the first i rows are entered. Assumes nothing.
use native.Mathlib.Omega.{arith}
use Rattle.build.specs.Rules.{tokens_of}
use Rattle.build.specs.Given.{given}
use Rattle.build.proofs.Entering.{Kept, roomy-kept}
use Rattle.build.proofs.Rowing.{bare-full, rowed-start, rowed-turn, rowed-full, rowed-end, rowed-enterable}
use Rattle.build.proofs.Rowing.{rest_all, rest-next, rest-none, row-given}
use Rattle.build.proofs.vocabulary.enter_rows.Goals as goal

pub returns-in_err-n : goal.returns-in_err-n
returns-in_err-n c =
    let a = c.args in
    rw c.from_residual.ensures
    (bare-full (tokens_of a.tab.now (given a.off.now a.len.now a.ids.now)) c.in_err-n.ensures)

pub loop-i-init : goal.loop-i-init
loop-i-init c = rowed-start c.in_ok-n.ensures (rest_all c.args.off.now c.args.len.now c.args.ids.now)

pub enter_row-requires : goal.enter_row-requires
enter_row-requires c =
    let start = c.start.auto in
    let kept : Kept c.args.edge_n.now c.args.id.now c.args.work.now c.start.new.edge_n c.start.new.id c.start.new.work =
    record { nodes = start.edge_n; ids = start.id; links = start.work } in
    (c.requires.0, omega arith, rowed-enterable c.loop-i.invariant (roomy-kept kept c.requires.1))

pub returns-in_err-n-2 : goal.returns-in_err-n-2
returns-in_err-n-2 c =
    let a = c.args in
    rw c.from_residual-in_err-n-2.ensures
    (rowed-full c.loop-i.invariant (rest-next a.off.now a.len.now a.ids.now c.loop-i.i (omega arith))
    (omega (arith, c.requires.0.few))
    (row-given a.tab.now a.off.now a.len.now a.ids.now c.loop-i.i c.in_err-n-2.ensures))

pub loop-i-preserved : goal.loop-i-preserved
loop-i-preserved c =
    let a = c.args in
    rowed-turn c.loop-i.invariant (rest-next a.off.now a.len.now a.ids.now c.loop-i.i (omega arith))
    (omega (arith, c.requires.0.few))
    (row-given a.tab.now a.off.now a.len.now a.ids.now c.loop-i.i c.in_ok-n-2.ensures)
    c.enter_row.auto.edge_n c.enter_row.auto.id c.enter_row.auto.work

pub returns : goal.returns
returns c =
    rowed-end c.loop-i.invariant
    (rest-none c.args.off.now c.args.len.now c.args.ids.now c.loop-i.i (omega (arith, c.loop-i-test.false)))
