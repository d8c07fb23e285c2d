-- `sliced::slice::put` meets its contract: each turn puts a row behind those before it. Assumes nothing.
use native.Mathlib.Omega.{arith}
use Rattle.sliced.proofs.Copies.{put-start, put-more}
use Rattle.sliced.proofs.slice.put.Goals as goal

pub loop-i-init : goal.loop-i-init
loop-i-init c = put-start c.args.off.now c.args.len.now c.args.score.now c.args.rows.now

pub loop-i-preserved : goal.loop-i-preserved
loop-i-preserved c =
    put-more c.loop-i.off c.loop-i.len c.loop-i.score c.args.rows.now c.loop-i.i _ _ (omega arith) (omega arith) (omega arith) c.loop-i-test.true
    c.score_in.ensures c.loop-i.invariant
