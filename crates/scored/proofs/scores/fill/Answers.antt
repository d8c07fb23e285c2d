-- `scored::scores::fill` meets its contract. The loop's invariant: the places below k hold the scores of their nodes, the
-- others are as they were made, zero. Assumes nothing.
use mathlib.Core.Path.{◌≡◌}
use mathlib.Core.List.{map}
use Prim.Native.Nat.{◌<◌}
use native.Mathlib.Omega.{arith}
use lib.ListN.{length, length-map}
use Rattle.doubles.specs.Units.{units}
use Rattle.scored.proofs.Storing.{stored_more, stored-scores, filled-zeros}
use Rattle.scored.proofs.scores.fill.Goals as goal

pub loop-k-preserved : goal.loop-k-preserved
loop-k-preserved c =
    let there : c.loop-k.k < length c.loop-k.node_score =
    omega (arith, c.loop-k.invariant.kept, length-map c.fill.new.self units, c.fill.auto.self, c.requires.1) in
    stored_more c.loop-k.invariant c.score_of.result there c.score_of.ensures

pub returns : goal.returns
returns c =
    let scores = map units c.args.score.now in
    let before = map units c.args.node_score.now in
    let ids = c.args.node_id.now in
    let zeros = filled-zeros c.args.node_score.now (c.fill.ensures.after (λ y e. e)) in
    let done : c.loop-k.k ≡ c.args.n = omega (arith, c.loop-k-test.false) in
    stored-scores scores ids c.args.n before c.requires.0 (omega (arith, c.requires.1, length-map c.args.node_score.now units))
    (rw (← done, ← zeros) c.loop-k.invariant)
