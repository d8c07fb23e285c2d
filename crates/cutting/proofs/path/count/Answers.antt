-- `cutting::path::count` meets its contract. The loop's invariant: the pieces counted and those before `at` are all. The start
-- of a record lies below it, so `at` falls. Assumes nothing.
use mathlib.Core.Path.{◌≡◌, ap}
use Prim.Native.Nat.{ℕ}
use native.Mathlib.Omega.{arith}
use lib.ListN.{length, get_or}
use Rattle.cutting.specs.Tracing.{ends_from}
use Rattle.cutting.proofs.Tracing.{ends-first, ends-few, Turn, turn}
use Rattle.cutting.proofs.path.count.Goals as goal

pub overflow_add-pieces : goal.overflow_add-pieces
overflow_add-pieces c = omega (arith, c.loop-at.invariant.1, ends-few c.args.start.now c.args.n c.args.n, c.requires.size)

pub loop-at-smaller : goal.loop-at-smaller
loop-at-smaller c =
    let back : let s = c.args.start.now in Turn s c.args.n c.loop-at.at (get_or s c.loop-at.at 0) = turn c.requires c.loop-at.at c.loop-at-test.true c.loop-at.invariant.0 in
    (back).below

pub loop-at-preserved : goal.loop-at-preserved
loop-at-preserved c =
    let back : let s = c.args.start.now in Turn s c.args.n c.loop-at.at (get_or s c.loop-at.at 0) = turn c.requires c.loop-at.at c.loop-at-test.true c.loop-at.invariant.0 in
    ((back).come, omega (arith, c.loop-at.invariant.1, (back).many))

pub returns : goal.returns
returns c = let s = c.args.start.now in
    let z : c.loop-at.at ≡ 0 = omega (arith, c.loop-at-test.false) in
    omega (arith, c.loop-at.invariant.1, ap (λ (j : ℕ). length (ends_from s j j)) z, ap length (ends-first s 0))
