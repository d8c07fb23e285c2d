-- `output::put::put_numbers` meets its contract. The loop's invariant: the first i numbers are put, and took at most 11 bytes
-- each. The measure is what is left. Assumes nothing.
use native.Mathlib.Omega.{arith}
use Rattle.output.specs.Lines.{spaced}
use Rattle.output.proofs.Putting.{along-start, along-turn}
use Rattle.output.proofs.Decimals.{spaced_one, spaced-none, spaced-snoc}
use Rattle.output.proofs.put.put_numbers.Goals as goal

pub loop-n-init : goal.loop-n-init
loop-n-init c = (along-start spaced spaced_one spaced-none spaced-snoc c.args.numbers.now c.args.out.now c.args.at, omega arith)

pub loop-n-preserved : goal.loop-n-preserved
loop-n-preserved c = (
  along-turn spaced spaced_one spaced-none spaced-snoc c.loop-n.invariant.0 (omega arith) c.put_spaced-end.ensures.0 c.put_spaced-end.auto.out,
  omega (arith, c.put_spaced-end.ensures.1, c.loop-n.invariant.1),
)
