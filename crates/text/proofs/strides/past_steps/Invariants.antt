-- `text::strides::past_steps` meets its contract. The loop's invariant is the contract's, of what was passed so far; a step
-- that goes on makes what is left less. Assumes nothing.
use Prim.Native.Nat.{◌-◌}
use lib.ListN.{length}
use Rattle.text.specs.Passing.{Passed}
use Rattle.text.proofs.strides.past_steps.Given as goal

abbrev pub invariant-loop-at : goal.invariant-loop-at
invariant-loop-at g l = Passed l.s l.i l.at

abbrev pub decreases-loop-at : goal.decreases-loop-at
decreases-loop-at g l = length l.s - l.at
