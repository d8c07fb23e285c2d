-- `cutting::slots::clear` meets its contract. The loop's invariant: the slots below j are empty, the others as they were. What
-- is left up to n falls. Assumes nothing.
use mathlib.Core.Path.{refl, ◌∙◌}
use Rattle.doubles.proofs.Patterns.{zero-units}
use Rattle.cutting.proofs.Columns.{filled_more, put_as, empty-slot}
use Rattle.cutting.proofs.slots.clear.Goals as goal

pub loop-j-preserved : goal.loop-j-preserved
loop-j-preserved c = (
  c.put.auto.start ∙ c.loop-j.invariant.0,
  c.put.auto.slot_id ∙ c.loop-j.invariant.1,
  c.put.auto.slot_score ∙ c.loop-j.invariant.2,
  filled_more c.loop-j.invariant.3 (put_as c.put.ensures (empty-slot _ refl refl zero-units)),
)
