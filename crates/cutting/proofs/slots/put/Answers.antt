-- `cutting::slots::put` meets its contract: a store in each column. Assumes nothing.
use mathlib.Core.Path.{refl}
use Rattle.cutting.proofs.Columns.{slot-put}
use Rattle.cutting.proofs.slots.put.Goals as goal

pub returns : goal.returns
returns c = let a = c.args in
    slot-put a.start.now a.slot_id.now a.slot_score.now a.j c.requires _ _ _ _ refl refl refl
