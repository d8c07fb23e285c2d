-- `cutting::slots::slot_at` meets its contract: a read of each column. Assumes nothing.
use mathlib.Core.Path.{refl}
use Rattle.cutting.proofs.Columns.{slot_read}
use Rattle.cutting.proofs.slots.slot_at.Goals as goal

pub returns : goal.returns
returns c = let a = c.args in
    slot_read a.start.now a.slot_id.now a.slot_score.now a.j c.requires _ _ _ _ refl refl refl
