use Rattle.std.specs.Prelude.{None}
use mathlib.Core.Path.{◌≡◌}
use lib.ListN.{length}
use Rattle.cutting.specs.Records.{shown}
use Rattle.cutting.specs.Slots.{slots_of}
use Rattle.cutting.proofs.Columns.{Filled}
use Rattle.cutting.proofs.slots.clear.Given as goal

abbrev pub invariant-loop-j : goal.invariant-loop-j
invariant-loop-j l = (length l.start ≡ length l.initial.start)
    × (length l.slot_id ≡ length l.initial.slot_id)
    × (length l.slot_score ≡ length l.initial.slot_score)
    × Filled (λ k. shown None) (slots_of l.initial.start l.initial.slot_id l.initial.slot_score) l.j (slots_of l.start l.slot_id l.slot_score)
