use Rattle.std.proofs.Common.{◌≡◌, ℕ, ◌-◌, ◌≤◌, ◌<◌, true, length}
use Rattle.text.specs.Text.{boundary}
use Rattle.cutting.specs.Law.{Holds}
use Rattle.cutting.specs.Slots.{slots_of, slot_at}
use Rattle.unigram.specs.Pieces.{rule}
use Rattle.unigram.specs.Work.{model}
use Rattle.unigram.proofs.lattice.fill.Given as goal

abbrev pub invariant-loop-at : goal.invariant-loop-at
invariant-loop-at l =
    let before = slots_of l.initial.start l.initial.slot_id l.initial.slot_score in
    let now = slots_of l.start l.slot_id l.slot_score in
    (l.at ≤ length l.text)
    × (boundary l.text l.at ≡ true)
    × Holds (rule (model l.m) l.text) (length l.text) l.at now
    × ((k : ℕ) → length l.text < k → slot_at now k ≡ slot_at before k)

abbrev pub decreases-loop-at : goal.decreases-loop-at
decreases-loop-at l = length l.text - l.at
