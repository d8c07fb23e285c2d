use Rattle.doubles.specs.Units.{units}
use Rattle.cutting.specs.Slots.{slots_of}
use Rattle.unigram.specs.Work.{model}
use Rattle.unigram.proofs.Offering.{Walked}
use Rattle.unigram.proofs.lattice.offer_known.Given as goal

abbrev pub invariant-loop-i : goal.invariant-loop-i
invariant-loop-i l =
    let before = slots_of l.initial.start l.initial.slot_id l.initial.slot_score in
    let now = slots_of l.start l.slot_id l.slot_score in
    Walked (model l.m) l.text l.at l.one (units l.till) before l.i l.here.node now l.single
