-- `unigram::runs::merge` meets its contract. The loop's invariant (`Going`): the ids written and those of the pieces left, with
-- the run that is still to come, are all. Assumes nothing.
use Rattle.std.proofs.Common.{arith, length, get_or, ◌<◌}
use Rattle.refusal.proofs.Lists.{place_inside}
use Rattle.refusal.specs.Sizes.{no_id}
use Rattle.unigram.proofs.Placing.{going-first, next-end, going_more, end_room, going_end}
use Rattle.unigram.proofs.runs.merge.Goals as goal

pub loop-place-init : goal.loop-place-init
loop-place-init c = going-first _ _ _ _ _ _ c.requires.ends

pub bounds-slot_id-end : goal.bounds-slot_id-end
bounds-slot_id-end c =
    omega (arith, (next-end _ _ _ _ _ _ c.loop-place.invariant (omega arith)).1, c.requires.slots)

pub loop-place-preserved : goal.loop-place-preserved
loop-place-preserved c =
    let within : c.loop-place.place-index < length c.args.path.now = omega arith in
    let end = get_or c.args.path.now c.loop-place.place-index 0 in
    let slot : end < length c.args.slot_id.now =
    omega (arith, (next-end _ _ _ _ _ _ c.loop-place.invariant within).1, c.requires.slots)
    in
    rw c.run_after-run.ensures
    (going_more _ _ _ _ _ _ c.loop-place.invariant within c.requires.room (place_inside _ end 0 no_id slot) c.stand-n.ensures
    c.stand-n.auto.ids)

pub close_run-requires : goal.close_run-requires
close_run-requires c =
    let g = c.loop-place.invariant in (
      record { sound = c.requires.sound; forward = g.back; inside = g.inside },
      λ l. end_room _ _ _ _ _ _ g l c.requires.room,
    )

pub returns : goal.returns
returns c = going_end _ _ _ _ _ _ c.loop-place.invariant (omega arith) c.requires.room c.close_run.ensures
