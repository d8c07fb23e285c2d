-- `cutting::slots::offer` meets its contract: an empty slot takes what it is offered, a full one where that is better. Assumes
-- nothing.
use mathlib.Core.Path.{◌≡◌, sym, ap, ◌∙◌}
use mathlib.Core.Bool.{Bool}
use Rattle.doubles.specs.Double.{less}
use Rattle.refusal.specs.Sizes.{no_id}
use Rattle.cutting.specs.Cuttings.{Slot}
use Rattle.cutting.specs.Slots.{slots_of, slot_at, held}
use Rattle.cutting.proofs.Columns.{put_as, put_back, taken-empty, taken-better, taken-kept}
use Rattle.cutting.proofs.slots.offer.Goals as goal
use Rattle.cutting.proofs.slots.offer.Goals.{then-standing-via-then-standing, then-standing-via-else-standing+then-better}

-- a slot that was read is empty where its start is the mark, and is beaten by a strictly greater score
empty : {s r : Slot} → s ≡ r → s.start ≡ no_id → r.start ≡ no_id
empty e h = ap (λ (x : Slot). x.start) (sym e) ∙ h

beaten : {s r : Slot} (q : Slot) {b : Bool} → s ≡ r → b ≡ less s.score q.score → less r.score q.score ≡ b
beaten q e h = ap (λ (x : Slot). less x.score q.score) (sym e) ∙ sym h

pub returns-then-standing : goal.returns-then-standing
returns-then-standing c =
    let a = c.args in
    let here = slot_at (slots_of a.start.now a.slot_id.now a.slot_score.now) a.j in
    let read : held c.slot_at-standing.result ≡ here = c.slot_at-standing.ensures in
    put_as c.put.ensures
    (sym
    (elim c.then-standing.branch [
      | then-standing-via-then-standing w ↦ taken-empty here (held a.q) (empty read w.if-standing.true)
      | then-standing-via-else-standing+then-better w ↦
          taken-better here (held a.q) (λ e. w.if-standing.false (empty (sym read) e))
          (beaten (held a.q) read w.better.ensures ∙ w.if-better.true)
    ]))

pub returns-else-better : goal.returns-else-better
returns-else-better c =
    let a = c.args in
    let here = slot_at (slots_of a.start.now a.slot_id.now a.slot_score.now) a.j in
    let read : held c.slot_at-standing.result ≡ here = c.slot_at-standing.ensures in
    put_back (slots_of a.start.now a.slot_id.now a.slot_score.now) a.j
    (taken-kept here (held a.q) (λ e. c.if-standing.false (empty (sym read) e))
    (beaten (held a.q) read c.better.ensures ∙ c.if-better.false))
