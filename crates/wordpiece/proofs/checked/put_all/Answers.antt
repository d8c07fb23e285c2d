-- `wordpiece::checked::put_all` meets its contract: the first id, and behind it those of the rest, held or found again, lie
-- over what was there. Assumes nothing.
use Rattle.std.proofs.Common.{◌≡◌, ap, ◌∙◌, ℕ, ◌+◌, ◌<◌, length, length-set, arith}
use Rattle.wordpiece.proofs.Plans.{laid_behind, stored_behind}
use Rattle.wordpiece.proofs.checked.put_all.Goals as goal
use Rattle.wordpiece.proofs.checked.put_all.Goals.{then-n-held, else-n-held}

pub returns : goal.returns
returns c xs g =
    let kept = c.requires.kept in
    let same : kept.ids ≡ xs = cc (kept.rest, g) in
    let many : c.args.n ≡ length xs = kept.many ∙ ap length same in
    let fits : length xs < length c.args.ids.now = omega (arith, kept.room, many) in
    elim c.if-n-held.branch [
      | then-n-held w ↦ (
        ap (λ n. 1 + n) many,
        w.ids-is
            ∙ rw (w.copy_from_slice.ensures.after, kept.held w.if-n-held.true ∙ same)
            (laid_behind _ xs _ _ fits (omega (arith, many))),
      )
      | else-n-held w ↦ (
        ap (λ n. 1 + n) many,
        w.ids-is ∙ stored_behind _ xs _ _ _ fits (omega (arith, length-set {A = ℕ})) (w.write_rest.ensures.held xs g),
      )
    ]
