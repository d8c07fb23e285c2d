-- `sliced::slice::clear_rows` meets its contract: each column is made zero. Assumes nothing.
use Rattle.scored.proofs.Storing.{filled-zeros}
use Rattle.sliced.proofs.Copies.{rows-cleared}
use Rattle.sliced.proofs.slice.clear_rows.Goals as goal

pub returns : goal.returns
returns c =
    rows-cleared c.args.off.now c.args.len.now c.args.score.now c.fill-3.new.self (c.fill.ensures.after (λ y e. e))
    (c.fill-2.ensures.after (λ y e. e)) (filled-zeros c.args.score.now (c.fill-3.ensures.after (λ y e. e)))
