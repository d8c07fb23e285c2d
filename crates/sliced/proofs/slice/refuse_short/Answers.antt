-- `sliced::slice::refuse_short` meets its contract: every lent column is made zero. Assumes nothing.
use mathlib.Core.Path.{refl}
use Rattle.scored.proofs.Storing.{filled-zeros}
use Rattle.sliced.proofs.slice.refuse_short.Goals as goal

pub returns : goal.returns
returns c =
    (refl, c.clear_rows.ensures, c.clear.ensures, filled-zeros c.args.node_score.now (c.fill.ensures.after (λ y e. e)))
