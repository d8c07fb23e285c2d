-- `unigram::checked::segment_tested` meets its contract: what `judge` finds is refused, and a call without a fault is prepared
-- for the cutting. Assumes nothing.
use Rattle.std.specs.Result.{result_err}
use Rattle.std.proofs.Common.{sym, ap, ◌∙◌}
use Rattle.std.proofs.lemmas.Result.{err_from_is_err_and}
use Rattle.unigram.proofs.Refusing.{refused-found}
use Rattle.unigram.proofs.checked.segment_tested.Goals as goal

pub returns-in_err-judge : goal.returns-in_err-judge
returns-in_err-judge c =
    let p = err_from_is_err_and c.from_residual.result c.from_residual.ensures.1 in
    rw (p.1, p.2) (refused-found _ _ _ _ _ _ _ c.requires (sym c.judge.ensures ∙ ap result_err c.in_err-judge.was))
