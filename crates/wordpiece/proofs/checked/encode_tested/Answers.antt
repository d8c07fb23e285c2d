-- `wordpiece::checked::encode_tested` meets its contract: what `judge` finds is refused, and a call without a fault is ready
-- for the core. Assumes nothing.
use Rattle.std.proofs.lemmas.Result.{err_from_is_err_and}
use Rattle.std.proofs.Common.{sym}
use Rattle.refusal.proofs.Codings.{coded-refused, coded-ids}
use Rattle.wordpiece.proofs.Faults.{ready}
use Rattle.wordpiece.proofs.checked.encode_tested.Goals as goal

pub encode-requires : goal.encode-requires
encode-requires c = ready _ _ _ _ (rw c.requires at (sym c.in_ok-judge.ensures))

pub returns-in_err-judge : goal.returns-in_err-judge
returns-in_err-judge c =
    let p = err_from_is_err_and c.from_residual.result c.from_residual.ensures.1 in
    rw (p.1, p.2) (coded-refused (rw c.requires at (sym c.in_err-judge.ensures)))

pub returns : goal.returns
returns c = coded-ids (rw c.requires at (sym c.in_ok-judge.ensures)) c.encode.ensures.0 c.encode.ensures.1
