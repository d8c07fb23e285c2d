-- `unigram::runs::close_run` meets its contract: one id where a run is waiting, else none. Assumes nothing.
use Rattle.std.proofs.Common.{sym, ap, ◌∙◌, ℕ, ◌<◌, [], ◌∷◌, length, arith}
use Rattle.unigram.proofs.Placing.{placed-none, placed-as, placed-more, ids-there, ids-none}
use Rattle.unigram.proofs.runs.close_run.Goals as goal

pub returns-then-at-run : goal.returns-then-at-run
returns-then-at-run c = placed-as (placed-none _ _) (sym (ids-none _ _ _ _ c.if-at-run.true))

pub returns : goal.returns
returns c =
    let room : c.args.n < length c.args.ids.now = c.requires.1 c.if-at-run.false in
    placed-as (placed-more c.run_id.result (omega arith) (placed-none _ _))
    (sym (ids-there _ _ _ _ c.if-at-run.false ∙ ap (λ (i : ℕ). i ∷ []) (sym c.run_id.ensures)))
