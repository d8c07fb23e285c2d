-- `unigram::runs::stand` meets its contract: nothing for the unknown id, else the run's id and the piece's. Assumes nothing.
use Rattle.std.proofs.Common.{sym}
use Rattle.unigram.proofs.Placing.{placed-none, placed-as, placed-more, closes, closes-not}
use Rattle.unigram.proofs.runs.stand.Goals as goal

pub returns-then-x-m : goal.returns-then-x-m
returns-then-x-m c = placed-as (placed-none _ _) (sym (closes-not _ _ _ _ _ c.if-x-m.true))

pub returns : goal.returns
returns c = placed-as (placed-more c.args.x c.requires.1 c.close_run-k.ensures) (sym (closes _ _ _ _ _ c.if-x-m.false))
