-- `pack::enter::value` meets its contract, by the kind of worth. Assumes nothing.
use mathlib.Core.Path.{sym, ap}
use Rattle.rows.specs.Rows.{worth_is}
use Rattle.pack.specs.Reading.{value_in}
use Rattle.pack.proofs.enter.value.Goals as goal

pub returns-in-Score : goal.returns-in-Score
unfolding worth_is
returns-in-Score c = sym (ap (λ w. value_in c.args.i (worth_is w)) c.in-Score.is)

pub returns-in-Id : goal.returns-in-Id
unfolding worth_is
returns-in-Id c = sym (ap (λ w. value_in c.args.i (worth_is w)) c.in-Id.is)
