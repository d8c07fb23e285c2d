-- `sliced::slice::score_in` meets its contract: by the cases of the worth. Assumes nothing.
use Rattle.build.specs.Rules.{score_of}
use Rattle.rows.specs.Rows.{worth_is}
use Rattle.doubles.proofs.Patterns.{zero-units}
use Rattle.sliced.proofs.slice.score_in.Goals as goal

pub returns-in-Score : goal.returns-in-Score
unfolding score_of worth_is
returns-in-Score c = rw c.in-Score.is

pub returns-in-Id : goal.returns-in-Id
unfolding score_of worth_is
returns-in-Id c = rw c.in-Id.is zero-units
