-- `rows::score_fault` meets its contract: an id is no score, and a score is fine exactly where it is finite. Assumes nothing.
use mathlib.Core.Path.{sym, ◌∙◌}
use Rattle.rows.proofs.RowFaults.{no-score, finite-score, endless-score}
use Rattle.rows.proofs.score_fault.Goals as goal

pub returns-in_default : goal.returns-in_default
returns-in_default c = sym (no-score c.in_default.is)

pub returns-then-is_finite : goal.returns-then-is_finite
returns-then-is_finite c = sym (finite-score c.in-Score.is (sym c.is_finite.ensures ∙ c.if-is_finite.true))

pub returns : goal.returns
returns c = sym (endless-score c.in-Score.is (sym c.is_finite.ensures ∙ c.if-is_finite.false))
