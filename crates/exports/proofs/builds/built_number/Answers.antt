-- `exports::builds::built_number` meets its contract: each answer has its number, and a build its score. Assumes nothing.
use mathlib.Core.Path.{sym, ap, ◌∙◌}
use mathlib.Core.List.{map}
use Rattle.doubles.specs.Units.{units}
use Rattle.scored.specs.Build.{told}
use Rattle.exports.specs.Flat.{told_number, told_score}
use Rattle.exports.proofs.builds.built_number.Goals as goal

pub returns-in-Ok : goal.returns-in-Ok
unfolding told
returns-in-Ok c = (
  sym (ap (λ x. told_number (told x)) c.in-Ok.is),
  c.put_score.ensures ∙ sym (ap (λ x. told_score (told x) (map units c.args.unknown_score.now)) c.in-Ok.is),
)

pub returns-in-Err : goal.returns-in-Err
unfolding told
returns-in-Err c = (
  c.reason_number.ensures ∙ sym (ap (λ x. told_number (told x)) c.in-Err.is),
  sym (ap (λ x. told_score (told x) (map units c.args.unknown_score.now)) c.in-Err.is),
)
