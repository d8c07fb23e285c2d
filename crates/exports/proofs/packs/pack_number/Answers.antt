-- `exports::packs::pack_number` meets its contract: each answer has its number, and a Unigram pack its score. Assumes nothing.
use mathlib.Core.Path.{sym, ap, ◌∙◌}
use mathlib.Core.List.{map}
use Rattle.doubles.specs.Units.{units}
use Rattle.pack.specs.Build.{told}
use Rattle.exports.specs.Flat.{pack_number, pack_score}
use Rattle.exports.proofs.packs.pack_number.Goals as goal

pub returns-in-Ok : goal.returns-in-Ok
unfolding told
returns-in-Ok c = (
  c.summary_number.ensures.0 ∙ sym (ap (λ x. pack_number (told x)) c.in-Ok.is),
  c.summary_number.ensures.1 ∙ sym (ap (λ x. pack_score (told x) (map units c.args.unknown_score.now)) c.in-Ok.is),
)

pub returns-in-Err : goal.returns-in-Err
unfolding told
returns-in-Err c = (
  c.reason_number.ensures ∙ sym (ap (λ x. pack_number (told x)) c.in-Err.is),
  sym (ap (λ x. pack_score (told x) (map units c.args.unknown_score.now)) c.in-Err.is),
)
