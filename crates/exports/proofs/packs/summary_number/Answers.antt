-- `exports::packs::summary_number` meets its contract: each kind has its number of nodes, and a Unigram pack its score. Assumes nothing.
use Rattle.pack.specs.declared.Summary.{Summary}
use Rattle.std.specs.Prelude.{Ok}
use mathlib.Core.Path.{sym, ap, ◌∙◌}
use mathlib.Core.List.{map}
use Rattle.doubles.specs.Units.{units}
use Rattle.pack.specs.Build.{reported}
use Rattle.exports.specs.Flat.{pack_number, pack_score}
use Rattle.exports.proofs.packs.summary_number.Goals as goal

pub returns-in-Unigram : goal.returns-in-Unigram
returns-in-Unigram c = (
  sym (ap (λ (x : Summary). pack_number (Ok (reported x))) c.in-Unigram.is),
  c.put_score.ensures ∙ sym (ap (λ (x : Summary). pack_score (Ok (reported x)) (map units c.args.unknown_score.now)) c.in-Unigram.is),
)

pub returns-in-WordPiece : goal.returns-in-WordPiece
returns-in-WordPiece c = (
  sym (ap (λ (x : Summary). pack_number (Ok (reported x))) c.in-WordPiece.is),
  sym (ap (λ (x : Summary). pack_score (Ok (reported x)) (map units c.args.unknown_score.now)) c.in-WordPiece.is),
)
