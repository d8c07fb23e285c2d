-- `coder::sound` meets its contract: the test of the kind. Assumes nothing.
use mathlib.Core.Path.{sym, ap, ◌∙◌}
use Rattle.coder.specs.declared.Coder.{Coder}
use Rattle.coder.specs.Vocabulary.{sound_in}
use Rattle.coder.specs.Columns.{vocabulary}
use Rattle.coder.proofs.sound.Goals as goal

pub returns-in-Unigram : goal.returns-in-Unigram
unfolding sound_in vocabulary
returns-in-Unigram c = c.sound_scored.ensures ∙ sym (ap (λ (x : Coder). sound_in (vocabulary x)) c.in-Unigram.is)

pub returns-in-WordPiece : goal.returns-in-WordPiece
unfolding sound_in vocabulary
returns-in-WordPiece c = c.sound.ensures ∙ sym (ap (λ (x : Coder). sound_in (vocabulary x)) c.in-WordPiece.is)
