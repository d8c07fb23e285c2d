-- `pack::checked::fill_scores` meets its contract, by the kind. Assumes nothing.
use Rattle.scored.proofs.Storing.{filled-zeros}
use Rattle.pack.proofs.FinePacks.{finite-rows, left-scored, left-bare}
use Rattle.pack.proofs.checked.fill_scores.Goals as goal

pub fill-requires : goal.fill-requires
fill-requires c = (finite-rows c.requires.0 c.in-Unigram.is, c.requires.1)

pub returns-in-Unigram : goal.returns-in-Unigram
returns-in-Unigram c = left-scored c.requires.0 c.in-Unigram.is c.fill.ensures

pub returns-in-WordPiece : goal.returns-in-WordPiece
returns-in-WordPiece c =
    left-bare c.requires.0 c.in-WordPiece.is
    (filled-zeros c.args.node_score.now (c.fill-in-WordPiece.ensures.after (λ y e. e)))
