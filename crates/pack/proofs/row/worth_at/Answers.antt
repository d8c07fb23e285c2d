-- `pack::row::worth_at` meets its contract: a score for Unigram, an id for WordPiece. Assumes nothing.
use Rattle.pack.proofs.Readings.{read-score, read-id}
use Rattle.pack.proofs.row.worth_at.Goals as goal

pub returns-in-Unigram : goal.returns-in-Unigram
returns-in-Unigram c = read-score c.args.bytes.now c.args.at c.score_at.result c.in-Unigram.is c.score_at.ensures

pub returns-in-WordPiece : goal.returns-in-WordPiece
returns-in-WordPiece c = read-id c.args.bytes.now c.args.at c.in-WordPiece.is c.word.ensures
