-- `pack::checked::reported` meets its contract, by the kind. Assumes nothing.
use Rattle.pack.proofs.FinePacks.{finite-rows, told-unigram, told-wordpiece}
use Rattle.pack.proofs.checked.reported.Goals as goal

pub unknown_score-requires : goal.unknown_score-requires
unknown_score-requires c = finite-rows c.requires c.in-Unigram.is

pub returns-in-Unigram : goal.returns-in-Unigram
returns-in-Unigram c count = told-unigram c.requires c.unknown_score.result c.in-Unigram.is c.unknown_score.ensures count

pub returns-in-WordPiece : goal.returns-in-WordPiece
returns-in-WordPiece c count = told-wordpiece c.requires c.in-WordPiece.is count
