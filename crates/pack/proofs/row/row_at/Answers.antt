-- `pack::row::row_at` meets its contract: offset, length and worth stand one after the other. Assumes nothing.
use Rattle.pack.proofs.Readings.{row_reads}
use Rattle.pack.proofs.row.row_at.Goals as goal

pub returns : goal.returns
returns c = row_reads c.args.bytes.now c.args.at c.worth_at.result c.word.ensures c.word-2.ensures c.worth_at.ensures
