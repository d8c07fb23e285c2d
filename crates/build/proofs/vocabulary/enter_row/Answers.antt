-- `build::vocabulary::enter_row` meets its contract: it reads the row and enters its token, which lies inside the table.
-- Assumes nothing.
use Rattle.text.proofs.Spans.{bytes-given}
use Rattle.build.proofs.Marking.{row-valued}
use Rattle.build.proofs.vocabulary.enter_row.Goals as goal

pub returns : goal.returns
returns c = row-valued (bytes-given c.span-token.ensures) c.value-v.ensures c.enter_token.ensures
