-- `pack::enter::build_rows` meets its contract: the rows are entered, and then the build is finished. Assumes nothing.
use Rattle.build.proofs.Filled.{entered-built}
use Rattle.pack.specs.Pack.{rows_from}
use Rattle.pack.proofs.enter.build_rows.Goals as goal

pub returns : goal.returns
returns c =
    let a = c.args in
    let made = c.enter_rows-made in
    entered-built a.kind a.strings.now (rows_from a.kind a.bytes.now 36 a.rows) a.room made.ensures c.finish.ensures
    made.auto.edge_n made.auto.id made.auto.work
