-- `build::checked::build` meets its contract: the rows are entered, and then the build is finished. Assumes nothing.
use Rattle.build.specs.Given.{given}
use Rattle.build.proofs.Filled.{entered-built}
use Rattle.build.proofs.checked.build.Goals as goal

pub returns : goal.returns
returns c =
    let a = c.args in
    let rows = c.enter_rows-made in
    entered-built a.kind a.tab.now (given a.off.now a.len.now a.ids.now) a.room rows.ensures c.finish.ensures
    rows.auto.edge_n rows.auto.id rows.auto.work
