use Rattle.build.specs.Given.{given}
use Rattle.build.proofs.Rowing.{Rowed}
use Rattle.build.proofs.Rowing.{rest_of}
use Rattle.build.proofs.vocabulary.enter_rows.Given as goal

abbrev pub invariant-loop-i : goal.invariant-loop-i
invariant-loop-i l =
    Rowed l.kind l.tab (given l.off l.len l.ids) l.room l.initial.edge_n l.initial.id l.initial.work
    (rest_of l.off l.len l.ids l.i) l.i l.edge_n l.id l.work l.n
