use Rattle.build.proofs.Rowing.{Rowed}
use Rattle.pack.proofs.Resting.{all, rest}
use Rattle.pack.proofs.enter.enter_rows.Given as goal

abbrev pub invariant-loop-i : goal.invariant-loop-i
invariant-loop-i l =
    Rowed l.kind l.strings (all l.kind l.bytes l.rows) l.room l.initial.edge_n l.initial.id l.initial.work
    (rest l.kind l.bytes l.rows l.i) l.i l.edge_n l.id l.work l.n
