-- `wordpiece::checked::longest` meets its contract. The loop's invariant: the walk over the bytes from i to j ends in the node,
-- and the best piece is the longest that ends at j or before. Assumes nothing.
use Rattle.std.proofs.Common.{sym, arith}
use Rattle.wordpiece.proofs.Longest.{come-start, come-stop, come-id, come-past, come-piece}
use Rattle.wordpiece.proofs.checked.longest.Goals as goal
use Rattle.wordpiece.proofs.checked.longest.Goals.{in-Some-ending, in_default-ending}

pub loop-j-init : goal.loop-j-init
loop-j-init c = come-start _ _ _ _ c.requires.node

pub returns-in_default : goal.returns-in_default
returns-in_default c =
    come-stop _ _ _ _ c.loop-j.invariant (omega arith) c.loop-j-test.true (sym c.in_default.ensures)

pub ending-requires : goal.ending-requires
ending-requires c = come-id _ _ _ _ c.loop-j.invariant (omega arith) c.loop-j-test.true (sym c.in-Some.ensures)

pub loop-j-preserved : goal.loop-j-preserved
loop-j-preserved c =
    elim c.match-ending.branch [
      | in-Some-ending w ↦
          rw (w.best-is)
          (come-piece _ _ _ _ c.loop-j.invariant (omega arith) c.loop-j-test.true (sym c.in-Some.ensures)
          (sym w.in-Some-ending.ensures))
      | in_default-ending w ↦
          rw (w.best-is)
          (come-past _ _ _ _ c.loop-j.invariant (omega arith) c.loop-j-test.true (sym c.in-Some.ensures)
          (sym w.in_default-ending.ensures))
    ]
