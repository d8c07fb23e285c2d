use Rattle.build.proofs.Seeking.{Walked, left}
use Rattle.build.proofs.links.seek.Given as goal

abbrev pub invariant-loop-node : goal.invariant-loop-node
invariant-loop-node l = Walked l.edge_n l.work l.node l.b l.at

abbrev pub decreases-loop-node : goal.decreases-loop-node
decreases-loop-node l = left l.edge_n l.node l.at
