use Prim.Native.Nat.{◌+◌, ◌-◌}
use Rattle.build.proofs.Children.{Laying}
use Rattle.build.proofs.lay.lay_children.Given as goal

abbrev pub invariant-loop-k : goal.invariant-loop-k
invariant-loop-k l = Laying l.edge_n l.work l.initial.byte l.initial.to l.node l.from l.byte l.to l.at l.k

abbrev pub decreases-loop-k : goal.decreases-loop-k
decreases-loop-k l = l.from + 256 - l.at
