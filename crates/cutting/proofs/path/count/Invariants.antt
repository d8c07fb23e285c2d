use mathlib.Core.Path.{◌≡◌}
use Prim.Native.Nat.{◌+◌}
use lib.ListN.{length}
use Rattle.cutting.specs.Tracing.{ends_from}
use Rattle.cutting.proofs.Tracing.{Come}
use Rattle.cutting.proofs.path.count.Given as goal

abbrev pub invariant-loop-at : goal.invariant-loop-at
invariant-loop-at l = Come l.start l.n l.at × (l.pieces + length (ends_from l.start l.at l.at) ≡ length (ends_from l.start l.n l.n))

abbrev pub decreases-loop-at : goal.decreases-loop-at
decreases-loop-at l = l.at
