use mathlib.Core.Path.{◌≡◌}
use mathlib.Core.List.{◌++◌}
use Prim.Native.Nat.{◌+◌}
use lib.ListN.{length, drop}
use Rattle.refusal.specs.Places.{overlay}
use Rattle.cutting.specs.Tracing.{ends_from}
use Rattle.cutting.proofs.Tracing.{Come}
use Rattle.cutting.proofs.path.write.Given as goal

abbrev pub invariant-loop-at : goal.invariant-loop-at
invariant-loop-at l = Come l.start l.n l.at
    × (length l.path ≡ length l.initial.path)
    × (l.done + length (ends_from l.start l.at l.at) ≡ l.pieces)
    × (overlay (ends_from l.start l.n l.n) l.initial.path ≡ ends_from l.start l.at l.at ++ drop (length (ends_from l.start l.at l.at)) l.path)

abbrev pub decreases-loop-at : goal.decreases-loop-at
decreases-loop-at l = l.at
