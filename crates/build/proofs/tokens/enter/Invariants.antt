use Rattle.std.specs.Prelude.{Option}
use mathlib.Core.Path.{◌≡◌}
use mathlib.Core.List.{List}
use Prim.Native.Nat.{ℕ}
use lib.ListN.{length}
use Rattle.build.specs.Held.{Held}
use Rattle.build.proofs.Entering.{Kept, Along}
use Rattle.build.proofs.tokens.enter.Given as goal

abbrev pub invariant-loop-b : goal.invariant-loop-b
invariant-loop-b l = Kept l.initial.edge_n l.initial.id l.initial.work l.edge_n l.id l.work
    × ((ns : List (List ℕ)) (rule : List ℕ → Option ℕ) → Held ns rule l.initial.edge_n l.initial.id l.initial.work
    → l.n ≡ length ns
    → Along ns rule l.token l.room l.b-index l.edge_n l.id l.work l.at.node l.at.n)
