use mathlib.Core.Path.{◌≡◌}
use Prim.Native.Nat.{◌+◌, ◌≤◌}
use Rattle.trie.specs.Trie.{seek}
use Rattle.trie.proofs.checked.seek.Given as goal

abbrev pub invariant-loop-left : goal.invariant-loop-left
invariant-loop-left l =
    (l.at ≤ l.low) × (l.low + l.left ≤ l.at + l.n)
    × (seek l.byte l.to l.b l.at l.n ≡ seek l.byte l.to l.b l.low l.left)

abbrev pub decreases-loop-left : goal.decreases-loop-left
decreases-loop-left l = l.left
