use Rattle.std.proofs.Common.{◌≡◌, true, ℕ, ltb, get_or}
use mathlib.Core.Bool.{Bool}
use mathlib.Core.List.{List}
use Rattle.trie.specs.Sound.{every}
use Rattle.trie.proofs.soundness.targets_inside.Given as goal

abbrev pub below : List ℕ → ℕ → ℕ → Bool
below to nodes e = ltb (get_or to e 0) nodes

abbrev pub invariant-loop-e : goal.invariant-loop-e
invariant-loop-e l = every l.e-index (below l.to l.nodes) ≡ true
