use mathlib.Core.Path.{◌≡◌}
use mathlib.Core.Bool.{Bool, true}
use mathlib.Core.List.{List}
use Prim.Native.Nat.{ℕ, ◌+◌, ◌*◌}
use lib.Dec.{eqb}
use Rattle.trie.specs.Sound.{every}
use Rattle.pack.specs.Pack.{word}
use Rattle.pack.proofs.header.is_padded.Given as goal

-- whether row i is padded
abbrev pub padded : List ℕ → ℕ → Bool
padded bytes i = eqb (word bytes (36 + 16 * i + 12)) 0

abbrev pub invariant-loop-i : goal.invariant-loop-i
invariant-loop-i l = every l.i (padded l.bytes) ≡ true
