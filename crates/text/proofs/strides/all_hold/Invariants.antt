-- `text::strides::all_hold` meets its contract. The loop's invariant: where as many held as were tested, each of them did.
-- Assumes nothing.
use mathlib.Core.Path.{◌≡◌}
use mathlib.Core.Bool.{true}
use Prim.Native.Nat.{ℕ, ◌+◌, ◌≤◌, ◌<◌}
use Rattle.text.proofs.strides.all_hold.Given as goal

abbrev pub invariant-loop-k : goal.invariant-loop-k
invariant-loop-k g l = (l.held ≤ l.k) × (l.held ≡ l.k → (j : ℕ) → l.i ≤ j → j < l.i + l.k → goal.F-post g l.test j true)
