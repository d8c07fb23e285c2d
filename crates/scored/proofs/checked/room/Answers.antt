-- `scored::checked::room` meets its contract: the lesser of the room of the other columns and the places of the score column.
-- Assumes nothing.
use mathlib.Core.Path.{◌≡◌}
use Prim.Native.Nat.{ℕ, ◌≤◌, ◌<◌, min}
use native.Mathlib.Omega.{arith}

right : (a b : ℕ) {r : ℕ} → r ≡ a → b < r → b ≡ min a b
right a b e h = omega (arith, e, h)

left : (a b : ℕ) {r : ℕ} → r ≡ a → r ≤ b → r ≡ min a b
left a b e h = omega (arith, e, h)
