-- `output::put::put_text` meets its contract. The loop's invariant: the first i bytes are put. The measure is what is left.
-- Assumes nothing.
use mathlib.Core.List.{List, [], ◌∷◌}
use Prim.Native.Nat.{ℕ}

abbrev one : ℕ → List ℕ
one b = b ∷ []
