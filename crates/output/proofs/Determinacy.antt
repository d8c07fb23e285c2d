-- The promise of `print` fixes where the text ends and the whole buffer: each field is an equation with a value of the inputs.
-- Assumes nothing.
use mathlib.Core.Path.{◌≡◌, sym, ap, ◌∙◌}
use mathlib.Core.List.{List, ◌++◌}
use Prim.Native.Nat.{ℕ}
use lib.ListN.{take, drop}
use Rattle.output.specs.Put.{Put}

pub put-once : {before s a b : List ℕ} {at m n : ℕ} → Put before at s m a → Put before at s n b → (m ≡ n) × (a ≡ b)
put-once {before = before} {s = s} {at = at} {m = m} {n = n} p q =
    let same : m ≡ n = p.ends ∙ sym q.ends in
    (same, p.left ∙ ap (λ (k : ℕ). take at before ++ s ++ drop k before) same ∙ sym q.left)
