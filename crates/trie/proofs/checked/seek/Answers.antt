-- `trie::checked::seek` meets its contract. The loop's invariant: the byte's target among all the edges is its target among the
-- `left` edges from `low` on. Their number falls. Assumes nothing.
use mathlib.Core.Path.{◌≡◌, sym, ap, ◌∙◌}
use Prim.Native.Nat.{ℕ, ◌+◌, ◌-◌, ◌*◌, ◌/◌}
use native.Mathlib.Omega.{arith}
use Rattle.trie.specs.Trie.{seek}
use Rattle.trie.proofs.Seeking.{quarters}
use Rattle.trie.proofs.SoundParts.{rising-of}
use Rattle.trie.proofs.checked.seek.Goals as goal

-- three numbers, added
sum₃ : {x y z x' y' z' : ℕ} → x ≡ x' → y ≡ y' → z ≡ z' → x + y + z ≡ x' + y' + z'
sum₃ p q r = omega (arith, p, q, r)

pub loop-left-preserved : goal.loop-left-preserved
loop-left-preserved c = let a = c.args in
    let part = c.loop-left.left / 4 in (
      omega arith,
      omega (arith, c.passed-one.ensures, c.passed-two.ensures, c.passed-three.ensures),
      c.loop-left.invariant.2
          ∙ quarters a.byte.now a.to.now a.b a.at a.n (rising-of a.byte.now a.at a.n c.requires.2) c.loop-left.low part
          c.loop-left.left (omega arith) (omega arith) (omega arith) (omega arith) (omega arith)
          ∙ ap
          (λ (k : ℕ). seek a.byte.now a.to.now a.b (c.loop-left.low + k) (c.loop-left.left - 3 * part))
          (sym (sum₃ c.passed-one.ensures.0 c.passed-two.ensures.0 c.passed-three.ensures.0)),
    )
