-- Every boundary is reached, by a rule with a piece from each boundary to the next: the last boundary before j has a piece that
-- ends at j, so by induction there is a cutting before j. Assumes nothing.
use Rattle.std.specs.Prelude.{Some}
use mathlib.Core.Path.{◌≡◌, refl, ap, subst, ◌∙◌}
use mathlib.Core.Bool.{Bool, true, false}
use mathlib.Core.Logic.{⊎_elim}
use Prim.Native.Nat.{ℕ, zero, suc, ◌≤◌, ◌<◌}
use native.Mathlib.Omega.{arith}
use lib.Dec.{T}
use Rattle.doubles.specs.Double.{Double}
use Rattle.cutting.specs.Cuttings.{Piece, Rule, nth, Cutting, empty, then, total}
use Rattle.refusal.proofs.Lists.{true-false, below_or}
use Rattle.cutting.proofs.Working.{Pieces, stands_at}
use Rattle.cutting.proofs.Best.{at-most-best}

-- pieces end at boundaries, and from each before the end there is one that reaches the next
pub record Reach (boundary : ℕ → Bool) (end : ℕ) (rule : Rule) : Type 0 where
  pub first : boundary 0 ≡ true
  pub to : (i j k : ℕ) (p : Piece) → nth (rule.pieces i j) k ≡ Some p → boundary j ≡ true
  pub single : (i : ℕ) → i < end → boundary i ≡ true → (j : ℕ) × (k : ℕ) × (p : Piece) × (nth (rule.pieces i j) k ≡ Some p) × ((n : ℕ) → i < n → n < j → boundary n ≡ false)

module _ {boundary : ℕ → Bool} {end : ℕ} {rule : Rule} (g : Pieces end rule) (h : Reach boundary end rule) where
  -- every index below suc i is below i or i
  split : {Q : ℕ → Type 0} (i : ℕ) → ((k : ℕ) → k < i → Q k) → Q i → (k : ℕ) → k < suc i → Q k
  split {Q} i all here k l =
      ⊎_elim (λ (h : k < i). all k h) (λ (h : i ≤ k). subst Q (let e : i ≡ k = omega arith in e) here) (below_or k i)

  -- the last boundary before j
  last-before : (j : ℕ) → 0 < j → (i : ℕ) × (i < j) × (boundary i ≡ true) × ((k : ℕ) → i < k → k < j → boundary k ≡ false)
  last-before zero l = absurd (omega arith)
  last-before (suc j) l = at_last (boundary j) refl (last-before j)
    where
      at_last :
          (t : Bool) → boundary j ≡ t → (0 < j → (i : ℕ) × (i < j) × (boundary i ≡ true) × ((k : ℕ) → i < k → k < j → boundary k ≡ false))
          → (i : ℕ) × (i < suc j) × (boundary i ≡ true) × ((k : ℕ) → i < k → k < suc j → boundary k ≡ false)
      at_last true e earlier = (j, omega arith, e, λ k p q. absurd (omega arith))
      at_last false e earlier =
          ⊎_elim
          (λ (l : 0 < j).
          let w = earlier l in
          (w.0, omega (arith, w.1), w.2, λ k p q. split {Q = λ n. w.0 < n → boundary n ≡ false} j (λ n m r. w.3 n r m) (λ r. e) k q p))
          (λ (l : j ≤ 0). absurd (true-false h.first (ap boundary (let z : 0 ≡ j = omega arith in z) ∙ e)))
          (below_or 0 j)

  meet : (a b : ℕ) → (a < b → ⊥) → (b < a → ⊥) → a ≡ b
  meet a b p q = ⊎_elim (λ (l : a < b). absurd (p l)) (λ (l : b ≤ a). ⊎_elim (λ (k : b < a). absurd (q k)) (λ (k : a ≤ b). omega arith) (below_or b a)) (below_or a b)

  cutting-to : (n j : ℕ) → j ≤ n → j ≤ end → boundary j ≡ true → Cutting rule j
  cutting-to zero zero l inside at = empty
  cutting-to (suc n) zero l inside at = empty
  cutting-to zero (suc j) l inside at = absurd (omega arith)
  cutting-to (suc n) (suc j) l inside at =
      let w = last-before (suc j) (omega arith) in
      let i = w.0 in
      let v = h.single i (omega (arith, w.1)) w.2 in
      let above : i < v.0 = g.forward i v.0 v.1 v.2 v.3 in
      let no_less : v.0 < suc j → ⊥ = λ b. true-false (h.to i v.0 v.1 v.2 v.3) (w.3 v.0 above b) in
      let no_more : suc j < v.0 → ⊥ = λ b. true-false at (v.4 (suc j) w.1 b) in
      then (cutting-to n i (omega (arith, w.1)) (omega (arith, w.1)) w.2) (suc j) v.1 v.2
      (subst (λ (k : ℕ). nth (rule.pieces i k) v.1 ≡ Some v.2) (meet v.0 (suc j) no_less no_more) v.3)

  -- "That every boundary has a record" is the Rust's `debug_assert!`.
  pub all-stand : ((j : ℕ) (c : Cutting rule j) → T (rule.counts (total c))) → (j : ℕ) → j ≤ end → boundary j ≡ true → (x : Double) × (stands_at rule j ≡ Some x)
  all-stand counts j inside at =
      let c = cutting-to j j (omega arith) inside at in
      let w = at-most-best g c (counts j c) in
      (w.0, w.1)
