-- The promise of every coding: met from its fault or from its ids, what an answer tells both ways, and that it fixes all.
-- Assumes nothing.
use Rattle.std.specs.Prelude.{Option, None, Some, Result, Ok, Err, ℕ}
use mathlib.Core.Path.{◌≡◌, refl, sym, ap, ◌∙◌}
use mathlib.Core.List.{List}
use mathlib.Core.Logic.{◌↔◌}
use Prim.Native.Nat.{ℕ}
use lib.ListN.{length}
use Rattle.refusal.specs.declared.Fault.{Fault}
use Rattle.refusal.specs.Refusal.{unless_fault}
use Rattle.refusal.specs.Coding.{code_answer, Coded}

refused_says : (o : Option Fault) (n : ℕ) {f : Fault} → code_answer o n ≡ Err f → o ≡ Some f
unfolding code_answer
refused_says None n e = cc
refused_says (Some g) n e = cc

ids-say : (o : Option Fault) (n : ℕ) {k : ℕ} → code_answer o n ≡ Ok k → (o ≡ None) × (k ≡ n)
unfolding code_answer
ids-say None n e = (refl, cc)
ids-say (Some g) n e = (cc, cc)

module _ {A : Type 0} {fault : Option Fault} {ids : List ℕ} {written before : A} where
  -- ---- the promise, from the fault that was found or from what was written

  pub coded-refused : {f : Fault} → fault ≡ Some f → Coded fault ids written before (Err f) before
  unfolding code_answer unless_fault
  coded-refused e =
      record {
        answered = sym (ap (λ (o : Option Fault). code_answer o (length ids)) e);
        left = sym (ap (λ (o : Option Fault). unless_fault o written before) e);
      }

  pub coded-ids : {n : ℕ} {after : A} → fault ≡ None → n ≡ length ids → after ≡ written → Coded fault ids written before (Ok n) after
  unfolding code_answer unless_fault
  coded-ids e count left =
      record {
        answered = ap Ok count ∙ sym (ap (λ (o : Option Fault). code_answer o (length ids)) e);
        left = left ∙ sym (ap (λ (o : Option Fault). unless_fault o written before) e);
      }

  -- ---- what it tells

  module _ {answer : Result ℕ Fault} {after : A} (p : Coded fault ids written before answer after) where
    -- refused exactly with the first fault
    pub refused-exactly : (f : Fault) → (answer ≡ Err f) ↔ (fault ≡ Some f)
    unfolding code_answer
    refused-exactly f = (
      λ q. refused_says fault (length ids) (sym p.answered ∙ q),
      λ e. p.answered ∙ ap (λ (o : Option Fault). code_answer o (length ids)) e,
    )

    -- the number of the ids exactly where there is none
    pub accepted-exactly : (answer ≡ Ok (length ids)) ↔ (fault ≡ None)
    unfolding code_answer
    accepted-exactly = (
      λ q. (ids-say fault (length ids) (sym p.answered ∙ q)).0,
      λ e. p.answered ∙ ap (λ (o : Option Fault). code_answer o (length ids)) e,
    )

    -- so many ids are all of them, and then it was written
    pub told-ids : {n : ℕ} → answer ≡ Ok n → (fault ≡ None) × (n ≡ length ids) × (after ≡ written)
    unfolding unless_fault
    told-ids q =
        let s = ids-say fault (length ids) (sym p.answered ∙ q) in
        (s.0, s.1, p.left ∙ ap (λ (o : Option Fault). unless_fault o written before) s.0)

  -- the promise met twice gives the same answer, and leaves the same
  pub coded-once :
      {a₁ a₂ : Result ℕ Fault} {x₁ x₂ : A} → Coded fault ids written before a₁ x₁ → Coded fault ids written before a₂ x₂
      → (a₁ ≡ a₂) × (x₁ ≡ x₂)
  coded-once p q = (p.answered ∙ sym q.answered, p.left ∙ sym q.left)
