-- The look-up: which test gives which fault, and what each answer says, both ways. The first test that finds a fault decides;
-- with none the answer is the string's id or that it has none. Assumes nothing.
use Rattle.std.specs.Prelude.{Option, None, Some, Result, Ok, Err, ℕ}
use mathlib.Core.Path.{◌≡◌, refl, sym, ap, ◌∙◌}
use mathlib.Core.Bool.{Bool, true, false, not}
use mathlib.Core.List.{List}
use Prim.Native.Nat.{ℕ, ◌≤◌, ◌<◌}
use borrow.Author.Tests.{lt-ltb, le-ltb, ltb-false, not-false}
use lib.ListN.{length}
use Rattle.refusal.specs.declared.Fault.{Fault}
use Rattle.refusal.specs.declared.Fault.TheVariants as fault
use Rattle.refusal.specs.Refusal.{refuse}
use Rattle.refusal.specs.Sizes.{max_text}
use Rattle.refusal.proofs.Tests.{Not, refused-so, not_found, passed}
use Rattle.text.specs.Text.{well_formed, text_fault}
use Rattle.text.proofs.Spans.{fine-text, text-not}
use Rattle.trie.specs.Trie.{Trie, id_of}
use Rattle.trie.specs.Lookup.{lookup_fault, lookup_answer, LookedUp}

-- ---- which fault

module _ (s : List ℕ) where
  pub fault-size : (sound : Bool) → max_text < length s → lookup_fault sound s ≡ Some fault.Size
  unfolding lookup_fault refuse
  fault-size sound h = rw (lt-ltb max_text (length s) h)

  module _ (size : length s ≤ max_text) where
    pub fault-trie : lookup_fault false s ≡ Some fault.Trie
    unfolding lookup_fault refuse
    fault-trie = rw (le-ltb max_text (length s) size)

    pub fault-text : lookup_fault true s ≡ text_fault s
    unfolding lookup_fault refuse
    fault-text = rw (le-ltb max_text (length s) size)

  -- no fault where the parts are sound is 8
  pub sound-lookup : {sound : Bool} → sound ≡ true → {f : Fault} → lookup_fault sound s ≡ Some f → Not 8 f
  unfolding lookup_fault
  sound-lookup e =
      refused-so (Not 8) _ fault.Size _ refl
      (λ q. text-not 8 refl s (sym (not_found _ fault.Trie (text_fault s) (ap not e)) ∙ q))

-- what is known where there is none
pub lookup-fine :
    (sound : Bool) (s : List ℕ) → lookup_fault sound s ≡ None → (length s ≤ max_text) × (sound ≡ true) × (well_formed s ≡ true)
unfolding lookup_fault
lookup-fine sound s e =
    let a = passed _ fault.Size _ e in
    let b = passed _ fault.Trie _ a.1 in
    (ltb-false max_text (length s) a.0, not-false sound b.0, fine-text s b.1)

-- ---- the promise from the fault, or from the id

module _ {sound : Bool} {t : Trie} {s : List ℕ} where
  pub refused-for : {f : Fault} → lookup_fault sound s ≡ Some f → LookedUp sound t s (Err f)
  unfolding lookup_answer
  refused-for e = record { answered = sym (ap (λ (o : Option Fault). lookup_answer o (id_of t s)) e) }

  pub found-for : {o : Option ℕ} → lookup_fault sound s ≡ None → id_of t s ≡ o → LookedUp sound t s (Ok o)
  unfolding lookup_answer
  found-for {o} e i = record { answered = sym (ap (λ (f : Option Fault). lookup_answer f (id_of t s)) e ∙ ap Ok i) }

  -- with what the test of soundness answered
  pub refused-unsound : length s ≤ max_text → sound ≡ false → LookedUp sound t s (Err fault.Trie)
  refused-unsound size e = refused-for (ap (λ (b : Bool). lookup_fault b s) e ∙ fault-trie s size)

-- ---- exactly when

-- the faults and ids behind an answer
refused-only : (f : Option Fault) (o : Option ℕ) {g : Fault} → lookup_answer f o ≡ Err g → f ≡ Some g
unfolding lookup_answer
refused-only None o e = cc
refused-only (Some f) o e = cc

found-only : (f : Option Fault) (o : Option ℕ) {i : ℕ} → lookup_answer f o ≡ Ok (Some i) → (f ≡ None) × (o ≡ Some i)
unfolding lookup_answer
found-only None None e = (refl, cc)
found-only None (Some j) e = (refl, cc)
found-only (Some f) o e = (cc, cc)

absent-only : (f : Option Fault) (o : Option ℕ) → lookup_answer f o ≡ Ok None → (f ≡ None) × (o ≡ None)
unfolding lookup_answer
absent-only None None e = (refl, refl)
absent-only None (Some j) e = (refl, cc)
absent-only (Some f) o e = (cc, cc)

module _ {sound : Bool} {t : Trie} {s : List ℕ} {answer : Result (Option ℕ) Fault} (p : LookedUp sound t s answer) where
  -- refused exactly where there is a fault, and with that fault
  pub refused-fault : (f : Fault) → answer ≡ Err f → lookup_fault sound s ≡ Some f
  refused-fault f e = refused-only (lookup_fault sound s) (id_of t s) (sym p.answered ∙ e)

  pub fault-refused : (f : Fault) → lookup_fault sound s ≡ Some f → answer ≡ Err f
  unfolding lookup_answer
  fault-refused f e = p.answered ∙ ap (λ (o : Option Fault). lookup_answer o (id_of t s)) e

  -- an id exactly where there is no fault and the string has it
  pub found-id : (i : ℕ) → answer ≡ Ok (Some i) → (lookup_fault sound s ≡ None) × (id_of t s ≡ Some i)
  found-id i e = found-only (lookup_fault sound s) (id_of t s) (sym p.answered ∙ e)

  pub id-found : (i : ℕ) → lookup_fault sound s ≡ None → id_of t s ≡ Some i → answer ≡ Ok (Some i)
  unfolding lookup_answer
  id-found i e o = p.answered ∙ ap (λ (f : Option Fault). lookup_answer f (id_of t s)) e ∙ ap Ok o

  -- none exactly where there is no fault and the string has none
  pub absent-id : answer ≡ Ok None → (lookup_fault sound s ≡ None) × (id_of t s ≡ None)
  absent-id e = absent-only (lookup_fault sound s) (id_of t s) (sym p.answered ∙ e)

  pub id-absent : lookup_fault sound s ≡ None → id_of t s ≡ None → answer ≡ Ok None
  unfolding lookup_answer
  id-absent e o = p.answered ∙ ap (λ (f : Option Fault). lookup_answer f (id_of t s)) e ∙ ap Ok o
