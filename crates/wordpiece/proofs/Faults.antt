-- The first fault of a call of `encode`, by its tests in their order; and a call without a fault is ready. Assumes nothing.
use Rattle.std.specs.Prelude.{None, Some}
use mathlib.Core.Path.{◌≡◌, refl, sym, ap, ◌∙◌}
use mathlib.Core.Bool.{Bool, true, false, not}
use mathlib.Core.Logic.{◌⊎◌, inl, inr}
use mathlib.Core.List.{List}
use Prim.Native.Nat.{ℕ, ◌≤◌, ◌<◌}
use borrow.Author.Tests.{lt-ltb, le-ltb, ltb-false, not-false}
use lib.Dec.{ltb}
use lib.ListN.{length}
use Rattle.refusal.specs.declared.Fault.{Fault}
use Rattle.refusal.specs.declared.Fault.TheVariants as fault
use Rattle.refusal.specs.Sizes.{max_text, max_prefix, above}
use Rattle.refusal.specs.Refusal.{refuse, first}
use Rattle.refusal.proofs.Tests.{or_left, or_right, neither, found, not_found, found_first, none_first, passed, both-passed}
use Rattle.refusal.proofs.Tests.{Not, refused-so, first_so, nothing-so}
use Rattle.text.specs.Text.{well_formed, text_fault, characters}
use Rattle.text.proofs.Spans.{fine-text, text-not}
use Rattle.trie.specs.Trie.{Trie}
use Rattle.trie.specs.Sound.{sound}
use Rattle.wordpiece.specs.Encode.{encode_fault}
use Rattle.wordpiece.specs.Checked.{Encodable}

module _ (parts : Bool) (prefix w : List ℕ) (places : ℕ) where
  pub fault-word : max_text < length w → encode_fault parts prefix w places ≡ Some fault.Size
  unfolding encode_fault
  fault-word h = found _ fault.Size _ (or_left _ (above max_prefix (length prefix)) (lt-ltb max_text (length w) h))

  pub fault-prefix : max_prefix < length prefix → encode_fault parts prefix w places ≡ Some fault.Size
  unfolding encode_fault
  fault-prefix h = found _ fault.Size _ (or_right (above max_text (length w)) _ (lt-ltb max_prefix (length prefix) h))

  -- the first of the two that is found
  pub fault-size :
      (max_text < length w) ⊎ (length w ≤ max_text × max_prefix < length prefix)
      → encode_fault parts prefix w places ≡ Some fault.Size
  fault-size (inl h) = fault-word h
  fault-size (inr h) = fault-prefix h.1

  -- no fault of a call with sound parts is 8
  pub sound-fault : parts ≡ true → {f : Fault} → encode_fault parts prefix w places ≡ Some f → Not 8 f
  unfolding encode_fault
  sound-fault s e =
      refused-so (Not 8) _ fault.Size _ refl
      (λ e.
      first_so (Not 8) _ _ (text-not 8 refl w)
      (first_so (Not 8) _ _ (text-not 8 refl prefix) (refused-so (Not 8) _ fault.Ids None refl (nothing-so (Not 8))))
      (sym (not_found _ fault.Trie _ (ap not s)) ∙ e))
      e

  -- what is known of a call without a fault
  pub fine : encode_fault parts prefix w places ≡ None → (parts ≡ true) × (well_formed w ≡ true) × (characters w ≤ places)
  unfolding encode_fault
  fine e =
      let a = passed _ fault.Size _ e in
      let b = passed _ fault.Trie _ a.1 in
      let c = both-passed _ _ b.1 in
      let d = both-passed _ _ c.1 in
      let f = passed _ fault.Ids _ d.1 in
      (not-false parts b.0, fine-text w c.0, ltb-false places (characters w) f.0)

-- what is left to find where the sizes are fine
module _ (prefix w : List ℕ) (places : ℕ) (word_fits : length w ≤ max_text) (prefix-fits : length prefix ≤ max_prefix) where
  past-sizes :
      (parts : Bool) → encode_fault parts prefix w places
      ≡ refuse (not parts) fault.Trie
      (first (text_fault w) (first (text_fault prefix) (refuse (ltb places (characters w)) fault.Ids None)))
  unfolding encode_fault
  past-sizes parts =
      not_found _ fault.Size _
      (neither _ _ (le-ltb max_text (length w) word_fits) (le-ltb max_prefix (length prefix) prefix-fits))

  pub fault-trie : encode_fault false prefix w places ≡ Some fault.Trie
  fault-trie = past-sizes false ∙ found _ fault.Trie _ refl

  -- and the parts sound
  past-trie :
      encode_fault true prefix w places
      ≡ first (text_fault w) (first (text_fault prefix) (refuse (ltb places (characters w)) fault.Ids None))
  past-trie = past-sizes true ∙ not_found _ fault.Trie _ refl

  pub ill-word : {f : Fault} → text_fault w ≡ Some f → encode_fault true prefix w places ≡ Some f
  ill-word e = past-trie ∙ found_first _ e

  module _ (word_fine : text_fault w ≡ None) where
    pub ill-prefix : {f : Fault} → text_fault prefix ≡ Some f → encode_fault true prefix w places ≡ Some f
    ill-prefix e = past-trie ∙ none_first _ word_fine ∙ found_first _ e

    module _ (prefix-fine : text_fault prefix ≡ None) where
      past-texts : encode_fault true prefix w places ≡ refuse (ltb places (characters w)) fault.Ids None
      past-texts = past-trie ∙ none_first _ word_fine ∙ none_first _ prefix-fine

      pub fault-places : places < characters w → encode_fault true prefix w places ≡ Some fault.Ids
      fault-places h = past-texts ∙ found _ fault.Ids None (lt-ltb places (characters w) h)

      pub no-fault : characters w ≤ places → encode_fault true prefix w places ≡ None
      no-fault h = past-texts ∙ not_found _ fault.Ids None (le-ltb places (characters w) h)

pub ready : (t : Trie) (prefix w ids : List ℕ) → encode_fault (sound t) prefix w (length ids) ≡ None → Encodable t w ids
ready t prefix w ids e =
    let f = fine (sound t) prefix w (length ids) e in
    record { parts = f.0; well = f.1; room = f.2 }
