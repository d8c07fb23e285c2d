-- The coding of a text in a vocabulary of either kind: it is the coding of that kind; there are no more ids than characters,
-- and they stand in the first id places; and the promise fixes all. Assumes nothing.
use Rattle.std.specs.Prelude.{Option, None, Some, Result, ℕ}
use mathlib.Core.Path.{◌≡◌, refl, ap, ◌∙◌}
use mathlib.Core.Bool.{Bool, true, false, cond}
use mathlib.Core.List.{List, [], ◌∷◌}
use Prim.Native.Nat.{ℕ, ◌≤◌}
use native.Mathlib.Omega.{arith}
use borrow.Author.Tests.{eqb-true}
use lib.Dec.{eqb}
use lib.ListN.{length}
use Rattle.refusal.specs.declared.Fault.{Fault}
use Rattle.refusal.specs.Refusal.{unless_fault}
use Rattle.refusal.specs.Places.{overlay}
use Rattle.refusal.proofs.Codings.{coded-once}
use Rattle.text.specs.Text.{characters, part}
use Rattle.text.proofs.Boundaries.{characters-le}
use Rattle.trie.specs.Trie.{Trie, id_of}
use Rattle.trie.specs.Sound.{sound}
use Rattle.unigram.specs.Pieces as unigram
use Rattle.unigram.specs.Segment.{Scratch, Lengths, written, writes, with_ids, Segmented}
use Rattle.unigram.proofs.Merging.{merged-few}
use Rattle.unigram.proofs.Segmenting.{pieces-few}
use Rattle.unigram.proofs.Refusing.{ready_for, enough-ids}
use Rattle.wordpiece.specs.Pieces as wordpiece
use Rattle.wordpiece.specs.Encode.{encode_fault, Encoded}
use Rattle.wordpiece.proofs.Few as words
use Rattle.wordpiece.proofs.Faults.{fine}
use Rattle.coder.specs.Vocabulary.{Vocabulary, unigram_of, wordpiece_of, fault_in, ids_in, writes_in, LawIn, CodedIn}

-- ---- the coding of each kind

pub segmented-coded : {m : unigram.Model} {s : List ℕ} {before after : Scratch} {answer : Result ℕ Fault} → Segmented m s before answer after → CodedIn (unigram_of m) s before answer after
unfolding fault_in ids_in writes_in LawIn
segmented-coded p = record { coded = p.coded; law = p.law }

-- the same scratch with these id places
abbrev pub with_places : List ℕ → Scratch → Scratch
with_places places b = record { slots = b.slots; path = b.path; ids = places }

pub encoded-coded :
    (t : Trie) (unknown max_chars : ℕ) (prefix s : List ℕ) (before : Scratch) {answer : Result ℕ Fault} {places : List ℕ}
    → Encoded t unknown max_chars prefix s before.ids answer places
    → CodedIn (wordpiece_of t unknown max_chars prefix) s before answer (with_places places before)
unfolding fault_in ids_in writes_in LawIn unless_fault
encoded-coded t unknown max_chars prefix s before p =
    record {
      coded = record { answered = p.answered; left = ap (λ (l : List ℕ). with_places l before) p.left ∙ leaves (encode_fault (sound t) prefix s (length before.ids)) };
      law = λ e. tt;
    }
  where
    leaves :
        (o : Option Fault)
        → with_places (unless_fault o (overlay (wordpiece.ids_of (id_of t) unknown max_chars prefix s) before.ids) before.ids) before
        ≡ unless_fault o (with_ids (wordpiece.ids_of (id_of t) unknown max_chars prefix s) before) before
    leaves None = refl
    leaves (Some f) = refl

-- ---- without a fault

-- at most one id a character
pub ids-few : (v : Vocabulary) (s : List ℕ) (n : Lengths) → fault_in v s n ≡ None → length (ids_in v s) ≤ characters s
unfolding fault_in ids_in unigram.ids_of
ids-few (unigram_of m) s n e =
    omega (arith, merged-few (λ i j. id_of m.trie (part s i j)) m.unknown.id 0 (unigram.pieces_of m s), pieces-few (ready_for m s n e))
ids-few (wordpiece_of t unknown max_chars prefix) s n e = words.ids-few (id_of t) s (fine (sound t) prefix s n.ids e).1 unknown max_chars prefix

-- and a place for each
pub places-enough : (v : Vocabulary) (s : List ℕ) (n : Lengths) → fault_in v s n ≡ None → characters s ≤ n.ids
unfolding fault_in
places-enough (unigram_of m) s n e = enough-ids _ s n e
places-enough (wordpiece_of t unknown max_chars prefix) s n e = (fine (sound t) prefix s n.ids e).2

nothing : (xs : List ℕ) → length xs ≡ 0 → [] ≡ xs
nothing [] e = refl
nothing (x ∷ xs) e = absurd (omega arith)

-- the ids stand in the first places: an empty text writes nothing, and has none
pub ids-stand : (v : Vocabulary) (s : List ℕ) (n : Lengths) (b : Scratch) → fault_in v s n ≡ None → (writes_in v s b).ids ≡ overlay (ids_in v s) b.ids
unfolding writes_in ids_in writes written
ids-stand (unigram_of m) s n b e = go (eqb (length s) 0) refl (ids-few (unigram_of m) s n e)
  where
    go : (t : Bool) → eqb (length s) 0 ≡ t → length (unigram.ids_of m s) ≤ characters s → (writes m s b).ids ≡ overlay (unigram.ids_of m s) b.ids
    go true z few =
        ap (λ (t : Bool). (cond t b (written m s b)).ids) z
        ∙ ap (λ (l : List ℕ). overlay l b.ids) (nothing (unigram.ids_of m s) (omega (arith, few, characters-le s, eqb-true (length s) 0 z)))
    go false z few = ap (λ (t : Bool). (cond t b (written m s b)).ids) z
ids-stand (wordpiece_of t unknown max_chars prefix) s n b e = refl

-- ---- the promise fixes what it answers and what it leaves

pub coded-in-once :
    {v : Vocabulary} {s : List ℕ} {b : Scratch} {a₁ a₂ : Result ℕ Fault} {b₁ b₂ : Scratch} → CodedIn v s b a₁ b₁ → CodedIn v s b a₂ b₂
    → (a₁ ≡ a₂) × (b₁ ≡ b₂)
coded-in-once p q = coded-once p.coded q.coded
