-- A vocabulary of either kind, and what the coding of a text in it promises. Definitions only; assumes nothing.
use Rattle.std.specs.Prelude.{◌≡◌, Bool, List, ℕ, Option, None, Result}
use Rattle.refusal.specs.declared.Fault.{Fault}
use Rattle.refusal.specs.Coding.{Coded}
use Rattle.trie.specs.Trie.{Trie, id_of}
use Rattle.trie.specs.Sound.{sound}
use Rattle.unigram.specs.Pieces as unigram
use Rattle.unigram.specs.Segment.{Scratch, Lengths, lengths_of, sound_model, segment_fault, writes, with_ids, RecordLaw}
use Rattle.wordpiece.specs.Pieces as wordpiece
use Rattle.wordpiece.specs.Encode.{encode_fault}

-- a Unigram model; or a WordPiece trie with its unknown id, max_chars and prefix
pub data Vocabulary : Type 0 where
  unigram_of : unigram.Model → Vocabulary
  wordpiece_of : Trie → ℕ → ℕ → List ℕ → Vocabulary

unfoldable pub sound_in : Vocabulary → Bool
sound_in (unigram_of m) = sound_model m
sound_in (wordpiece_of t unknown max_chars prefix) = sound t

-- the first fault of a text or word, with so many places lent
unfoldable pub fault_in : Vocabulary → List ℕ → Lengths → Option Fault
fault_in (unigram_of m) s n = segment_fault (sound_model m) s n
fault_in (wordpiece_of t unknown max_chars prefix) s n = encode_fault (sound t) prefix s n.ids

unfoldable pub ids_in : Vocabulary → List ℕ → List ℕ
ids_in (unigram_of m) s = unigram.ids_of m s
ids_in (wordpiece_of t unknown max_chars prefix) s = wordpiece.ids_of (id_of t) unknown max_chars prefix s

-- what the scratch holds afterwards: a WordPiece word writes ids alone
unfoldable pub writes_in : Vocabulary → List ℕ → Scratch → Scratch
writes_in (unigram_of m) s b = writes m s b
writes_in (wordpiece_of t unknown max_chars prefix) s b = with_ids (wordpiece.ids_of (id_of t) unknown max_chars prefix s) b

-- demand 3, of Unigram
unfoldable pub LawIn : Vocabulary → List ℕ → Scratch → Type 0
LawIn (unigram_of m) s after = RecordLaw m s after
LawIn (wordpiece_of t unknown max_chars prefix) s after = Unit {0}

-- What the coding of a text promises of its answer and of the lent columns, before and after.
pub record CodedIn (v : Vocabulary) (s : List ℕ) (before : Scratch) (answer : Result ℕ Fault) (after : Scratch) : Type 0 where
  pub coded : Coded (fault_in v s (lengths_of before)) (ids_in v s) (writes_in v s before) before answer after
  pub law : fault_in v s (lengths_of before) ≡ None → LawIn v s after
