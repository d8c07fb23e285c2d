-- What the program `ids` prints: a function of the bytes of `vocab.pack` and of standard input. Definitions only; assumes
-- nothing.
use Rattle.std.specs.Prelude.{ℕ, ◌+◌, ◌*◌, true, false, length, replicate, Option, None, Some}
use mathlib.Core.List.{List, [], flat_map}
use Rattle.doubles.specs.Double.{Double, plus_zero}
use Rattle.refusal.specs.declared.Fault.{Fault}
use Rattle.refusal.specs.declared.Fault.TheVariants as fault
use Rattle.refusal.specs.Refusal.{fault_of}
use Rattle.refusal.specs.Sizes.{above}
use Rattle.text.specs.Ascii.{ascii}
use Rattle.rows.specs.declared.Kind.{Kind}
use Rattle.rows.specs.declared.Kind.TheVariants.{Unigram, WordPiece}
use Rattle.build.specs.Memory.{Memory, memory, with_scores}
use Rattle.build.specs.Promise.{trie_in}
use Rattle.unigram.specs.Segment.{Lengths, lengths}
use Rattle.coder.specs.Vocabulary.{Vocabulary, unigram_of, wordpiece_of, fault_in, ids_in}
use Rattle.pack.specs.Pack.{header_of, rows_of, strings_of, prefix_of}
use Rattle.pack.specs.Build.{pack_fault, the_kind, unigram_model}
use Rattle.output.specs.Lines.{lines, printed_ids, printed_refusal}

-- "reads `vocab.pack` (at most 65,536 bytes)"
abbrev pub max_pack : ℕ
max_pack = 65_536

-- "and lines from standard input (at most 32,768 bytes)"
abbrev pub max_input : ℕ
max_input = 32_768

-- 360,459 bytes, enough for any output: a line takes at most 11 bytes for each of its bytes, LF included
abbrev pub max_output : ℕ
max_output = 11 * max_input + 11

-- "It lends 4,096 node, edge, slot, path and id places and 8,192 work places." They are zero at first.
abbrev pub places : List ℕ
places = replicate 4_096 0

abbrev pub score_places : List Double
score_places = replicate 4_096 plus_zero

unfoldable pub lent_memory : Memory
lent_memory = with_scores (memory places places places places places (replicate 8_192 0)) score_places

abbrev pub lent_places : Lengths
lent_places = lengths 4_096 4_096 4_096 4_096 4_096

-- what a line prints, given its first fault and its ids
unfoldable pub printed : Option Fault → List ℕ → List ℕ
printed None ids = printed_ids ids
printed (Some f) ids = printed_refusal [] f

-- what one line prints in a vocabulary
unfoldable pub coded_line : Vocabulary → List ℕ → List ℕ
coded_line v line = printed (fault_in v line lent_places) (ids_in v line)

-- the vocabulary of a pack of this kind that is not refused
unfoldable pub vocabulary_in : Kind → List ℕ → Vocabulary
vocabulary_in Unigram bytes = unigram_of (unigram_model bytes)
vocabulary_in WordPiece bytes =
    let h = header_of bytes in
    wordpiece_of (trie_in WordPiece (strings_of bytes) (rows_of WordPiece bytes)) h.unknown h.max_chars (prefix_of bytes)

-- "too much input prints only `input refused 1`"; else each line prints as f says
unfoldable pub lines_printed : (List ℕ → List ℕ) → List ℕ → List ℕ
lines_printed f input =
    elim (above max_input (length input)) [
      | true ↦ printed_refusal (ascii "input ") fault.Size
      | false ↦ flat_map f (lines input)
    ]

-- "A refused pack prints only `pack refused` and the number"
unfoldable pub output_of : List ℕ → List ℕ → List ℕ
output_of bytes input =
    elim (pack_fault bytes lent_memory) [
      | Some r ↦ printed_refusal (ascii "pack ") (fault_of r)
      | None ↦ lines_printed (coded_line (vocabulary_in (the_kind bytes) bytes)) input
    ]

-- "(1 if too large)". "The pack is judged first."
unfoldable pub output : List ℕ → List ℕ → List ℕ
output bytes input =
    elim (above max_pack (length bytes)) [
      | true ↦ printed_refusal (ascii "pack ") fault.Size
      | false ↦ output_of bytes input
    ]
