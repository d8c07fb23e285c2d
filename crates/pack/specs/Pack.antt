-- "The pack": its header, its layout, its rows. Definitions only; assumes nothing.
use Rattle.std.specs.Prelude.{ℕ, zero, suc, ◌+◌, ◌*◌, ◌^◌, Bool, true, false, ◌&&◌, cond, leb, eqb, Option, None, Some}
use Rattle.std.specs.Prelude.{List, [], ◌∷◌, length, get_or, drop}
use Rattle.doubles.specs.Double.{of_pattern}
use Rattle.text.specs.Span.{span_of}
use Rattle.trie.specs.Sound.{every}
use Rattle.rows.specs.declared.Kind.{Kind}
use Rattle.rows.specs.declared.Kind.TheVariants.{Unigram, WordPiece}
use Rattle.rows.specs.Rows.{Row, Worth, score, id}
use Rattle.pack.specs.declared.header.Header.{Header}

-- "Little-endian u32": the word at byte `at`
unfoldable pub word : List ℕ → ℕ → ℕ
word bytes at =
    get_or bytes at 0 + 2 ^ 8 * get_or bytes (at + 1) 0 + 2 ^ 16 * get_or bytes (at + 2) 0 + 2 ^ 24 * get_or bytes (at + 3) 0

-- "header, 36 bytes: kind (1 Unigram, 2 WordPiece), rows, rows offset, strings offset, strings length, unknown id, max_chars,
-- prefix offset, prefix length"
unfoldable pub header_of : List ℕ → Header
header_of bytes =
    record {
      kind = word bytes 0;
      rows = word bytes 4;
      rows_off = word bytes 8;
      strings_off = word bytes 12;
      strings_len = word bytes 16;
      unknown = word bytes 20;
      max_chars = word bytes 24;
      prefix_off = word bytes 28;
      prefix_len = word bytes 32;
    }

-- "Rows offset is 36, strings offset 36 + 16 x rows, and the file ends with the strings."
unfoldable pub laid_out : List ℕ → Header → Bool
laid_out bytes h =
    leb 36 (length bytes) && eqb h.rows_off 36 && eqb h.strings_off (36 + 16 * h.rows)
    && eqb (h.strings_off + h.strings_len) (length bytes)

-- "For kind 1 the last three are 0." "a row is 16 bytes: .. an id (u32, then four zero bytes)".
unfoldable pub kind_laid_out : List ℕ → Header → Option Kind
kind_laid_out bytes h =
    let unigram = cond (eqb h.max_chars 0 && eqb h.prefix_off 0 && eqb h.prefix_len 0) (Some Unigram) None in
    let wordpiece = cond (every h.rows (λ i. eqb (word bytes (36 + 16 * i + 12)) 0)) (Some WordPiece) None in
    let other = cond (eqb h.kind 2) wordpiece None in
    cond (eqb h.kind 1) unigram other

-- the kind of a pack; "Anything else is 11": none
unfoldable pub kind_of : List ℕ → Option Kind
kind_of bytes =
    let h = header_of bytes in
    elim (laid_out bytes h) [ true ↦ kind_laid_out bytes h | false ↦ None ]

-- "its worth, a score (f64 bits) or an id"
unfoldable pub worth_at : Kind → List ℕ → ℕ → Worth
worth_at Unigram bytes at = score (of_pattern (word bytes at + 2 ^ 32 * word bytes (at + 4)))
worth_at WordPiece bytes at = id (word bytes at)

-- "A row is 16 bytes: offset, length, then its worth": the row at byte `at`
unfoldable pub row_at : Kind → List ℕ → ℕ → Row
row_at kind bytes at = record { off = word bytes at; len = word bytes (at + 4); worth = worth_at kind bytes (at + 8) }

-- the n rows from byte `at` on
unfoldable pub rows_from : Kind → List ℕ → ℕ → ℕ → List Row
rows_from kind bytes at zero = []
rows_from kind bytes at (suc n) = row_at kind bytes at ∷ rows_from kind bytes (at + 16) n

unfoldable pub rows_of : Kind → List ℕ → List Row
rows_of kind bytes = rows_from kind bytes 36 (header_of bytes).rows

unfoldable pub strings_of : List ℕ → List ℕ
strings_of bytes = drop (header_of bytes).strings_off bytes

unfoldable pub prefix_of : List ℕ → List ℕ
prefix_of bytes = span_of (strings_of bytes) (header_of bytes).prefix_off (header_of bytes).prefix_len
