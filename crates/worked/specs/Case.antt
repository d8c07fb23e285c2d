-- The paper's pack case: "strings `un##able`, rows (0,2) id 1 and (2,6) id 2, unknown 0, max_chars 100, prefix (2,2); 76 bytes.
-- Input lines `unable`, empty, `unx`". Definitions only; assumes nothing.
use Rattle.std.specs.Prelude.{ℕ}
use mathlib.Core.List.{List, [], ◌∷◌, ◌++◌, flat_map}
use Rattle.text.specs.Ascii.{ascii}

-- a word of the file, for one below 256: little-endian
abbrev pub word : ℕ → List ℕ
word n = n ∷ 0 ∷ 0 ∷ 0 ∷ []

unfoldable pub pack_bytes : List ℕ
pack_bytes =
    flat_map word (2 ∷ 2 ∷ 36 ∷ 68 ∷ 8 ∷ 0 ∷ 100 ∷ 2 ∷ 2 ∷ [])
    ++ flat_map word (0 ∷ 2 ∷ 1 ∷ 0 ∷ []) ++ flat_map word (2 ∷ 6 ∷ 2 ∷ 0 ∷ []) ++ ascii "un##able"

unfoldable pub input_bytes : List ℕ
input_bytes = ascii "unable\n\nunx\n"

unfoldable pub printed_bytes : List ℕ
printed_bytes = ascii "2 1 2\n0\n1 0\n"
