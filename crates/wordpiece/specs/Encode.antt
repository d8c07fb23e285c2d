-- What `wordpiece::encode` promises. Definitions only; assumes nothing.
use Rattle.std.specs.Prelude.{ℕ, Bool, not, ◌||◌, List, ltb, length, Option, None, Result}
use Rattle.refusal.specs.declared.Fault.{Fault}
use Rattle.refusal.specs.declared.Fault.TheVariants as fault
use Rattle.refusal.specs.Sizes.{max_text, max_prefix, above}
use Rattle.refusal.specs.Refusal.{refuse, first}
use Rattle.refusal.specs.Coding.{Coded}
use Rattle.refusal.specs.Places.{overlay}
use Rattle.text.specs.Text.{text_fault, characters}
use Rattle.trie.specs.Trie.{Trie, id_of}
use Rattle.trie.specs.Sound.{sound}
use Rattle.wordpiece.specs.Pieces.{ids_of}

-- "For a text or word: 1, 8, 4 (the text, then the prefix), 10", by whether the parts are sound and how many id places are
-- lent. 10 is "fewer id places than characters".
unfoldable pub encode_fault : Bool → List ℕ → List ℕ → ℕ → Option Fault
encode_fault sound_parts prefix w places =
    refuse (above max_text (length w) || above max_prefix (length prefix)) fault.Size
    (refuse (not sound_parts) fault.Trie
    (first (text_fault w)
    (first (text_fault prefix)
    (refuse (ltb places (characters w)) fault.Ids None))))

-- What `encode` promises of its answer and of the lent id places, before and after. "Id places past the answer are unchanged,
-- also after a late miss."
abbrev pub Encoded : Trie → ℕ → ℕ → List ℕ → List ℕ → List ℕ → Result ℕ Fault → List ℕ → Type 0
Encoded t unknown max_chars prefix w before answer after =
    let ids = ids_of (id_of t) unknown max_chars prefix w in
    Coded (encode_fault (sound t) prefix w (length before)) ids (overlay ids before) before answer after
