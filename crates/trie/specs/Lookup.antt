-- Looking a string up, and what the call promises. Definitions only; assumes nothing.
use Rattle.std.specs.Prelude.{◌≡◌, ℕ, Bool, not, List, length, Option, None, Some, Result, Ok, Err}
use Rattle.refusal.specs.declared.Fault.{Fault}
use Rattle.refusal.specs.declared.Fault.TheVariants as fault
use Rattle.refusal.specs.Sizes.{max_text, above}
use Rattle.refusal.specs.Refusal.{refuse}
use Rattle.text.specs.Text.{text_fault}
use Rattle.trie.specs.Trie.{Trie, id_of}

-- "For a text or word: 1, 8, 4". The first argument says whether the parts are sound.
unfoldable pub lookup_fault : Bool → List ℕ → Option Fault
lookup_fault sound_parts s =
    refuse (above max_text (length s)) fault.Size
    (refuse (not sound_parts) fault.Trie (text_fault s))

-- the id, none, or the number
unfoldable pub lookup_answer : Option Fault → Option ℕ → Result (Option ℕ) Fault
lookup_answer None id = Ok id
lookup_answer (Some f) id = Err f

-- what a look-up of s in the parts t promises of its answer
pub record LookedUp (sound_parts : Bool) (t : Trie) (s : List ℕ) (answer : Result (Option ℕ) Fault) : Type 0 where
  pub answered : answer ≡ lookup_answer (lookup_fault sound_parts s) (id_of t s)
