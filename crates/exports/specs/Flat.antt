-- Answers as numbers, for callers in other languages. Definitions only; assumes nothing.
use Rattle.unigram.specs.Work.{model_of}
use Rattle.unigram.specs.Pieces.{Model}
use Rattle.trie.specs.Trie.{Trie, parts_of}
use Rattle.std.specs.Borrow.{Bor}
use Rattle.refusal.specs.Lent.{Lent, was}
use Rattle.rows.specs.Answers.{columns}
use Rattle.rows.specs.Columns.{Columns}
use Rattle.std.specs.Prelude.{◌≡◌, ℕ, ◌+◌, ◌*◌, ◌^◌, cond, List, [], ◌∷◌, ltb, length, Bool, Float}
use Rattle.std.specs.Prelude.{Option, None, Some, Result, Ok, Err}
use Rattle.doubles.specs.Double.{Double}
use Rattle.refusal.specs.declared.Fault.{Fault}
use Rattle.refusal.specs.declared.Reason.{Reason}
use Rattle.refusal.specs.declared.Reason.TheVariants.{Call, Row}
use Rattle.refusal.specs.declared.Fault.TheVariants as fault
use Rattle.refusal.specs.Refusal.{number, refuse}
use Rattle.refusal.specs.Sizes.{max_text, no_id, above}
use Rattle.refusal.specs.Places.{overlay}
use Rattle.text.specs.Text.{text_fault}
use Rattle.scored.specs.Build.{Report}
use Rattle.pack.specs.Build as pack
use Rattle.output.specs.Output.{max_output, output}

-- the lent lists of one row set as columns
abbrev pub columns_was : Lent ℕ → Lent ℕ → Lent Bool → Lent Float → Lent ℕ → Columns
columns_was off len scored score id = columns (was off) (was len) (was scored) (was score) (was id)

-- the parts of a trie, as the call found the columns and in a `requires`
abbrev pub parts_was : Lent ℕ → Lent ℕ → Lent ℕ → Lent ℕ → Lent ℕ → Trie
parts_was edge_at edge_n id byte to = parts_of (was edge_at) (was edge_n) (was id) (was byte) (was to)

abbrev pub parts_now : Bor (List ℕ) → Bor (List ℕ) → Bor (List ℕ) → Bor (List ℕ) → Bor (List ℕ) → Trie
parts_now edge_at edge_n id byte to = parts_of edge_at.now edge_n.now id.now byte.now to.now

-- a model, likewise
abbrev pub model_was : Lent ℕ → Lent ℕ → Lent ℕ → Lent Float → Lent ℕ → Lent ℕ → ℕ → Float → Model
model_was edge_at edge_n id score byte to unknown unknown_score =
    model_of (was edge_at) (was edge_n) (was id) (was score) (was byte) (was to) unknown unknown_score

abbrev pub model_now :
    Bor (List ℕ) → Bor (List ℕ) → Bor (List ℕ) → Bor (List Float) → Bor (List ℕ) → Bor (List ℕ) → ℕ → Float → Model
model_now edge_at edge_n id score byte to unknown unknown_score =
    model_of edge_at.now edge_n.now id.now score.now byte.now to.now unknown unknown_score

-- What a call promises of what it says, `said`, where its answer is that as a number.
pub record As {A : Type 0} (number : A → ℕ) (Promise : A → Type 0) (answer : ℕ) : Type 0 where
  pub said : A
  pub promised : Promise said
  pub answered : answer ≡ number said

-- 0 where there is no fault, else the paper's number
abbrev pub status : Option Fault → ℕ
status None = 0
status (Some f) = number f

-- of a text by itself: 1, then 4
abbrev pub count_fault : List ℕ → Option Fault
count_fault s = refuse (above max_text (length s)) fault.Size (text_fault s)

-- a count, which is below 2 ^ 32; or 2 ^ 32 and the number of the fault
abbrev pub count_number : Option Fault → ℕ → ℕ
count_number None n = n
count_number (Some f) n = 2 ^ 32 + number f

-- a look-up: the id, which is below 2 ^ 32; 2 ^ 32 for none; or that and the number of the fault
abbrev pub lookup_number : Result (Option ℕ) Fault → ℕ
lookup_number (Ok (Some i)) = i
lookup_number (Ok None) = 2 ^ 32
lookup_number (Err f) = 2 ^ 32 + number f

-- how many ids; or 2 ^ 32 and the number of the fault
abbrev pub code_number : Result ℕ Fault → ℕ
code_number (Ok n) = n
code_number (Err f) = 2 ^ 32 + number f

-- ---- builds

-- why a build was refused: its number times 2 ^ 32, and the row, or 4,294,967,295 where there is none
abbrev pub reason_number : Reason → ℕ
reason_number (Call f) = number f * 2 ^ 32 + no_id
reason_number (Row f i) = number f * 2 ^ 32 + i

-- how many nodes, which is below 2 ^ 32; or why nothing was built
abbrev pub from_rows_number : Result ℕ Reason → ℕ
from_rows_number (Ok n) = n
from_rows_number (Err r) = reason_number r

-- what `build` tells: how many nodes, or why nothing was built
abbrev pub told_number : Result Report Reason → ℕ
told_number (Ok s) = s.nodes
told_number (Err r) = reason_number r

-- the places lent for the unknown score: the first has it, if there is one
abbrev pub with_first : Double → List Double → List Double
with_first x [] = []
with_first x (y ∷ ys) = x ∷ ys

abbrev pub told_score : Result Report Reason → List Double → List Double
told_score (Ok s) places = with_first s.unknown places
told_score (Err r) places = places

-- ---- packs

-- what a build from a pack tells: how many nodes, or why nothing was built. The rest of its answer stands in the pack's header.
abbrev pub pack_number : Result pack.Report Reason → ℕ
pack_number (Ok (pack.unigram n u x)) = n
pack_number (Ok (pack.wordpiece n u c off len)) = n
pack_number (Err r) = reason_number r

-- the places lent for the unknown score, which only a Unigram pack has
abbrev pub pack_score : Result pack.Report Reason → List Double → List Double
pack_score (Ok (pack.unigram n u x)) places = with_first x places
pack_score (Ok (pack.wordpiece n u c off len)) places = places
pack_score (Err r) places = places

-- what the program prints, over the first places of the buffer, and how many bytes; in a buffer that may be too short for some
-- output 2 ^ 32, and nothing is written
pub record PrintedAs (bytes input before : List ℕ) (answer : ℕ) (after : List ℕ) : Type 0 where
  pub answered : answer ≡ cond (ltb (length before) max_output) (2 ^ 32) (length (output bytes input))
  pub left : after ≡ cond (ltb (length before) max_output) before (overlay (output bytes input) before)
