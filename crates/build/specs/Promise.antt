-- What every build promises. A call says what it builds, the kind and the rows; what was found before the room is looked at;
-- whether a lent column is too short; and what it reports of the trie. Definitions only; assumes nothing.
use Rattle.std.specs.Prelude.{◌≡◌, Bool, List, [], ℕ, Option, None, Some, Result, Ok, Err}
use Rattle.doubles.specs.Double.{Double}
use Rattle.refusal.specs.declared.Fault.TheVariants as fault
use Rattle.refusal.specs.declared.Reason.{Reason}
use Rattle.refusal.specs.declared.Reason.TheVariants as reason
use Rattle.refusal.specs.Refusal.{refuse, first}
use Rattle.trie.specs.Trie.{Trie}
use Rattle.rows.specs.declared.Kind.{Kind}
use Rattle.rows.specs.declared.Kind.TheVariants.{Unigram, WordPiece}
use Rattle.rows.specs.Rows.{Row}
use Rattle.build.specs.Rules.{unigram_trie, unigram_scores, wordpiece_trie}
use Rattle.build.specs.Memory.{Memory, cleared, holding, leaves}

-- the parts of the trie of these rows, and its scores: a WordPiece trie has none
unfoldable pub trie_in : Kind → List ℕ → List Row → Trie
trie_in Unigram tab rows = unigram_trie tab rows
trie_in WordPiece tab rows = wordpiece_trie tab rows

unfoldable pub scores_in : Kind → List ℕ → List Row → List Double
scores_in Unigram tab rows = unigram_scores tab rows
scores_in WordPiece tab rows = []

-- "Order for a build: 1, rows, 7": what was found of the rows, and then whether a lent column is too short
unfoldable pub build_fault : Option Reason → Bool → Option Reason
build_fault judged short = first judged (refuse short (reason.Call fault.Room) None)

-- what an answer says: "An accepted build reports a summary", or the reason
unfoldable pub told_for : {A : Type 0} → Option Reason → A → Result A Reason
told_for None summary = Ok summary
told_for (Some r) summary = Err r

-- What a build promises of its answer and of the memory lent to it, before and after.
pub record Promised {A : Type 0} (kind : Kind) (tab : List ℕ) (rows : List Row) (judged : Option Reason) (short : Bool)
    (summary : A) (before : Memory) (answer : Result A Reason) (after : Memory) : Type 0 where
  pub answered : answer ≡ told_for (build_fault judged short) summary
  pub left :
      after
      ≡ leaves (build_fault judged short) (holding (trie_in kind tab rows) (scores_in kind tab rows) before) (cleared before)
      before
