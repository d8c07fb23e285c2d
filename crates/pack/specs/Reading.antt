-- What the code's header, layout and rows stand for, and what is known of a pack whose rows are read. Definitions only; assumes
-- nothing.
use Rattle.refusal.specs.declared.Reason.{Reason}
use Rattle.std.specs.Prelude.{◌≡◌, true, false, List, ℕ, ◌+◌, ◌*◌, ◌^◌, ◌≤◌, ◌<◌, length, take, None, Some, Result, Err, Ok}
use Rattle.doubles.specs.Double.{Double, is_finite, of_pattern}
use Rattle.refusal.specs.Sizes.{max_rows}
use Rattle.rows.specs.declared.Kind.{Kind}
use Rattle.rows.specs.declared.Kind.TheVariants.{Unigram, WordPiece}
use Rattle.rows.specs.Rows.{Row, Worth, score, id, worth_fault, row_fault}
use Rattle.build.specs.Held.{Enterable}
use Rattle.build.specs.Memory.{zero_scores}
use Rattle.build.specs.Rules.{scores_of}
use Rattle.scored.specs.NodeScores.{filled_scores}
use Rattle.pack.specs.declared.header.Header.{Header}
use Rattle.pack.specs.Pack.{header_of, kind_of, word, row_at, rows_of}
use Rattle.pack.specs.Build.{content_fault, pack_judged}

-- ---- one row

-- the double whose pattern stands at byte `at`
abbrev pub double_at : List ℕ → ℕ → Double
double_at bytes at = of_pattern (word bytes at + 2 ^ 32 * word bytes (at + 4))

-- x is read for the double d: d itself where it is finite, else something that is not finite either
pub record ScoreRead (x d : Double) : Type 0 where
  pub very : is_finite d ≡ true → x ≡ d
  pub endless : is_finite d ≡ false → is_finite x ≡ false

-- w is read for the worth v, which it is where v is fine; its fault is that of v in any case
pub record WorthRead (kind : Kind) (w v : Worth) : Type 0 where
  pub faults : worth_fault kind w ≡ worth_fault kind v
  pub very : worth_fault kind v ≡ None → w ≡ v

-- r is read for the row s, which it is where s is fine; its fault is that of s in any case, for every table
pub record RowRead (kind : Kind) (r s : Row) : Type 0 where
  pub faults : (tab : List ℕ) → row_fault kind tab r ≡ row_fault kind tab s
  pub very : (tab : List ℕ) → row_fault kind tab s ≡ None → r ≡ s

-- ---- the rows

-- where row i begins
abbrev pub row_start : ℕ → ℕ
row_start i = 36 + 16 * i

-- n rows stand in the file, and none has a fault
pub record FineRows (kind : Kind) (bytes strings : List ℕ) (n : ℕ) : Type 0 where
  pub few : n ≤ max_rows
  pub inside : row_start n ≤ length bytes
  pub fine : (i : ℕ) → i < n → row_fault kind strings (row_at kind bytes (row_start i)) ≡ None

-- n rows stand in the file, and each has a finite score
pub record FiniteRows (bytes : List ℕ) (n : ℕ) : Type 0 where
  pub few : n ≤ max_rows
  pub inside : row_start n ≤ length bytes
  pub finite : (i : ℕ) → i < n → is_finite (double_at bytes (row_start i + 8)) ≡ true

-- the id that row i with this worth gives its token: its index for a score, else its own
abbrev pub value_in : ℕ → Worth → ℕ
value_in i (score x) = i
value_in i (id v) = v

-- row i is fine and may be entered
pub record RowReady (kind : Kind) (bytes strings edge_n id work : List ℕ) (room n i : ℕ) : Type 0 where
  pub small : i < max_rows
  pub inside : row_start i + 16 ≤ length bytes
  pub fine : row_fault kind strings (row_at kind bytes (row_start i)) ≡ None
  pub enterable : Enterable edge_n id work room 0 n

-- ---- what is found

-- nothing is wrong with the pack: only the room may be too little
pub record PackFine (bytes : List ℕ) (kind : Kind) (h : Header) : Type 0 where
  pub header : h ≡ header_of bytes
  pub laid : kind_of bytes ≡ Some kind
  pub fine : content_fault kind bytes ≡ None

-- what was found before the room is looked at
abbrev pub FoundIs : List ℕ → Result (Kind × Header) Reason → Type 0
FoundIs bytes (Err r) = pack_judged bytes ≡ Some r
FoundIs bytes (Ok (kind, h)) = PackFine bytes kind h

-- ---- the score column

-- what the score column holds once the trie of n nodes stands, whose ids are these: for Unigram its nodes' scores, and zeros
-- behind them
pub record ScoresLeft (bytes : List ℕ) (kind : Kind) (ids : List ℕ) (n : ℕ) (before after : List Double) : Type 0 where
  pub scored : kind ≡ Unigram → after ≡ filled_scores (scores_of (rows_of Unigram bytes)) (take n ids) before
  pub bare : kind ≡ WordPiece → after ≡ zero_scores before
