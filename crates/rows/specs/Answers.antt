-- What the answers about rows say, and the columns of a row list as one value. Definitions only; assumes nothing.
use Rattle.rows.specs.declared.columns.Lists.{Lists}
use Rattle.std.specs.Prelude.{◌≡◌, ℕ, Bool, true, List, map, Float, length, replicate}
use Rattle.doubles.specs.Units.{units}
use Rattle.refusal.specs.Lent.{Lent, was}
use Rattle.rows.specs.Columns.{Columns}

-- the lent lists as columns
abbrev pub columns : List ℕ → List ℕ → List Bool → List Float → List ℕ → Columns
columns off len scored score id = record { off = off; len = len; scored = scored; score = map units score; id = id }

-- the same, of the lists as they are lent together
abbrev pub columns_in : Lists → Columns
columns_in lists = columns lists.off.now lists.len.now lists.scored.now lists.score.now lists.id.now

-- the lent lists where each row has a score for its worth
abbrev pub scored_columns : List ℕ → List ℕ → List Float → List ℕ → Columns
scored_columns off len score id = columns off len (replicate (length off) true) score id

abbrev pub scored_was : Lent ℕ → Lent ℕ → Lent Float → Lent ℕ → Columns
scored_was off len score id = scored_columns (was off) (was len) (was score) (was id)

-- the lists have one length
pub record Level (off len : List ℕ) (scored : List Bool) (score : List Float) (id : List ℕ) : Type 0 where
  pub len-level : length len ≡ length off
  pub scored-level : length scored ≡ length off
  pub score-level : length score ≡ length off
  pub id-level : length id ≡ length off
