-- The rows of a slice in lent columns, as steps of `build_rows` name them. Definitions only; assumes nothing.
use Rattle.std.specs.Prelude.{ℕ, true, List, map, Float, length, take, replicate}
use Rattle.rows.specs.Rows.{Row}
use Rattle.rows.specs.Columns.{Columns}
use Rattle.rows.specs.Answers.{columns}
use Rattle.build.specs.Rules.{score_of}

-- The first n places as the columns of a row list, each row with a score for its worth. A Unigram build looks at no id, so the
-- offsets stand in.
abbrev pub first_places : ℕ → List ℕ → List ℕ → List Float → Columns
first_places n off len score = columns (take n off) (take n len) (replicate n true) (take n score) (take n off)

-- the rows as such columns
unfoldable pub columns_for : List Row → Columns
columns_for rs =
    record {
      off = map (λ r. r.off) rs;
      len = map (λ r. r.len) rs;
      scored = replicate (length rs) true;
      score = map (λ r. score_of r.worth) rs;
      id = map (λ r. r.off) rs;
    }
