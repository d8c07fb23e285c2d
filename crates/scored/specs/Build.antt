-- What `scored::build` promises: the promise of every build, of Unigram rows in columns. Definitions only; assumes nothing.
use Rattle.refusal.specs.declared.Reason.{Reason}
use Rattle.scored.specs.declared.Summary.{Summary}
use Rattle.std.specs.Prelude.{ℕ, List, Result, Ok, Err}
use Rattle.doubles.specs.Double.{Double}
use Rattle.doubles.specs.Units.{units}
use Rattle.rows.specs.declared.Kind.TheVariants as kind
use Rattle.rows.specs.Rows.{Row}
use Rattle.rows.specs.Columns.{Columns, rows_of, columns_fault}
use Rattle.rows.specs.Scores.{unknown_score}
use Rattle.build.specs.Rules.{scores_of}
use Rattle.build.specs.Checked.{nodes_of}
use Rattle.build.specs.Memory.{Memory, no_scored_room}
use Rattle.build.specs.Promise.{Promised}

-- "a summary: N and, for Unigram, the unknown score"
pub record Report : Type 0 where
  pub nodes : ℕ
  pub unknown : Double

abbrev pub report_of : List ℕ → List Row → Report
report_of tab rows = record { nodes = nodes_of tab rows; unknown = unknown_score (scores_of rows) }

unfoldable pub told : Result Summary Reason → Result Report Reason
told (Ok s) = Ok (record { nodes = s.nodes; unknown = units s.unknown_score })
told (Err r) = Err r

-- What `build` promises of its answer and of the memory lent to it, before and after.
abbrev pub Built : List ℕ → Columns → Memory → Result Summary Reason → Memory → Type 0
Built tab c before answer after =
    let rows = rows_of c in
    Promised kind.Unigram tab rows (columns_fault kind.Unigram tab c) (no_scored_room (nodes_of tab rows) before)
    (report_of tab rows) before (told answer) after
