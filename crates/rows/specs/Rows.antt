-- Rows, and the first bad one. Definitions only; assumes nothing.
use Rattle.std.specs.Prelude.{ℕ, suc, not, List, [], ◌∷◌, eqb, Option, None, Some}
use Rattle.doubles.specs.Double.{Double, is_finite}
use Rattle.doubles.specs.Units.{units}
use Rattle.refusal.specs.declared.Fault.{Fault}
use Rattle.refusal.specs.declared.Fault.TheVariants as fault
use Rattle.refusal.specs.declared.Reason.{Reason}
use Rattle.refusal.specs.declared.Reason.TheVariants as reason
use Rattle.refusal.specs.Sizes.{max_token, no_id, above}
use Rattle.refusal.specs.Refusal.{refuse, first}
use Rattle.text.specs.Text.{text_fault}
use Rattle.text.specs.Span.{span_of, outside}
use Rattle.rows.specs.declared.Kind.{Kind}
use Rattle.rows.specs.declared.Kind.TheVariants.{Unigram, WordPiece}
use Rattle.rows.specs.declared.Worth as code-worth
use Rattle.rows.specs.declared.Worth.TheVariants as code-worth-is
use Rattle.rows.specs.declared.Row as code_row

-- "its worth, a score or an id"
pub data Worth : Type 0 where
  score : Double → Worth
  id : ℕ → Worth

-- a row: where its token stands in the string table, and its worth
pub record Row : Type 0 where
  pub off : ℕ
  pub len : ℕ
  pub worth : Worth

-- what the code's `Worth` and `Row` stand for
unfoldable pub worth_is : code-worth.Worth → Worth
worth_is (code-worth-is.Score x) = score (units x)
worth_is (code-worth-is.Id i) = id i

unfoldable pub row_is : code_row.Row → Row
row_is r = record { off = r.off; len = r.len; worth = worth_is r.worth }

-- the token of a row
abbrev pub token_of : List ℕ → Row → List ℕ
token_of tab r = span_of tab r.off r.len

-- 5: "a Unigram row's worth is no score, or a NaN or an infinity"; 6: "a WordPiece row's worth is no id, or the id
-- 4,294,967,295"
unfoldable pub worth_fault : Kind → Worth → Option Fault
worth_fault Unigram (score x) = refuse (not (is_finite x)) fault.Score None
worth_fault Unigram (id i) = Some fault.Score
worth_fault WordPiece (score x) = Some fault.Id
worth_fault WordPiece (id i) = refuse (eqb i no_id) fault.Id None

-- one row: "tested in the order 2, 3, 4, then 5 or 6"
unfoldable pub row_fault : Kind → List ℕ → Row → Option Fault
row_fault kind tab r =
    refuse (outside tab r.off r.len) fault.Span
    (refuse (above max_token r.len) fault.Token
    (first (text_fault (token_of tab r)) (worth_fault kind r.worth)))

-- "the first bad row", the first of these rows being row i
unfoldable pub first_bad : Kind → List ℕ → ℕ → List Row → Option Reason
first_bad kind tab i [] = None
first_bad kind tab i (r ∷ rs) =
    elim (row_fault kind tab r) [ Some f ↦ Some (reason.Row f i) | None ↦ first_bad kind tab (suc i) rs ]
