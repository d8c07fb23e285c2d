-- A row list as it is lent: a column for each part of a row. Definitions only; assumes nothing.
use Rattle.std.specs.Prelude.{ℕ, zero, suc, Bool, false, not, ◌&&◌, ◌||◌, cond, List, [], ◌∷◌, eqb, length, get_or, Option}
use Rattle.doubles.specs.Double.{Double, plus_zero}
use Rattle.refusal.specs.declared.Fault.TheVariants as fault
use Rattle.refusal.specs.declared.Reason.{Reason}
use Rattle.refusal.specs.declared.Reason.TheVariants as reason
use Rattle.refusal.specs.Sizes.{max_rows, max_table, above}
use Rattle.refusal.specs.Refusal.{refuse}
use Rattle.rows.specs.declared.Kind.{Kind}
use Rattle.rows.specs.Rows.{Row, score, id, first_bad}

-- A place in each column for each row. `scored` says which kind of worth the row has: its score counts where it is true, else
-- its id.
pub record Columns : Type 0 where
  pub off : List ℕ
  pub len : List ℕ
  pub scored : List Bool
  pub score : List Double
  pub id : List ℕ

unfoldable pub row_at : Columns → ℕ → Row
row_at c i =
    record {
      off = get_or c.off i 0;
      len = get_or c.len i 0;
      worth = cond (get_or c.scored i false) (score (get_or c.score i plus_zero)) (id (get_or c.id i 0));
    }

-- the n rows from i on
unfoldable pub rows_from : Columns → ℕ → ℕ → List Row
rows_from c i zero = []
rows_from c i (suc n) = row_at c i ∷ rows_from c (suc i) n

unfoldable pub rows_of : Columns → List Row
rows_of c = rows_from c 0 (length c.off)

-- the columns are of one length
unfoldable pub level : Columns → Bool
level c =
    let n = length c.off in
    eqb (length c.len) n && eqb (length c.scored) n && eqb (length c.score) n && eqb (length c.id) n

-- 1: "rows, table above its limit"
abbrev pub too_large : ℕ → ℕ → Bool
too_large rows table = above max_rows rows || above max_table table

-- "Order for a build: 1, rows, 7": the first two. 1 is also "the lent lists of one row set differ in length".
unfoldable pub columns_fault : Kind → List ℕ → Columns → Option Reason
columns_fault kind tab c =
    refuse (too_large (length c.off) (length tab) || not (level c)) (reason.Call fault.Size) (first_bad kind tab 0 (rows_of c))
