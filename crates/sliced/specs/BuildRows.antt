-- What `sliced::build_rows` promises: as `scored::build`, over a slice of rows. Definitions only; assumes nothing.
use Rattle.scored.specs.declared.Summary.{Summary}
use Rattle.std.specs.Prelude.{◌≡◌, ℕ, Bool, ◌||◌, List, [], ◌∷◌, map, Float, length, Option, Result}
use Rattle.doubles.specs.Double.{Double}
use Rattle.doubles.specs.Units.{units}
use Rattle.refusal.specs.Lent.{LentMut, had, is}
use Rattle.refusal.specs.declared.Fault.TheVariants as fault
use Rattle.refusal.specs.declared.Reason.{Reason}
use Rattle.refusal.specs.declared.Reason.TheVariants as reason
use Rattle.refusal.specs.Refusal.{refuse}
use Rattle.refusal.specs.Places.{zeroed}
use Rattle.rows.specs.declared.Kind.TheVariants as kind
use Rattle.rows.specs.Rows.{Row, first_bad}
use Rattle.rows.specs.Columns.{too_large}
use Rattle.build.specs.Checked.{nodes_of}
use Rattle.build.specs.Memory.{Memory, any_below, no_scored_room, zero_scores, leaves}
use Rattle.build.specs.Promise.{build_fault, Promised}
use Rattle.scored.specs.Build.{report_of, told}

-- The columns that are lent for the rows: a place in each for each row.
pub record RowPlaces : Type 0 where
  pub off : List ℕ
  pub len : List ℕ
  pub score : List Double

abbrev pub row_places : List ℕ → List ℕ → List Float → RowPlaces
row_places off len score = record { off = off; len = len; score = map units score }

-- the same as a contract names the columns: as the call found them, and as it left them
abbrev pub places_was : LentMut ℕ → LentMut ℕ → LentMut Float → RowPlaces
places_was off len score = row_places (had off) (had len) (had score)

abbrev pub places_is : LentMut ℕ → LentMut ℕ → LentMut Float → RowPlaces
places_is off len score = row_places (is off) (is len) (is score)

-- every place zero
unfoldable pub zero_rows : RowPlaces → RowPlaces
zero_rows c = record { off = zeroed 0 c.off; len = zeroed 0 c.len; score = zero_scores c.score }

-- one of these columns has fewer than n places
unfoldable pub short_of : ℕ → RowPlaces → Bool
short_of n c = any_below n (length c.off ∷ length c.len ∷ length c.score ∷ [])

-- "Order for a build: 1, rows, 7": the first two. The rows are one list, so that no lists can differ in length.
unfoldable pub rows_judged : List ℕ → List Row → Option Reason
rows_judged tab rows =
    refuse (too_large (length rows) (length tab)) (reason.Call fault.Size) (first_bad kind.Unigram tab 0 rows)

-- A column that is lent for the rows is a lent column: too few places in it are 7 too, whatever N is.
abbrev pub short_for : ℕ → List ℕ → List Row → RowPlaces → Memory → Bool
short_for n tab rows lent m = short_of n lent || no_scored_room (nodes_of tab rows) m

-- What is promised of n rows, what was found of them being `judged`: the promise of every build. The places that are lent for
-- the rows end as work places do.
pub record PlacesBuilt (judged : Option Reason) (n : ℕ) (tab : List ℕ) (rows : List Row) (lent : RowPlaces)
    (before : Memory) (answer : Result Summary Reason) (lent_after : RowPlaces) (after : Memory) : Type 0 where
  pub built :
      Promised kind.Unigram tab rows judged (short_for n tab rows lent before) (report_of tab rows) before (told answer) after
  pub places :
      lent_after ≡ leaves (build_fault judged (short_for n tab rows lent before)) (zero_rows lent) (zero_rows lent) lent

-- What `build_rows` promises of its answer and of the memory lent to it, before and after.
abbrev pub RowsBuilt : List ℕ → List Row → RowPlaces → Memory → Result Summary Reason → RowPlaces → Memory → Type 0
RowsBuilt tab rows = PlacesBuilt (rows_judged tab rows) (length rows) tab rows
