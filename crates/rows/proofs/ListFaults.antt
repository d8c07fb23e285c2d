-- A row list as a whole: 1 for its sizes, then the first bad row. A list without a fault is within its sizes and each of its
-- rows is fine, so its tokens are short text inside the table and its worths are finite scores, or real ids. Assumes nothing.
use Rattle.std.specs.Prelude.{Option, None, Some}
use mathlib.Core.Path.{◌≡◌, refl, sym, ap, ◌∙◌}
use mathlib.Core.Bool.{Bool, true, false, not, ◌||◌, cond}
use mathlib.Core.List.{List}
use mathlib.Core.Logic.{◌↔◌}
use Prim.Native.Nat.{ℕ, ◌+◌, ◌≤◌, ◌<◌}
use native.Mathlib.Omega.{arith}
use borrow.Author.Tests.{lt-ltb, le-ltb, ltb-false, not-false}
use lib.ListN.{length, get_or, replicate, length-replicate, get_or-replicate}
use lib.Seq.{ext_get_or}
use Rattle.doubles.specs.Double.{Double, plus_zero, is_finite}
use Rattle.refusal.specs.declared.Fault.TheVariants as fault
use Rattle.refusal.specs.declared.Reason.{Reason}
use Rattle.refusal.specs.declared.Reason.TheVariants as reason
use Rattle.refusal.specs.Sizes.{max_rows, max_table, no_id, above}
use Rattle.refusal.specs.Refusal.{refuse}
use Rattle.rows.specs.declared.Kind.{Kind}
use Rattle.rows.specs.declared.Kind.TheVariants.{Unigram, WordPiece}
use Rattle.rows.specs.Rows.{score, id, row_fault, first_bad}
use Rattle.rows.specs.Columns.{Columns, row_at, rows_of, too_large, level, columns_fault}
use Rattle.refusal.proofs.Tests.{or_left, or_right, neither, neither-says, passed, found, not_found}
use Rattle.rows.proofs.RowFaults.{fine-inside, fine-worth, fine-score, fine-id}
use Rattle.rows.proofs.RowLists.{rows-length, rows_at, level-scored}
use Rattle.rows.proofs.FirstBad.{none-bad-says, none-bad-found}

-- ---- which fault

-- too many rows decide, and else the table
module _ (rows table : ℕ) where
  pub many-rows : max_rows < rows → true ≡ too_large rows table
  many-rows h = sym (or_left (above max_rows rows) (above max_table table) (lt-ltb max_rows rows h))

  pub by-table : rows ≤ max_rows → above max_table table ≡ too_large rows table
  by-table h = sym (ap (λ (b : Bool). b || above max_table table) (le-ltb max_rows rows h))

-- as many rows and as large a table as there may be
pub within-limits : (rows table : ℕ) → too_large rows table ≡ false → (rows ≤ max_rows) × (table ≤ max_table)
within-limits rows table e =
    let two = neither-says (above max_rows rows) (above max_table table) e in
    (ltb-false max_rows rows two.0, ltb-false max_table table two.1)

module _ (kind : Kind) (tab : List ℕ) (c : Columns) where
  -- the tests of the sizes, and what is left once they find nothing
  abbrev pub large : Bool
  large = too_large (length c.off) (length tab)

  abbrev pub size : Bool
  size = large || not (level c)

  abbrev pub rows_left : Option Reason
  rows_left = first_bad kind tab 0 (rows_of c)

  pub sizes-first : columns_fault kind tab c ≡ refuse size (reason.Call fault.Size) rows_left
  unfolding columns_fault
  sizes-first = refl

  pub too_large_found : large ≡ true → columns_fault kind tab c ≡ Some (reason.Call fault.Size)
  too_large_found e = sizes-first ∙ found size _ _ (or_left large (not (level c)) e)

  pub uneven : level c ≡ false → columns_fault kind tab c ≡ Some (reason.Call fault.Size)
  uneven e = sizes-first ∙ found size _ _ (or_right large (not (level c)) (ap not e))

  pub within-sizes : large ≡ false → level c ≡ true → columns_fault kind tab c ≡ first_bad kind tab 0 (rows_of c)
  within-sizes l e = sizes-first ∙ not_found size _ _ (neither large (not (level c)) l (ap not e))

-- ---- what a list without a fault says

-- the list is within its sizes
pub record Sized (tab : List ℕ) (c : Columns) : Type 0 where
  pub few : length c.off ≤ max_rows
  pub small : length tab ≤ max_table
  pub flat : level c ≡ true

-- the list is within its sizes, and no row has a fault
pub record AllFine (kind : Kind) (tab : List ℕ) (c : Columns) : Type 0 where
  pub sized : Sized tab c
  pub row : (i : ℕ) → i < length c.off → row_fault kind tab (row_at c i) ≡ None

module _ (kind : Kind) (tab : List ℕ) (c : Columns) where
  -- past the tests of the sizes
  pub unsized : size kind tab c ≡ false → Sized tab c
  unsized e =
      let both = neither-says (large kind tab c) (not (level c)) e in
      let two = within-limits (length c.off) (length tab) both.0 in
      record { few = two.0; small = two.1; flat = not-false (level c) both.1 }

  pub within : Sized tab c → columns_fault kind tab c ≡ first_bad kind tab 0 (rows_of c)
  within s =
      let r = le-ltb max_rows (length c.off) s.few in
      let t = le-ltb max_table (length tab) s.small in
      within-sizes kind tab c (neither (above max_rows (length c.off)) (above max_table (length tab)) r t) s.flat

  row_fine : first_bad kind tab 0 (rows_of c) ≡ None → (i : ℕ) → i < length c.off → row_fault kind tab (row_at c i) ≡ None
  row_fine e i h =
      ap (row_fault kind tab) (sym (rows_at c (row_at c i) i h))
      ∙ none-bad-says kind tab (row_at c i) 0 (rows_of c) e i (omega (arith, rows-length c))

  pub none-says : columns_fault kind tab c ≡ None → AllFine kind tab c
  none-says e =
      let p = passed _ _ _ (sym (sizes-first kind tab c) ∙ e) in
      record { sized = unsized p.0; row = row_fine p.1 }

  pub none_found : AllFine kind tab c → columns_fault kind tab c ≡ None
  none_found a =
      within a.sized
      ∙ none-bad-found kind tab (row_at c 0) 0 (rows_of c)
      (λ k h.
      let inside : k < length c.off = omega (arith, rows-length c) in
      ap (row_fault kind tab) (rows_at c (row_at c 0) k inside) ∙ a.row k inside)

  -- no fault exactly where the sizes and all rows are fine
  pub none-exactly : (columns_fault kind tab c ≡ None) ↔ AllFine kind tab c
  none-exactly = (none-says, none_found)

  module _ (fine : columns_fault kind tab c ≡ None) where
    pub rows_few : length c.off ≤ max_rows
    rows_few = (none-says fine).sized.few

    pub columns-level : level c ≡ true
    columns-level = (none-says fine).sized.flat

    module _ (i : ℕ) (h : i < length c.off) where
      pub row-has-none : row_fault kind tab (row_at c i) ≡ None
      row-has-none = (none-says fine).row i h

      -- its token's span lies inside the table
      pub row_inside : get_or c.off i 0 + get_or c.len i 0 ≤ length tab
      unfolding row_at
      row_inside = fine-inside kind tab (row_at c i) row-has-none

-- a worth picked by a bool that is a score, or an id
picked-score : (t : Bool) (x : Double) (n : ℕ) (y : Double) → cond t (score x) (id n) ≡ score y → (t ≡ true) × (x ≡ y)
picked-score true x n y e = (refl, cc)
picked-score false x n y e = (cc, cc)

picked-id : (t : Bool) (x : Double) (n : ℕ) (m : ℕ) → cond t (score x) (id n) ≡ id m → (t ≡ false) × (n ≡ m)
picked-id true x n m e = (cc, cc)
picked-id false x n m e = (refl, cc)

module _ (tab : List ℕ) (c : Columns) (i : ℕ) (h : i < length c.off) where
  -- a Unigram row has a finite score
  module _ (fine : columns_fault Unigram tab c ≡ None) where
    unigram-worth : (get_or c.scored i false ≡ true) × (is_finite (get_or c.score i plus_zero) ≡ true)
    unfolding row_at
    unigram-worth =
        let w = fine-score (row_at c i).worth (fine-worth Unigram tab (row_at c i) (row-has-none Unigram tab c fine i h)) in
        let p = picked-score (get_or c.scored i false) (get_or c.score i plus_zero) (get_or c.id i 0) w.0 w.1 in
        (p.0, ap is_finite p.1 ∙ w.2)

    pub unigram-scored : get_or c.scored i false ≡ true
    unigram-scored = unigram-worth.0

    pub unigram-row : (row_at c i).worth ≡ score (get_or c.score i plus_zero)
    unfolding row_at
    unigram-row = rw unigram-scored

  -- a WordPiece row has an id that is not the mark for none
  module _ (fine : columns_fault WordPiece tab c ≡ None) where
    wordpiece-worth : (get_or c.scored i false ≡ false) × (get_or c.id i 0 ≡ no_id → ⊥)
    unfolding row_at
    wordpiece-worth =
        let w = fine-id (row_at c i).worth (fine-worth WordPiece tab (row_at c i) (row-has-none WordPiece tab c fine i h)) in
        let p = picked-id (get_or c.scored i false) (get_or c.score i plus_zero) (get_or c.id i 0) w.0 w.1 in
        (p.0, λ e. w.2 (sym p.1 ∙ e))

    pub wordpiece-numbered : get_or c.scored i false ≡ false
    wordpiece-numbered = wordpiece-worth.0

-- so the column of kinds of a Unigram list without a fault says of every row that it has a score
pub all-scored : (tab : List ℕ) (c : Columns) → columns_fault Unigram tab c ≡ None → c.scored ≡ replicate (length c.off) true
all-scored tab c fine =
    let n = length c.off in
    let long = level-scored c (columns-level Unigram tab c fine) in
    ext_get_or false c.scored (replicate n true) (long ∙ sym (length-replicate n true))
    (λ i h. let k : i < n = omega (arith, long) in unigram-scored tab c i k fine ∙ sym (get_or-replicate n i true false k))

-- ---- what it says of the lent lists
