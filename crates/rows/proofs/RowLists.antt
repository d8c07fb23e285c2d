-- The rows of a row list, by their place, and what level columns say. Assumes nothing.
use mathlib.Core.Path.{◌≡◌, refl, sym, ap, ◌∙◌}
use mathlib.Core.Bool.{Bool, true, false, ◌&&◌}
use mathlib.Core.List.{List, [], ◌∷◌, map}
use Prim.Native.Nat.{ℕ, zero, suc, ◌+◌, ◌<◌}
use native.Mathlib.Omega.{arith}
use borrow.Author.Tests.{eqb-true}
use lib.Dec.{eqb}
use lib.Ieee.{Float, nan}
use lib.ListN.{length, get_or, length-map, get_or-map}
use Rattle.doubles.specs.Double.{plus_zero}
use Rattle.doubles.specs.Units.{units}
use Rattle.rows.specs.declared.Worth.TheVariants as code-worth-is
use Rattle.rows.specs.Rows.{Row, worth_is}
use Rattle.rows.specs.Columns.{Columns, row_at, rows_from, rows_of, level}
use Rattle.rows.specs.Answers.{columns, Level}

-- ---- the rows

pub from-length : (c : Columns) (i n : ℕ) → length (rows_from c i n) ≡ n
unfolding rows_from
from-length c i zero = refl
from-length c i (suc n) = ap suc (from-length c (suc i) n)

pub from_at : (c : Columns) (d : Row) (i n k : ℕ) → k < n → get_or (rows_from c i n) k d ≡ row_at c (i + k)
unfolding rows_from
from_at c d i zero k h = absurd (omega arith)
from_at c d i (suc n) zero h = let e : i + 0 ≡ i = omega arith in rw e
from_at c d i (suc n) (suc k) h = let e : suc i + k ≡ i + suc k = omega arith in from_at c d (suc i) n k (omega arith) ∙ ap (row_at c) e

-- as many rows as offsets
pub rows-length : (c : Columns) → length (rows_of c) ≡ length c.off
unfolding rows_of
rows-length c = from-length c 0 (length c.off)

-- the i-th of the rows is made of the i-th places of the columns
pub rows_at : (c : Columns) (d : Row) (i : ℕ) → i < length c.off → get_or (rows_of c) i d ≡ row_at c i
unfolding rows_of
rows_at c d i h = let e : 0 + i ≡ i = omega arith in from_at c d 0 (length c.off) i h ∙ ap (row_at c) e

-- ---- level columns

both : (a b : Bool) → (a && b) ≡ true → (a ≡ true) × (b ≡ true)
both true b e = (refl, e)
both false b e = (cc, cc)

module _ (c : Columns) (flat : level c ≡ true) where
  abbrev rows : ℕ
  rows = length c.off

  all : ((eqb (length c.len) rows && eqb (length c.scored) rows) && eqb (length c.score) rows ≡ true) × (eqb (length c.id) rows ≡ true)
  unfolding level
  all = both _ _ flat

  three : (eqb (length c.len) rows && eqb (length c.scored) rows ≡ true) × (eqb (length c.score) rows ≡ true)
  three = both _ _ all.0

  two : (eqb (length c.len) rows ≡ true) × (eqb (length c.scored) rows ≡ true)
  two = both _ _ three.0

  pub level-len : length c.len ≡ length c.off
  level-len = eqb-true _ _ two.0

  pub level-scored : length c.scored ≡ length c.off
  level-scored = eqb-true _ _ two.1

  pub level-score : length c.score ≡ length c.off
  level-score = eqb-true _ _ three.1

  pub level-id : length c.id ≡ length c.off
  level-id = eqb-true _ _ all.1

-- of the lent lists themselves
module _ (off len : List ℕ) (scored : List Bool) (score : List Float) (id : List ℕ) where
  pub lists-level : level (columns off len scored score id) ≡ true → Level off len scored score id
  lists-level e =
      let c = columns off len scored score id in
      record {
        len-level = level-len c e;
        scored-level = level-scored c e;
        score-level = sym (length-map score units) ∙ level-score c e;
        id-level = level-id c e;
      }
  -- where one of the four is unlike the offsets, the columns are not level

pub get_or-inside : {A : Type 0} (l : List A) (i : ℕ) (d e : A) → i < length l → get_or l i d ≡ get_or l i e
get_or-inside [] i d e h = absurd (omega arith)
get_or-inside (x ∷ l) zero d e h = refl
get_or-inside (x ∷ l) (suc i) d e h = get_or-inside l i d e (omega arith)

pub get_or-map-inside : {A B : Type 0} (f : A → B) (l : List A) (i : ℕ) (d : A) (e : B) → i < length l → get_or (map f l) i e ≡ f (get_or l i d)
get_or-map-inside f l i d e h =
    let k : length (map f l) ≡ length l = length-map l f in
    get_or-inside (map f l) i e (f d) (omega arith) ∙ get_or-map f l i d

-- ---- the row at i of lent lists of one length, as the code makes it

module _
    (off len : List ℕ) (scored : List Bool) (score : List Float) (id : List ℕ)
    (flat : Level off len scored score id) (i : ℕ) (h : i < length off)
  where
    pub worth-scored : get_or scored i false ≡ true → worth_is (code-worth-is.Score (get_or score i nan)) ≡ (row_at (columns off len scored score id) i).worth
    unfolding worth_is row_at
    worth-scored e =
        let g : get_or (map units score) i plus_zero ≡ units (get_or score i nan) =
        get_or-map-inside units score i nan plus_zero (omega (arith, flat.score-level)) in
        rw (e, g)

    pub worth-numbered : get_or scored i false ≡ false → worth_is (code-worth-is.Id (get_or id i 0)) ≡ (row_at (columns off len scored score id) i).worth
    unfolding worth_is row_at
    worth-numbered e = rw e
