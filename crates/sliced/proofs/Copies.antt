-- The promise of `build_rows`, from what its steps promise. Rows without a fault that stand in the first places of the columns
-- are the rows of these, so that what is built from them is what the rows ask for; where there is a fault or too little room,
-- nothing is built. `rows-built` has all three. Assumes nothing.
use Rattle.scored.specs.declared.Summary.{Summary}
use Rattle.std.specs.Prelude.{Option, None, Some, Result, Err, ℕ}
use Rattle.std.proofs.lemmas.Bool.Decides.{nat_tests}
use Rattle.std.proofs.lemmas.List.{map_more, take-map, take_more_set}
use mathlib.Core.Path.{◌≡◌, refl, sym, ap, ◌∙◌, subst}
use mathlib.Core.Bool.{Bool, true, false, ◌||◌, cond}
use mathlib.Core.List.{List, [], ◌∷◌, ◌++◌, map}
use Prim.Native.Nat.{ℕ, ◌+◌, ◌≤◌, ◌<◌}
use native.Mathlib.Omega.{arith}
use borrow.Author.Tests.{eq-eqb}
use lib.Dec.{eqb}
use lib.Ieee.{Float}
use lib.ListN.{length, get_or, set, take, replicate, length-map, length-replicate, get_or-map, get_or-replicate}
use lib.Seq.{ext_get_or, length-take-le}
use Rattle.refusal.proofs.Lists.{zero_one, map-set}
use Rattle.doubles.specs.Double.{Double, plus_zero}
use Rattle.doubles.specs.Units.{units}
use Rattle.refusal.specs.declared.Fault.TheVariants as fault
use Rattle.refusal.specs.declared.Reason.{Reason}
use Rattle.refusal.specs.declared.Reason.TheVariants as reason
use Rattle.refusal.specs.Refusal.{number_of, refuse}
use Rattle.refusal.specs.Places.{zeroed}
use Rattle.refusal.proofs.Tests.{passed}
use Rattle.rows.specs.declared.Kind.TheVariants.{Unigram}
use Rattle.rows.specs.declared.Row as code_row
use Rattle.rows.specs.Rows.{Row, Worth, score, id, row_is, worth_is, worth_fault, first_bad}
use Rattle.rows.specs.Columns.{Columns, row_at, rows_of, too_large, level, columns_fault}
use Rattle.rows.proofs.FirstBad.{none-bad-says}
use Rattle.rows.proofs.RowFaults.{fine-worth}
use Rattle.rows.proofs.NeverRoom.{bad-not-room, sized-not-room}
use Rattle.rows.proofs.RowLists.{rows-length, rows_at, get_or-map-inside}
use Rattle.rows.proofs.ListFaults.{within-sizes}
use Rattle.build.specs.Rules.{score_of}
use Rattle.build.specs.Checked.{nodes_of}
use Rattle.build.specs.Memory.{Memory, any_below, no_scored_room, cleared, zero_scores, leaves}
use Rattle.build.specs.Promise.{build_fault, Promised}
use Rattle.build.proofs.Promises.{fault-found, fault-left, built-bad, built-short}
use Rattle.scored.specs.Build.{report_of, told, Built}
use Rattle.sliced.specs.BuildRows.{RowPlaces, row_places, zero_rows, short_of, rows_judged, short_for, RowsBuilt}
use Rattle.sliced.specs.Copied.{first_places, columns_for}

-- ---- room for the rows

pub all_hold : (n : ℕ) (off len : List ℕ) (scores : List Float) → false ≡ short_of n (row_places off len scores) → (n ≤ length off) × (n ≤ length len) × (n ≤ length scores)
unfolding short_of any_below
all_hold n off len scores e =
    let s = length-map scores units in
    (grind (arith, nat_tests), grind (arith, nat_tests), grind (arith, nat_tests))

-- ---- every place zero

pub rows-cleared :
    (off len : List ℕ) (scores s : List Float) {o l : List ℕ} → o ≡ zeroed 0 off → l ≡ zeroed 0 len → map units s ≡ zero_scores (map units scores)
    → row_places o l s ≡ zero_rows (row_places off len scores)
unfolding zero_rows
rows-cleared off len scores s p q r = λ i. record { off = p i; len = q i; score = r i }

-- in columns of the same lengths
pub same-zeros :
    (off len off₁ len₁ : List ℕ) (scores scores₁ : List Float)
    → length off₁ ≡ length off → length len₁ ≡ length len → length scores₁ ≡ length scores
    → zero_rows (row_places off₁ len₁ scores₁) ≡ zero_rows (row_places off len scores)
unfolding zero_rows
same-zeros off len off₁ len₁ scores scores₁ p q r =
    let s = length-map scores₁ units ∙ r ∙ sym (length-map scores units) in
    λ i. record { off = replicate (p i) 0; len = replicate (q i) 0; score = replicate (s i) plus_zero }

-- ---- rows put in the first places

column-more :
    {A B : Type 0} (f : A → B) (l : List B) (xs : List A) (i : ℕ) (d : A) {v : B} → i < length l → i < length xs → v ≡ f (get_or xs i d)
    → take i l ≡ map f (take i xs) → take (i + 1) (set l i v) ≡ map f (take (i + 1) xs)
column-more f l xs i d {v = v} inside there e p =
    take_more_set l i v inside ∙ (λ k. p k ++ (e k ∷ [])) ∙ sym (map_more f xs i d there)

module _ (off len : List ℕ) (scores : List Float) (rows : List code_row.Row) where
  pub put-start : first_places 0 off len scores ≡ columns_for (take 0 (map row_is rows))
  unfolding columns_for
  put-start = refl

  module _ (i : ℕ) (d : code_row.Row) (x : Float) where
    abbrev here : code_row.Row
    here = get_or rows i d

    pub put-more :
        i < length off → i < length len → i < length scores → i < length rows → units x ≡ score_of (worth_is here.worth)
        → first_places i off len scores ≡ columns_for (take i (map row_is rows))
        → first_places (i + 1) (set off i here.off) (set len i here.len) (set scores i x) ≡ columns_for (take (i + 1) (map row_is rows))
    unfolding columns_for row_is
    put-more h₁ h₂ h₃ h e p =
        let rs = map row_is rows in
        let there : i < length rs = omega (arith, length-map rows row_is) in
        let is : row_is here ≡ get_or rs i (row_is d) = sym (get_or-map row_is rows i d) in
        let long : i < length (map units scores) = omega (arith, length-map scores units) in
        let a = column-more (λ (r : Row). r.off) off rs i (row_is d) h₁ there (ap (λ (r : Row). r.off) is) (ap (λ (c : Columns). c.off) p) in
        let b = column-more (λ (r : Row). r.len) len rs i (row_is d) h₂ there (ap (λ (r : Row). r.len) is) (ap (λ (c : Columns). c.len) p) in
        let s : map units (take (i + 1) (set scores i x)) ≡ map (λ (r : Row). score_of r.worth) (take (i + 1) rs) =
        sym (take-map units (i + 1) (set scores i x)) ∙ ap (take (i + 1)) (map-set units scores i x)
        ∙ column-more (λ (r : Row). score_of r.worth) (map units scores) rs i (row_is d) long there
        (e ∙ ap (λ (r : Row). score_of r.worth) is) (take-map units i scores ∙ ap (λ (c : Columns). c.score) p) in
        let n : i + 1 ≡ length (take (i + 1) rs) = sym (length-take-le (i + 1) rs (omega arith)) in
        λ k. record { off = a k; len = b k; scored = replicate (n k) true; score = s k; id = a k }

-- ---- rows without a fault

worth-scored : (w : Worth) → worth_fault Unigram w ≡ None → score (score_of w) ≡ w
unfolding worth_fault score_of
worth-scored (score x) e = refl
worth-scored (id i) e = absurd (zero_one cc)

no_row : Row
no_row = record { off = 0; len = 0; worth = id 0 }

module _ (tab : List ℕ) (rs : List Row) (fine : rows_judged tab rs ≡ None) where
  sizes : (too_large (length rs) (length tab) ≡ false) × (first_bad Unigram tab 0 rs ≡ None)
  unfolding rows_judged
  sizes = passed (too_large (length rs) (length tab)) (reason.Call fault.Size) (first_bad Unigram tab 0 rs) fine

  scored : (i : ℕ) → i < length rs → score (score_of (get_or rs i no_row).worth) ≡ (get_or rs i no_row).worth
  scored i h =
      let fine = none-bad-says Unigram tab no_row 0 rs sizes.1 i h in
      worth-scored (get_or rs i no_row).worth (fine-worth Unigram tab (get_or rs i no_row) fine)

  row_same : (i : ℕ) → i < length rs → row_at (columns_for rs) i ≡ get_or rs i no_row
  unfolding columns_for row_at
  row_same i h =
      let a = get_or-map-inside (λ (r : Row). r.off) rs i no_row 0 h in
      let b = get_or-map-inside (λ (r : Row). r.len) rs i no_row 0 h in
      let c = get_or-map-inside (λ (r : Row). score_of r.worth) rs i no_row plus_zero h in
      let d : get_or (replicate (length rs) true) i false ≡ true = get_or-replicate (length rs) i true false h in
      let w : cond (get_or (replicate (length rs) true) i false) (score (get_or (map (λ (r : Row). score_of r.worth) rs) i plus_zero)) (id (get_or (map (λ (r : Row). r.off) rs) i 0)) ≡ (get_or rs i no_row).worth =
      ap (λ (t : Bool). cond t (score (get_or (map (λ (r : Row). score_of r.worth) rs) i plus_zero)) (id (get_or (map (λ (r : Row). r.off) rs) i 0))) d
      ∙ ap (λ (x : Double). score x) c ∙ scored i h in
      λ k. record { off = a k; len = b k; worth = w k }

  -- the rows of their columns are the rows
  rows_are : rows_of (columns_for rs) ≡ rs
  unfolding columns_for
  rows_are =
      let long : length (rows_of (columns_for rs)) ≡ length rs = rows-length (columns_for rs) ∙ length-map rs (λ r. r.off) in
      ext_get_or no_row (rows_of (columns_for rs)) rs long (λ i h. rows_at (columns_for rs) no_row i (omega (arith, length-map rs (λ r. r.off), long)) ∙ row_same i (omega (arith, long)))

  flat : level (columns_for rs) ≡ true
  unfolding level columns_for
  flat = simp (length-map, length-replicate, eq-eqb (length rs) (length rs) refl)

  -- and these have no fault
  columns-fine : columns_fault Unigram tab (columns_for rs) ≡ None
  unfolding columns_for
  columns-fine =
      within-sizes Unigram tab (columns_for rs) (ap (λ (k : ℕ). too_large k (length tab)) (length-map rs (λ (r : Row). r.off)) ∙ sizes.0) flat
      ∙ ap (first_bad Unigram tab 0) rows_are
      ∙ sizes.1

-- nor have columns that are those
pub put-fine : (tab : List ℕ) (rs : List Row) {c : Columns} → None ≡ rows_judged tab rs → c ≡ columns_for rs → columns_fault Unigram tab c ≡ None
put-fine tab rs fine put = ap (columns_fault Unigram tab) put ∙ columns-fine tab rs (sym fine)

-- no fault of rows is 7
judged-number : (tab : List ℕ) (rs : List Row) (r : Reason) → rows_judged tab rs ≡ Some r → eqb (number_of r) 7 ≡ false
unfolding rows_judged
judged-number tab rs r e = sized-not-room _ _ (bad-not-room Unigram tab 0 rs) e

-- after success and after 7 the zeros stand
zeros : {A : Type 0} (none_left before : A) (t : Bool) → none_left ≡ leaves (refuse t (reason.Call fault.Room) None) none_left none_left before
unfolding leaves refuse
zeros none_left before true = refl
zeros none_left before false = refl

-- ---- the promise, in each case

-- What the steps come to: a fault of the rows; too few places for them; or a build of columns that hold them. The answer, the
-- places lent for the rows and the memory are then as said.
pub data Stepped (tab : List ℕ) (rows : List code_row.Row) (lent : RowPlaces) (m : Memory) :
    Result Summary Reason → RowPlaces → Memory → Type 0 where
  bad_row : {r : Reason} → Some r ≡ rows_judged tab (map row_is rows) → Stepped tab rows lent m (Err r) lent m
  few_places :
      {answer : Result Summary Reason} {lent_after : RowPlaces} {after : Memory} → None ≡ rows_judged tab (map row_is rows)
      → true ≡ short_of (length rows) lent → answer ≡ Err (reason.Call fault.Room) → lent_after ≡ zero_rows lent → after ≡ cleared m
      → Stepped tab rows lent m answer lent_after after
  put_rows :
      (c : Columns) {answer : Result Summary Reason} {lent_after : RowPlaces} {after : Memory} → None ≡ rows_judged tab (map row_is rows)
      → false ≡ short_of (length rows) lent → c ≡ columns_for (map row_is rows) → Built tab c m answer after → lent_after ≡ zero_rows lent
      → Stepped tab rows lent m answer lent_after after

module _ (tab : List ℕ) (rows : List code_row.Row) (lent : RowPlaces) (m : Memory) where
  abbrev rs : List Row
  rs = map row_is rows

  abbrev short : Bool
  short = short_for (length rs) tab rs lent m

  -- the rows and what they stand for are as many
  short-rows : {t : Bool} → t ≡ short_of (length rows) lent → short ≡ (t || no_scored_room (nodes_of tab rs) m)
  short-rows e = ap (λ (t : Bool). t || no_scored_room (nodes_of tab rs) m) (ap (λ (n : ℕ). short_of n lent) (length-map rows row_is) ∙ sym e)

  zeros-left : rows_judged tab rs ≡ None → zero_rows lent ≡ leaves (build_fault (rows_judged tab rs) short) (zero_rows lent) (zero_rows lent) lent
  zeros-left e =
      zeros (zero_rows lent) lent short
      ∙ sym (ap (λ (f : Option Reason). leaves f (zero_rows lent) (zero_rows lent) lent) (fault-left (rows_judged tab rs) short e refl))

  -- a fault of the rows: nothing is written
  pub rows-bad : {r : Reason} → Some r ≡ rows_judged tab rs → RowsBuilt tab rs lent m (Err r) lent m
  unfolding told leaves
  rows-bad {r = r} found =
      let e = sym found in
      let p = judged-number tab rs r e in
      record {
        built = built-bad Unigram tab rs (report_of tab rs) m e p;
        places =
            sym
            (ap (λ (f : Option Reason). leaves f (zero_rows lent) (zero_rows lent) lent) (fault-found (rows_judged tab rs) short e)
            ∙ ap (λ (b : Bool). cond b (zero_rows lent) lent) p);
      }

  -- no fault, and too few places for the rows
  pub rows-short :
      {answer : Result Summary Reason} {lent_after : RowPlaces} {after : Memory} → None ≡ rows_judged tab rs → true ≡ short_of (length rows) lent
      → answer ≡ Err (reason.Call fault.Room) → lent_after ≡ zero_rows lent → after ≡ cleared m → RowsBuilt tab rs lent m answer lent_after after
  unfolding told
  rows-short {after = after} fine p a l k =
      let e = sym fine in
      record {
        built =
            subst (λ (x : Result Summary Reason). Promised Unigram tab rs (rows_judged tab rs) short (report_of tab rs) m (told x) after) (sym a)
            (built-short Unigram tab rs (report_of tab rs) m e (short-rows p) k);
        places = l ∙ zeros-left e;
      }

  -- no fault, and places that the rows were put in
  pub rows-put :
      (c : Columns) {answer : Result Summary Reason} {lent_after : RowPlaces} {after : Memory} → None ≡ rows_judged tab rs → false ≡ short_of (length rows) lent
      → c ≡ columns_for rs → Built tab c m answer after → lent_after ≡ zero_rows lent → RowsBuilt tab rs lent m answer lent_after after
  rows-put c {answer = answer} {after = after} fine p put b l =
      let e = sym fine in
      record {
        built =
            subst (λ (t : Bool). Promised Unigram tab rs (rows_judged tab rs) t (report_of tab rs) m (told answer) after) (sym (short-rows p))
            (subst (λ (x : Option Reason). Promised Unigram tab rs x (no_scored_room (nodes_of tab rs) m) (report_of tab rs) m (told answer) after) (put-fine tab rs fine put ∙ fine)
            (subst (λ (l : List Row). Promised Unigram tab l (columns_fault Unigram tab c) (no_scored_room (nodes_of tab l) m) (report_of tab l) m (told answer) after)
            (ap rows_of put ∙ rows_are tab rs e) b));
        places = l ∙ zeros-left e;
      }

  -- and in all cases
  pub rows-built :
      {answer : Result Summary Reason} {lent_after : RowPlaces} {after : Memory} → Stepped tab rows lent m answer lent_after after
      → RowsBuilt tab rs lent m answer lent_after after
  rows-built (bad_row found) = rows-bad found
  rows-built (few_places fine p a l k) = rows-short fine p a l k
  rows-built (put_rows c fine p put b l) = rows-put c fine p put b l
