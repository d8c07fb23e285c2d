-- The rows of a pack from row i on, for loops over them. Assumes nothing.
use Rattle.std.specs.Prelude.{Option, None, Some}
use mathlib.Core.Path.{◌≡◌, refl, sym, ap, ap₂, ◌∙◌}
use mathlib.Core.List.{List, [], ◌∷◌}
use Prim.Native.Nat.{ℕ, zero, suc, ◌+◌, ◌-◌, ◌*◌, ◌≤◌, ◌<◌}
use native.Mathlib.Omega.{arith}
use native.Mathlib.Numerals.{add-one}
use lib.ListN.{length, get_or}
use Rattle.refusal.specs.declared.Fault.{Fault}
use Rattle.refusal.specs.declared.Reason.{Reason}
use Rattle.refusal.specs.declared.Reason.TheVariants as reason
use Rattle.rows.specs.declared.Kind.{Kind}
use Rattle.rows.specs.Rows.{Row, row_fault, first_bad}
use Rattle.rows.proofs.FirstBad.{bad-here, fine-here, none-bad-says}
use Rattle.pack.specs.Pack.{row_at, rows_from}
use Rattle.pack.specs.Reading.{row_start}

module _ (kind : Kind) (bytes : List ℕ) where
  pub from-length : (at n : ℕ) → length (rows_from kind bytes at n) ≡ n
  unfolding rows_from
  from-length at zero = refl
  from-length at (suc n) = ap suc (from-length (at + 16) n)

  pub from_at : (d : Row) (at n k : ℕ) → k < n → get_or (rows_from kind bytes at n) k d ≡ row_at kind bytes (at + 16 * k)
  unfolding rows_from
  from_at d at zero k h = absurd (omega arith)
  from_at d at (suc n) zero h = let e : at ≡ at + 16 * 0 = omega arith in ap (row_at kind bytes) e
  from_at d at (suc n) (suc k) h =
      let e : at + 16 + 16 * k ≡ at + 16 * suc k = omega arith in
      from_at d (at + 16) n k (omega arith) ∙ ap (row_at kind bytes) e

  module _ (rows : ℕ) where
    -- all rows
    abbrev pub all : List Row
    all = rows_from kind bytes 36 rows

    -- those from row i on
    abbrev pub rest : ℕ → List Row
    rest i = rows_from kind bytes (row_start i) (rows - i)

    pub rest_all : all ≡ rest 0
    rest_all = let p : 36 ≡ row_start 0 = omega arith in let q : rows ≡ rows - 0 = omega arith in ap₂ (rows_from kind bytes) p q

    pub rest-next : (i : ℕ) → i < rows → rest i ≡ row_at kind bytes (row_start i) ∷ rest (i + 1)
    unfolding rows_from
    rest-next i h =
        let e : rows - i ≡ suc (rows - (i + 1)) = omega arith in
        let next : row_start i + 16 ≡ row_start (i + 1) = omega arith in
        ap (rows_from kind bytes (row_start i)) e
        ∙ ap (λ (at : ℕ). row_at kind bytes (row_start i) ∷ rows_from kind bytes at (rows - (i + 1))) next

    pub rest-none : (i : ℕ) → rows ≤ i → rest i ≡ []
    unfolding rows_from
    rest-none i h = let e : rows - i ≡ 0 = omega arith in ap (rows_from kind bytes (row_start i)) e

    -- ---- the first bad row, from row i on

    module _ (strings : List ℕ) where
      abbrev pub bad_from : ℕ → Option Reason
      bad_from i = first_bad kind strings i (rest i)

      pub bad-start : first_bad kind strings 0 all ≡ bad_from 0
      bad-start = ap (first_bad kind strings 0) rest_all

      pub bad-turn : (i : ℕ) → i < rows → row_fault kind strings (row_at kind bytes (row_start i)) ≡ None → bad_from i ≡ bad_from (i + 1)
      bad-turn i h e =
          ap (first_bad kind strings i) (rest-next i h) ∙ fine-here kind strings i _ _ e
          ∙ ap (λ (k : ℕ). first_bad kind strings k (rest (i + 1))) (sym (add-one i))

      pub bad-found :
          (i : ℕ) (f : Fault) → i < rows → row_fault kind strings (row_at kind bytes (row_start i)) ≡ Some f
          → bad_from i ≡ Some (reason.Row f i)
      bad-found i f h e = ap (first_bad kind strings i) (rest-next i h) ∙ bad-here kind strings i _ _ f e

      pub bad-stop : (i : ℕ) → rows ≤ i → bad_from i ≡ None
      unfolding first_bad
      bad-stop i h = ap (first_bad kind strings i) (rest-none i h)

      -- where none is bad, each is fine
      pub none-bad : first_bad kind strings 0 all ≡ None → (i : ℕ) → i < rows → row_fault kind strings (row_at kind bytes (row_start i)) ≡ None
      none-bad e i h =
          let d = row_at kind bytes 0 in
          ap (row_fault kind strings) (sym (from_at d 36 rows i h))
          ∙ none-bad-says kind strings d 0 all e i (omega (arith, from-length 36 rows))
