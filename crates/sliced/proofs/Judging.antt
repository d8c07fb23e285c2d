-- A slice of rows, judged row by row: what is first bad from row i on is its fault, or else what is first bad from row i + 1
-- on. Assumes nothing.
use Rattle.std.specs.Result.{result_err}
use Rattle.std.specs.Prelude.{Option, None, Some, Result, ⊤, Ok, Err, MatchResult}
use mathlib.Core.Path.{◌≡◌, refl, sym, ap, ◌∙◌}
use mathlib.Core.Bool.{true, false}
use mathlib.Core.List.{List, ◌∷◌, map}
use Prim.Native.Nat.{ℕ, suc, ◌+◌, ◌≤◌, ◌<◌}
use native.Mathlib.Numerals.{add-one}
use native.Mathlib.Omega.{arith}
use lib.ListN.{length, get_or, drop, length-map, get_or-map, drop_of_length-le}
use lib.Seq.{drop-cons}
use Rattle.refusal.specs.declared.Fault.{Fault}
use Rattle.refusal.specs.declared.Fault.TheVariants as fault
use Rattle.refusal.specs.declared.Reason.{Reason}
use Rattle.refusal.specs.declared.Reason.TheVariants as reason
use Rattle.refusal.proofs.Tests.{found, not_found}
use Rattle.rows.specs.declared.Kind.TheVariants.{Unigram}
use Rattle.rows.specs.declared.Row as code_row
use Rattle.rows.specs.Rows.{Row, row_is, row_fault, first_bad}
use Rattle.rows.specs.Columns.{too_large}
use Rattle.rows.proofs.FirstBad.{bad-here, fine-here}
use Rattle.sliced.specs.BuildRows.{rows_judged}

-- b tells the fault that a does, with the row's number
abbrev pub AtRow : Result ⊤ Fault → ℕ → Result ⊤ Reason → Type 0
AtRow a i b = MatchResult a (λ x. b ≡ Ok x) (λ f. b ≡ Err (reason.Row f i))

bad-told : (a : Result ⊤ Fault) (i : ℕ) {b : Result ⊤ Reason} {r : Reason} → AtRow a i b → b ≡ Err r → (f : Fault) × (result_err a ≡ Some f) × (reason.Row f i ≡ r)
bad-told (Ok x) i e p = cc
bad-told (Err f) i e p = (f, refl, cc)

fine-told : (a : Result ⊤ Fault) (i : ℕ) {b : Result ⊤ Reason} {x : ⊤} → AtRow a i b → b ≡ Ok x → result_err a ≡ None
fine-told (Ok x) i e p = refl
fine-told (Err f) i e p = cc

module _ (tab : List ℕ) (rows : List code_row.Row) where
  abbrev rs : List Row
  rs = map row_is rows

  abbrev pub bad_from : ℕ → Option Reason
  bad_from i = first_bad Unigram tab i (drop i rs)

  -- the sizes first
  pub judged-large : true ≡ too_large (length rows) (length tab) → Some (reason.Call fault.Size) ≡ rows_judged tab rs
  unfolding rows_judged
  judged-large e = sym (found _ _ _ (ap (λ (n : ℕ). too_large n (length tab)) (length-map rows row_is) ∙ sym e))

  pub judged-fits : false ≡ too_large (length rows) (length tab) → rows_judged tab rs ≡ bad_from 0
  unfolding rows_judged
  judged-fits e = not_found _ _ _ (ap (λ (n : ℕ). too_large n (length tab)) (length-map rows row_is) ∙ sym e)

  module _ (i : ℕ) (d : code_row.Row) (h : i < length rows) where
    ahead : drop i rs ≡ row_is (get_or rows i d) ∷ drop (suc i) rs
    ahead = drop-cons rs i (row_is d) (omega (arith, length-map rows row_is)) ∙ ap (λ (r : Row). r ∷ drop (suc i) rs) (get_or-map row_is rows i d)

    module _ (a : Result ⊤ Fault) (e : result_err a ≡ row_fault Unigram tab (row_is (get_or rows i d))) {b : Result ⊤ Reason} (t : AtRow a i b) where
      pub row-bad : {r : Reason} → b ≡ Err r → bad_from i ≡ Some r
      row-bad p =
          let q = bad-told a i t p in
          ap (first_bad Unigram tab i) ahead ∙ bad-here Unigram tab i _ _ q.0 (sym e ∙ q.1) ∙ ap (λ (r : Reason). Some r) q.2

      pub row-fine : {x : ⊤} → b ≡ Ok x → bad_from i ≡ bad_from (i + 1)
      row-fine p =
          ap (first_bad Unigram tab i) ahead ∙ fine-here Unigram tab i _ _ (sym e ∙ fine-told a i t p) ∙ ap bad_from (sym (add-one i))

  pub all-fine : (i : ℕ) → length rows ≤ i → bad_from i ≡ None
  unfolding first_bad
  all-fine i h = ap (first_bad Unigram tab i) (drop_of_length-le rs (omega (arith, length-map rows row_is)))
