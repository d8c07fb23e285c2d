-- Which reason is given, and that the answer of `judge` follows from the inputs. A row is named exactly where it is the lowest
-- with a fault, 1 is given exactly where a size is wrong, and an answer is known by the reason that it names. Assumes nothing.
use Rattle.std.specs.Result.{result_err}
use Rattle.std.specs.Prelude.{None, Some, Result, ⊤, Ok, Err, ℕ}
use mathlib.Core.Path.{◌≡◌, refl, sym, ap, ◌∙◌}
use mathlib.Core.Bool.{Bool, true, false}
use mathlib.Core.List.{List}
use mathlib.Core.Logic.{◌↔◌, ◌⊎◌, inl, inr, ⊎_elim}
use Prim.Native.Nat.{ℕ, ◌+◌, ◌<◌}
use native.Mathlib.Omega.{arith}
use borrow.Author.Tests.{ltb-true, ltb-false, lt-ltb}
use lib.ListN.{length}
use Rattle.refusal.proofs.Lists.{zero_one}
use Rattle.refusal.specs.declared.Fault.{Fault}
use Rattle.refusal.specs.declared.Fault.TheVariants as fault
use Rattle.refusal.specs.declared.Reason.{Reason}
use Rattle.refusal.specs.declared.Reason.TheVariants as reason
use Rattle.refusal.specs.Sizes.{max_rows, max_table, above}
use Rattle.rows.specs.declared.Kind.{Kind}
use Rattle.rows.specs.Rows.{row_fault}
use Rattle.rows.specs.Columns.{Columns, row_at, rows_of, too_large, level, columns_fault}
use Rattle.refusal.proofs.Tests.{or_right, found, err-exactly, ok-exactly, judged-once}
use Rattle.rows.proofs.RowLists.{rows-length, rows_at}
use Rattle.rows.proofs.FirstBad.{IsFirstBad, first-bad-says, first-bad-exactly}
use Rattle.rows.proofs.ListFaults.{size, rows_left, sizes-first, many-rows, too_large_found, uneven, Sized, unsized, within}

-- ---- which reason

-- row i has the fault f, and no row before it has any
pub record IsBadRow (kind : Kind) (tab : List ℕ) (c : Columns) (f : Fault) (i : ℕ) : Type 0 where
  pub inside : i < length c.off
  pub bad : row_fault kind tab (row_at c i) ≡ Some f
  pub earlier : (k : ℕ) → k < i → row_fault kind tab (row_at c k) ≡ None

module _ (kind : Kind) (tab : List ℕ) (c : Columns) (f : Fault) (i : ℕ) where
  to-rows : IsBadRow kind tab c f i → IsFirstBad kind tab (row_at c 0) (rows_of c) f i
  to-rows b =
      record {
        inside = omega (arith, rows-length c, b.inside);
        bad = ap (row_fault kind tab) (rows_at c (row_at c 0) i b.inside) ∙ b.bad;
        earlier = λ k h. ap (row_fault kind tab) (rows_at c (row_at c 0) k (omega (arith, b.inside))) ∙ b.earlier k h;
      }

  from-rows : IsFirstBad kind tab (row_at c 0) (rows_of c) f i → IsBadRow kind tab c f i
  from-rows b =
      let inside : i < length c.off = omega (arith, rows-length c, b.inside) in
      record {
        inside = inside;
        bad = sym (ap (row_fault kind tab) (rows_at c (row_at c 0) i inside)) ∙ b.bad;
        earlier = λ k h. sym (ap (row_fault kind tab) (rows_at c (row_at c 0) k (omega arith))) ∙ b.earlier k h;
      }

  -- a row is named exactly where the sizes are fine, it has the fault and no row before it has any
  pub row-says : columns_fault kind tab c ≡ Some (reason.Row f i) → Sized tab c × IsBadRow kind tab c f i
  row-says e = go (size kind tab c) refl
    where
      go : (t : Bool) → size kind tab c ≡ t → Sized tab c × IsBadRow kind tab c f i
      go true p =
          absurd (zero_one (cc (sizes-first kind tab c ∙ found (size kind tab c) (reason.Call fault.Size) (rows_left kind tab c) p)))
      go false p =
          let s = unsized kind tab c p in
          (s, from-rows ((first-bad-exactly kind tab (row_at c 0) (rows_of c) f i).0 (sym (within kind tab c s) ∙ e)))

  pub row-found : Sized tab c → IsBadRow kind tab c f i → columns_fault kind tab c ≡ Some (reason.Row f i)
  row-found s b = within kind tab c s ∙ (first-bad-exactly kind tab (row_at c 0) (rows_of c) f i).1 (to-rows b)

  pub row-exactly : (columns_fault kind tab c ≡ Some (reason.Row f i)) ↔ (Sized tab c × IsBadRow kind tab c f i)
  row-exactly = (row-says, λ p. row-found p.0 p.1)

-- a size is wrong
abbrev pub Oversized : List ℕ → Columns → Type 0
Oversized tab c = (max_rows < length c.off) ⊎ ((max_table < length tab) ⊎ (level c ≡ false))

module _ (kind : Kind) (tab : List ℕ) (c : Columns) where
  -- 1 is given exactly where a size is wrong
  pub size-says : columns_fault kind tab c ≡ Some (reason.Call fault.Size) → Oversized tab c
  size-says e = go (above max_rows (length c.off)) (above max_table (length tab)) (level c) refl refl refl
    where
      go : (s t u : Bool) → above max_rows (length c.off) ≡ s → above max_table (length tab) ≡ t → level c ≡ u → Oversized tab c
      go true t u p q r = inl (ltb-true max_rows (length c.off) p)
      go false true u p q r = inr (inl (ltb-true max_table (length tab) q))
      go false false false p q r = inr (inr r)
      go false false true p q r =
          let fits : Sized tab c =
          record { few = ltb-false max_rows (length c.off) p; small = ltb-false max_table (length tab) q; flat = r } in
          let w = first-bad-says kind tab (row_at c 0) 0 (rows_of c) (reason.Call fault.Size) (sym (within kind tab c fits) ∙ e) in
          let named : reason.Call fault.Size ≡ reason.Row w.0 (0 + w.1) = w.2 in
          absurd (zero_one cc)

  pub size-found : Oversized tab c → columns_fault kind tab c ≡ Some (reason.Call fault.Size)
  size-found o =
      ⊎_elim (λ h. too_large_found kind tab c (sym (many-rows (length c.off) (length tab) h)))
      (λ p. ⊎_elim (λ h. too_large_found kind tab c (table-large h)) (uneven kind tab c) p) o
    where
      table-large : max_table < length tab → too_large (length c.off) (length tab) ≡ true
      table-large h = or_right (above max_rows (length c.off)) (above max_table (length tab)) (lt-ltb max_table (length tab) h)

  pub size-exactly : (columns_fault kind tab c ≡ Some (reason.Call fault.Size)) ↔ Oversized tab c
  size-exactly = (size-says, size-found)

-- ---- the answer

module _ (kind : Kind) (tab : List ℕ) (c : Columns) {answer : Result ⊤ Reason} (a : result_err answer ≡ columns_fault kind tab c) where
  -- refused exactly where there is a reason, and with that reason
  pub refused-exactly : (r : Reason) → (answer ≡ Err r) ↔ (columns_fault kind tab c ≡ Some r)
  refused-exactly = err-exactly answer a

  -- fine exactly where there is none
  pub fine-exactly : (answer ≡ Ok tt) ↔ (columns_fault kind tab c ≡ None)
  fine-exactly = ok-exactly answer a

-- the promise met twice gives the same answer
pub judge-determined :
    (kind : Kind) (tab : List ℕ) (c : Columns) {a b : Result ⊤ Reason}
    → result_err a ≡ columns_fault kind tab c → result_err b ≡ columns_fault kind tab c → a ≡ b
judge-determined kind tab c {a = a} {b = b} = judged-once a b
