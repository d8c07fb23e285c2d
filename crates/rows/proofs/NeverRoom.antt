-- No fault of rows has the number 7: so a build that finds one writes nothing. Assumes nothing.
use Rattle.std.specs.Prelude.{Option, None, Some}
use mathlib.Core.Path.{◌≡◌, refl, sym, ◌∙◌}
use mathlib.Core.Bool.{Bool}
use mathlib.Core.List.{List, [], ◌∷◌}
use Prim.Native.Nat.{ℕ, suc}
use Rattle.refusal.specs.declared.Fault.{Fault}
use Rattle.refusal.specs.declared.Fault.TheVariants as fault
use Rattle.refusal.specs.declared.Reason.{Reason}
use Rattle.refusal.specs.declared.Reason.TheVariants as reason
use Rattle.refusal.specs.Refusal.{refuse}
use Rattle.refusal.proofs.Tests.{Not, NotOf, some-so, refused-so, first_so, nothing-so}
use Rattle.text.proofs.Spans.{text-not}
use Rattle.rows.specs.declared.Kind.{Kind}
use Rattle.rows.specs.declared.Kind.TheVariants.{Unigram, WordPiece}
use Rattle.rows.specs.Rows.{Row, Worth, score, id, token_of, worth_fault, row_fault, first_bad}
use Rattle.rows.specs.Columns.{Columns, rows_of, columns_fault}
use Rattle.rows.proofs.ListFaults.{size, rows_left, sizes-first}

worth-not : {f : Fault} (kind : Kind) (w : Worth) → worth_fault kind w ≡ Some f → Not 7 f
unfolding worth_fault
worth-not Unigram (score x) e = refused-so (Not 7) _ fault.Score None refl (nothing-so (Not 7)) e
worth-not Unigram (id i) e = some-so (Not 7) e refl
worth-not WordPiece (score x) e = some-so (Not 7) e refl
worth-not WordPiece (id i) e = refused-so (Not 7) _ fault.Id None refl (nothing-so (Not 7)) e

row-not : {f : Fault} (kind : Kind) (tab : List ℕ) (r : Row) → row_fault kind tab r ≡ Some f → Not 7 f
unfolding row_fault
row-not kind tab r e =
    refused-so (Not 7) _ fault.Span _ refl
    (refused-so (Not 7) _ fault.Token _ refl (first_so (Not 7) _ _ (text-not 7 refl (token_of tab r)) (worth-not kind r.worth))) e

pub bad-not-room : {q : Reason} (kind : Kind) (tab : List ℕ) (i : ℕ) (rows : List Row) → first_bad kind tab i rows ≡ Some q → NotOf 7 q
unfolding first_bad
bad-not-room kind tab i [] e = nothing-so (NotOf 7) e
bad-not-room {q = q} kind tab i (r ∷ rs) e = go (bad-not-room kind tab (suc i) rs) (row_fault kind tab r) refl e
  where
    go :
        (first_bad kind tab (suc i) rs ≡ Some q → NotOf 7 q) → (o : Option Fault) → row_fault kind tab r ≡ o
        → ◌≡◌ {A = Option Reason} (elim o [ Some f ↦ Some (reason.Row f i) | None ↦ first_bad kind tab (suc i) rs ]) (Some q) → NotOf 7 q
    go after None p e = after e
    go after (Some f) p e = some-so (NotOf 7) e (row-not kind tab r p)

-- what is refused before the rows are looked at has the number 1
pub sized-not-room :
    {q : Reason} (test : Bool) (later : Option Reason) → (later ≡ Some q → NotOf 7 q)
    → refuse test (reason.Call fault.Size) later ≡ Some q → NotOf 7 q
sized-not-room test later h e = refused-so (NotOf 7) test (reason.Call fault.Size) later refl h e

pub columns-not-room : (kind : Kind) (tab : List ℕ) (c : Columns) (r : Reason) → columns_fault kind tab c ≡ Some r → NotOf 7 r
columns-not-room kind tab c r e =
    sized-not-room (size kind tab c) (rows_left kind tab c) (bad-not-room kind tab 0 (rows_of c)) (sym (sizes-first kind tab c) ∙ e)
