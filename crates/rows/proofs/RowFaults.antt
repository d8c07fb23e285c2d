-- One row: which test gives which fault, and what a row without a fault says. The first test that finds a fault decides, so a
-- fault of a later test is given only where each test before it found nothing. Assumes nothing.
use Rattle.std.specs.Prelude.{None, Some}
use mathlib.Core.Path.{◌≡◌, refl, ◌∙◌}
use mathlib.Core.Bool.{true, false}
use mathlib.Core.List.{List}
use Prim.Native.Nat.{ℕ, ◌+◌, ◌≤◌, ◌<◌}
use native.Mathlib.Omega.{arith}
use borrow.Author.Tests.{lt-ltb, le-ltb, ltb-false, eq-eqb, ne_eqb, eqb-false, not-false}
use lib.Dec.{ltb}
use lib.Ieee.{Float}
use lib.ListN.{length, length-take, length-drop}
use Rattle.refusal.proofs.Lists.{zero_one}
use Rattle.doubles.specs.Double.{Double, is_finite}
use Rattle.doubles.specs.Units.{units}
use Rattle.refusal.specs.declared.Fault.{Fault}
use Rattle.refusal.specs.declared.Fault.TheVariants as fault
use Rattle.refusal.specs.Sizes.{max_token, no_id}
use Rattle.refusal.specs.Refusal.{refuse, first}
use Rattle.refusal.proofs.Tests.{passed, found, not_found, found_first, none_first, both-passed}
use Rattle.text.specs.Text.{well_formed, text_fault}
use Rattle.text.proofs.Spans as text
use Rattle.rows.specs.declared.Kind.{Kind}
use Rattle.rows.specs.declared.Kind.TheVariants.{Unigram, WordPiece}
use Rattle.rows.specs.declared.Worth as code-worth
use Rattle.rows.specs.declared.Worth.TheVariants as code-worth-is
use Rattle.rows.specs.Rows.{Worth, score, id, Row, worth_is, token_of, worth_fault, row_fault}

-- ---- the worth, as the code holds it

module _ {w : code-worth.Worth} where
  pub no-score : {i : ℕ} → w ≡ code-worth-is.Id i → worth_fault Unigram (worth_is w) ≡ Some fault.Score
  unfolding worth_fault worth_is
  no-score e = rw e

  pub finite-score : {x : Float} → w ≡ code-worth-is.Score x → is_finite (units x) ≡ true → worth_fault Unigram (worth_is w) ≡ None
  unfolding worth_fault worth_is refuse
  finite-score e f = rw (e, f)

  pub endless-score : {x : Float} → w ≡ code-worth-is.Score x → is_finite (units x) ≡ false → worth_fault Unigram (worth_is w) ≡ Some fault.Score
  unfolding worth_fault worth_is refuse
  endless-score e f = rw (e, f)

  pub no-id : {x : Float} → w ≡ code-worth-is.Score x → worth_fault WordPiece (worth_is w) ≡ Some fault.Id
  unfolding worth_fault worth_is
  no-id e = rw e

  pub real-id : {i : ℕ} → w ≡ code-worth-is.Id i → (i ≡ no_id → ⊥) → worth_fault WordPiece (worth_is w) ≡ None
  unfolding worth_fault worth_is refuse
  real-id {i = i} e f = rw (e, ne_eqb i no_id f)

  pub mark-id : {i : ℕ} → w ≡ code-worth-is.Id i → i ≡ no_id → worth_fault WordPiece (worth_is w) ≡ Some fault.Id
  unfolding worth_fault worth_is refuse
  mark-id {i = i} e f = rw (e, eq-eqb i no_id f)

-- ---- the worth of a row without a fault

-- of a Unigram row a finite score
pub fine-score : (w : Worth) → worth_fault Unigram w ≡ None → (x : Double) × (w ≡ score x) × (is_finite x ≡ true)
unfolding worth_fault
fine-score (score x) e = (x, refl, not-false (is_finite x) (passed _ _ _ e).0)
fine-score (id i) e = absurd (zero_one cc)

-- of a WordPiece row an id that is not the mark for none
pub fine-id : (w : Worth) → worth_fault WordPiece w ≡ None → (i : ℕ) × (w ≡ id i) × (i ≡ no_id → ⊥)
unfolding worth_fault
fine-id (score x) e = absurd (zero_one cc)
fine-id (id i) e = (i, refl, eqb-false i no_id (passed _ _ _ e).0)

-- ---- the row

module _ (kind : Kind) (tab : List ℕ) (r : Row) where
  pub fault-span : length tab < r.off + r.len → row_fault kind tab r ≡ Some fault.Span
  unfolding row_fault
  fault-span h = found _ _ _ (lt-ltb (length tab) (r.off + r.len) h)

  module _ (inside : r.off + r.len ≤ length tab) where
    pub fault-token : max_token < r.len → row_fault kind tab r ≡ Some fault.Token
    unfolding row_fault
    fault-token h = not_found _ _ _ (le-ltb (length tab) (r.off + r.len) inside) ∙ found _ _ _ (lt-ltb max_token r.len h)

    pub token-length : length (token_of tab r) ≡ r.len
    token-length = simp (length-take, length-drop) (omega arith)

    module _ (short : r.len ≤ max_token) where
      past-token : row_fault kind tab r ≡ first (text_fault (token_of tab r)) (worth_fault kind r.worth)
      unfolding row_fault
      past-token =
          not_found _ _ _ (le-ltb (length tab) (r.off + r.len) inside) ∙ not_found _ _ _ (le-ltb max_token r.len short)

      pub fault-text : {f : Fault} → text_fault (token_of tab r) ≡ Some f → row_fault kind tab r ≡ Some f
      fault-text e = past-token ∙ found_first _ e

      pub fault-worth : text_fault (token_of tab r) ≡ None → row_fault kind tab r ≡ worth_fault kind r.worth
      fault-worth e = past-token ∙ none_first _ e

  -- a row without a fault: its token lies inside the table, is short enough, is text, and its worth has no fault
  module _ (fine : row_fault kind tab r ≡ None) where
    spanned :
        (ltb (length tab) (r.off + r.len) ≡ false)
        × (refuse (ltb max_token r.len) fault.Token (first (text_fault (token_of tab r)) (worth_fault kind r.worth)) ≡ None)
    unfolding row_fault
    spanned = passed _ _ _ fine

    sized : (ltb max_token r.len ≡ false) × (first (text_fault (token_of tab r)) (worth_fault kind r.worth) ≡ None)
    sized = passed _ _ _ spanned.1

    read : (text_fault (token_of tab r) ≡ None) × (worth_fault kind r.worth ≡ None)
    read = both-passed _ _ sized.1

    pub fine-inside : r.off + r.len ≤ length tab
    fine-inside = ltb-false (length tab) (r.off + r.len) spanned.0

    pub fine-short : r.len ≤ max_token
    fine-short = ltb-false max_token r.len sized.0

    pub fine-token-length : length (token_of tab r) ≡ r.len
    fine-token-length = token-length fine-inside

    pub fine-text : well_formed (token_of tab r) ≡ true
    fine-text = text.fine-text (token_of tab r) read.0

    pub fine-worth : worth_fault kind r.worth ≡ None
    fine-worth = read.1
