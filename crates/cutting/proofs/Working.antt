-- The turns of the work: what a start that has been worked changes in the records, by any rule. A start that is reached offers
-- its pieces, in their order, to the record where they end; a piece goes forward, so a record at or below the start is settled.
-- Assumes nothing.
use Rattle.std.specs.Prelude.{Option, None, Some}
use mathlib.Core.Path.{◌≡◌, refl, sym, ap, ◌∙◌}
use mathlib.Core.Bool.{Bool}
use mathlib.Core.List.{List, [], ◌∷◌}
use mathlib.Core.Logic.{◌⊎◌, inl, inr, ⊎_elim}
use Prim.Native.Nat.{ℕ, zero, suc, ◌≤◌, ◌<◌}
use native.Mathlib.Omega.{arith}
use lib.Dec.{T}
use Rattle.doubles.specs.Double.{Double, plus_zero, sum, at_most, is_number, is_finite}
use Rattle.cutting.specs.Cuttings.{Piece, Rule, Slot, nth}
use Rattle.cutting.specs.Records.{offered_all, standing, best}
use Rattle.refusal.proofs.Lists.{none-some, below_or}

-- What is asked of a rule. A piece is not empty, ends within the text and has a finite score. A sum that counts is a number,
-- one that is at least as great counts too, and so does what it was added to.
pub record Pieces (end : ℕ) (rule : Rule) : Type 0 where
  pub forward : (i j k : ℕ) (p : Piece) → nth (rule.pieces i j) k ≡ Some p → i < j
  pub inside : (i j k : ℕ) (p : Piece) → nth (rule.pieces i j) k ≡ Some p → j ≤ end
  pub finite : (i j k : ℕ) (p : Piece) → nth (rule.pieces i j) k ≡ Some p → T (is_finite p.score)
  pub zero-counts : T (rule.counts plus_zero)
  pub number : (x : Double) → T (rule.counts x) → T (is_number x)
  pub up : (x y : Double) → T (rule.counts x) → T (at_most x y) → T (rule.counts y)
  pub back : (x y : Double) → T (is_finite y) → T (rule.counts (sum x y)) → T (rule.counts x)

-- what stands before i once the starts before it have been worked
abbrev pub stands_at : Rule → ℕ → Option Double
stands_at rule i = standing i (best rule i i)

pub some_same : {A : Type 0} {x y : A} → Some x ≡ Some y → x ≡ y
some_same e = cc

-- there is one, or there is none
pub looked : {A : Type 0} (o : Option A) → (o ≡ None) ⊎ ((x : A) × (o ≡ Some x))
looked None = inl refl
looked (Some x) = inr (x, refl)

-- no pieces where none has a place
pub absent : (ps : List Piece) → ((k : ℕ) (p : Piece) → nth ps k ≡ Some p → ⊥) → ps ≡ []
unfolding nth
absent [] no_such = refl
absent (p ∷ ps) no_such = absurd (no_such 0 p refl)

-- nothing is offered from where nothing stands
nowhere : (counts : Double → Bool) (i : ℕ) (ps : List Piece) (o : Option Slot) → offered_all counts None i ps o ≡ o
unfolding offered_all
nowhere counts i [] o = refl
nowhere counts i (p ∷ ps) o = refl

module _ (rule : Rule) where
  -- the pieces from a start that is reached are offered to the record where they end
  pub worked : (i j : ℕ) (x : Double) → stands_at rule i ≡ Some x → best rule (suc i) j ≡ offered_all rule.counts (Some x) i (rule.pieces i j) (best rule i j)
  unfolding best
  worked i j x e = ap (λ (o : Option Double). offered_all rule.counts o i (rule.pieces i j) (best rule i j)) e

  -- one that is not changes nothing
  pub passed : (i j : ℕ) → stands_at rule i ≡ None → best rule (suc i) j ≡ best rule i j
  unfolding best
  passed i j e = ap (λ (o : Option Double). offered_all rule.counts o i (rule.pieces i j) (best rule i j)) e ∙ nowhere rule.counts i (rule.pieces i j) (best rule i j)

  -- nor does one with no piece that ends there
  pub pieceless : (i j : ℕ) → rule.pieces i j ≡ [] → best rule (suc i) j ≡ best rule i j
  unfolding best offered_all
  pieceless i j e = ap (λ (ps : List Piece). offered_all rule.counts (stands_at rule i) i ps (best rule i j)) e

  pub none_before : (j : ℕ) → best rule 0 j ≡ None
  unfolding best
  none_before j = refl

  -- with no piece from the starts in between, the record stays
  pub unchanged : (from upto j : ℕ) → from ≤ upto → ((i : ℕ) → from ≤ i → i < upto → rule.pieces i j ≡ []) → best rule upto j ≡ best rule from j
  unchanged from zero j l all = ap (λ (n : ℕ). best rule n j) (let e : 0 ≡ from = omega arith in e)
  unchanged from (suc i) j l all =
      ⊎_elim
      (λ (h : i < from). ap (λ (n : ℕ). best rule n j) (let e : suc i ≡ from = omega arith in e))
      (λ (h : from ≤ i). pieceless i j (all i h (omega arith)) ∙ unchanged from i j h (λ k p q. all k p (omega arith)))
      (below_or i from)

  -- what stands at the start, and after it
  pub stands-first : stands_at rule 0 ≡ Some plus_zero
  unfolding standing
  stands-first = refl

  pub stands-record : (j : ℕ) (r : Slot) → 0 < j → best rule j j ≡ Some r → stands_at rule j ≡ Some r.score
  unfolding standing
  stands-record zero r l e = absurd (omega arith)
  stands-record (suc j) r l e = ap (standing (suc j)) e

  pub record-stands : (j : ℕ) (x : Double) → 0 < j → stands_at rule j ≡ Some x → (r : Slot) × (best rule j j ≡ Some r) × (r.score ≡ x)
  unfolding standing
  record-stands zero x l e = absurd (omega arith)
  record-stands (suc j) x l e = by-record (best rule (suc j) (suc j)) refl
    where
      by-record : (o : Option Slot) → best rule (suc j) (suc j) ≡ o → (r : Slot) × (best rule (suc j) (suc j) ≡ Some r) × (r.score ≡ x)
      by-record None h = absurd (none-some (sym (ap (standing (suc j)) h) ∙ e))
      by-record (Some r) h = (r, h, let same : Some r.score ≡ Some x = sym (ap (standing (suc j)) h) ∙ e in let one : r.score ≡ x = cc in one)

-- records at or below the start come to are settled
pub settled-le : {end : ℕ} {rule : Rule} → Pieces end rule → (from j : ℕ) → j ≤ from → best rule from j ≡ best rule j j
settled-le {rule = rule} g from j l =
    unchanged rule j from j l
    (λ i p q. absent (rule.pieces i j) (λ k piece e. let h : i < j = g.forward i j k piece e in omega arith))
