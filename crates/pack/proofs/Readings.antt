-- One row as the code reads it: the very row where it is fine, and its fault in any case. Assumes nothing.
use Rattle.std.specs.Prelude.{None}
use mathlib.Core.Path.{◌≡◌, refl, sym, ap, ◌∙◌, subst}
use mathlib.Core.Bool.{Bool, true, false, not}
use mathlib.Core.List.{List}
use Prim.Native.Nat.{ℕ, ◌+◌}
use lib.Dec.{T}
use lib.Ieee.{Float, of_bits, binary64}
use Rattle.refusal.proofs.Lists.{zero_one}
use Rattle.doubles.specs.Double.{Double, not_a_number, infinite, is_finite, of_pattern}
use Rattle.doubles.specs.Units.{units}
use Rattle.doubles.specs.Pattern.{Reads}
use Rattle.doubles.specs.declared.Pattern.{Pattern}
use Rattle.doubles.specs.declared.Pattern.TheVariants.{Finite, Infinite, NotANumber}
use Rattle.doubles.proofs.Patterns.{pattern-is-double}
use Rattle.refusal.specs.declared.Fault.TheVariants as fault
use Rattle.refusal.specs.Refusal.{refuse}
use Rattle.rows.specs.declared.Kind.{Kind}
use Rattle.rows.specs.declared.Kind.TheVariants.{Unigram, WordPiece}
use Rattle.rows.specs.declared.Worth as code-worth
use Rattle.rows.specs.declared.Worth.TheVariants as code-worth-is
use Rattle.rows.specs.Rows.{Worth, score, id, Row, worth_is, row_is, worth_fault, row_fault}
use Rattle.rows.proofs.RowFaults.{fine-score, fine-worth}
use Rattle.pack.specs.Pack.{word, worth_at, row_at}
use Rattle.pack.specs.Reading.{double_at, ScoreRead, WorthRead, RowRead}

-- ---- a score

pub infinity-is : units (of_bits binary64 9_218_868_437_227_405_312) ≡ infinite false
unfolding of_pattern
infinity-is = pattern-is-double 9_218_868_437_227_405_312

true_of : (b : Bool) → T b → b ≡ true
true_of true t = refl
true_of false t = absurd t

pub score-finite : {p : Pattern} {d : Double} (x : Float) → Reads p d → p ≡ Finite x → ScoreRead (units x) d
score-finite {d = d} x r e =
    let read : (units x ≡ d) × T (is_finite d) = subst (λ (q : Pattern). Reads q d) e r in
    record {
      very = λ f. read.0;
      endless = λ f. absurd (zero_one (cc (true_of (is_finite d) read.1)));
    }

endless-read : {x d : Double} → is_finite d ≡ false → x ≡ infinite false → ScoreRead x d
unfolding is_finite
endless-read {x = x} {d = d} n e =
    record {
      very = λ f. absurd (zero_one cc);
      endless = λ f. ap is_finite e;
    }

pub score-infinite : {p : Pattern} {x d : Double} (s : Bool) → Reads p d → p ≡ Infinite s → x ≡ infinite false → ScoreRead x d
unfolding is_finite
score-infinite {d = d} s r e i =
    let read : d ≡ infinite s = subst (λ (q : Pattern). Reads q d) e r in
    endless-read (ap is_finite read) i

pub score-none : {p : Pattern} {x d : Double} → Reads p d → p ≡ NotANumber → x ≡ infinite false → ScoreRead x d
unfolding is_finite
score-none {d = d} r e i =
    let read : d ≡ not_a_number = subst (λ (q : Pattern). Reads q d) e r in
    endless-read (ap is_finite read) i

-- ---- a worth

score-faults : {x d : Double} → ScoreRead x d → (b : Bool) → is_finite d ≡ b → worth_fault Unigram (score x) ≡ worth_fault Unigram (score d)
unfolding worth_fault
score-faults s true e = ap (λ y. refuse (not (is_finite y)) fault.Score None) (s.very e)
score-faults s false e = ap (λ (b : Bool). refuse (not b) fault.Score None) (s.endless e ∙ sym e)

pub worth-score : {x d : Double} → ScoreRead x d → WorthRead Unigram (score x) (score d)
worth-score {x = x} {d = d} s =
    record {
      faults = score-faults s (is_finite d) refl;
      very = λ f.
          let fine = fine-score (score d) f in
          let same : d ≡ fine.0 = cc fine.1 in
          ap score (s.very (ap is_finite same ∙ fine.2));
    }

pub worth-same : {kind : Kind} {w v : Worth} → w ≡ v → WorthRead kind w v
worth-same {kind = kind} e = record { faults = ap (worth_fault kind) e; very = λ f. e }

-- what the two ways of `worth_at` read
module _ {kind : Kind} (bytes : List ℕ) (at : ℕ) where
  pub read-score : (x : Float) → kind ≡ Unigram → ScoreRead (units x) (double_at bytes at) → WorthRead kind (worth_is (code-worth-is.Score x)) (worth_at kind bytes at)
  unfolding worth_is worth_at
  read-score x k s =
      subst (λ (k : Kind). WorthRead k (worth_is (code-worth-is.Score x)) (worth_at k bytes at)) (sym k) (worth-score s)

  pub read-id : {i : ℕ} → kind ≡ WordPiece → i ≡ word bytes at → WorthRead kind (worth_is (code-worth-is.Id i)) (worth_at kind bytes at)
  unfolding worth_is worth_at
  read-id {i = i} k e =
      subst (λ (k : Kind). WorthRead k (worth_is (code-worth-is.Id i)) (worth_at k bytes at)) (sym k) (worth-same (ap id e))

-- ---- a row

abbrev given : ℕ → ℕ → Worth → Row
given off len w = record { off = off; len = len; worth = w }

row_read : {kind : Kind} (off len : ℕ) {w v : Worth} → WorthRead kind w v → RowRead kind (given off len w) (given off len v)
unfolding row_fault
row_read {kind = kind} off len {v = v} r =
    record {
      faults = λ tab. rw r.faults;
      very = λ tab f. ap (given off len) (r.very (fine-worth kind tab (given off len v) f));
    }

pub row_reads :
    {kind : Kind} (bytes : List ℕ) (at : ℕ) {off len : ℕ} (w : code-worth.Worth) → off ≡ word bytes at → len ≡ word bytes (at + 4)
    → WorthRead kind (worth_is w) (worth_at kind bytes (at + 8)) → RowRead kind (row_is (record { off = off; len = len; worth = w })) (row_at kind bytes at)
unfolding row_is row_at
row_reads bytes at w p q r = rw (p, q) (row_read _ _ r)
