-- The promise of `segment` fixes what it answers and what it leaves: each field is an equation with a value of the inputs. The
-- score column is promised by its units, and the format has one value for each, so the columns themselves are fixed. Assumes
-- nothing.
use Rattle.std.specs.Prelude.{None, Some, Result, Ok, Err, ℕ}
use mathlib.Core.Path.{◌≡◌, ap}
use mathlib.Core.Logic.{◌↔◌}
use Prim.Native.Nat.{ℕ}
use mathlib.Core.List.{List}
use lib.Dec.{T}
use lib.Ieee.{Float}
use lib.ListN.{length}
use Rattle.doubles.proofs.Determinacy.{all_held, column-once}
use Rattle.refusal.specs.declared.Fault.{Fault}
use Rattle.refusal.proofs.Codings as codings
use Rattle.refusal.proofs.Codings.{coded-once}
use Rattle.unigram.specs.Pieces.{Model, ids_of}
use Rattle.unigram.specs.Segment.{Scratch, lengths_of, segment_fault, sound_model, Segmented}
use Rattle.unigram.specs.Checked.{scratch_of}

pub segmented-once :
    {m : Model} {s : List ℕ} {b : Scratch} {a₁ a₂ : Result ℕ Fault} {b₁ b₂ : Scratch} → Segmented m s b a₁ b₁
    → Segmented m s b a₂ b₂
    → (a₁ ≡ a₂) × (b₁ ≡ b₂)
segmented-once p q = coded-once p.coded q.coded

-- Lent columns that are one as a scratch are one, the scores as the f64 that stand there. Every `&[f64]` is held.
module _ {a b c d a' b' c' d' : List ℕ} (x x' : List Float) (held : T (all_held x)) (held' : T (all_held x')) where
  pub scratch-once : scratch_of a b x c d ≡ scratch_of a' b' x' c' d' → (a ≡ a') × (b ≡ b') × (x ≡ x') × (c ≡ c') × (d ≡ d')
  scratch-once e = (
    ap (λ (u : Scratch). u.slots.start) e,
    ap (λ (u : Scratch). u.slots.id) e,
    column-once x x' held held' (ap (λ (u : Scratch). u.slots.score) e),
    ap (λ (u : Scratch). u.path) e,
    ap (λ (u : Scratch). u.ids) e,
  )

  -- so `segment`, met twice on the same columns, has one answer and leaves the same in each
  pub segment-once :
      {m : Model} {s : List ℕ} {before : Scratch} {r r' : Result ℕ Fault} → Segmented m s before r (scratch_of a b x c d)
      → Segmented m s before r' (scratch_of a' b' x' c' d')
      → (r ≡ r') × (a ≡ a') × (b ≡ b') × (x ≡ x') × (c ≡ c') × (d ≡ d')
  segment-once p q =
      let once = segmented-once p q in
      let left = scratch-once once.1 in
      (once.0, left.0, left.1, left.2, left.3, left.4)

-- "exactly when", both ways: a call of `segment` is refused with f exactly when f is the first fault, and answers with ids
-- exactly when there is none
module _ {m : Model} {s : List ℕ} {before after : Scratch} {answer : Result ℕ Fault}
    (p : Segmented m s before answer after) where
  pub refused-exactly : (f : Fault) → (answer ≡ Err f) ↔ (segment_fault (sound_model m) s (lengths_of before) ≡ Some f)
  refused-exactly = codings.refused-exactly p.coded

  pub accepted-exactly : (answer ≡ Ok (length (ids_of m s))) ↔ (segment_fault (sound_model m) s (lengths_of before) ≡ None)
  accepted-exactly = codings.accepted-exactly p.coded
