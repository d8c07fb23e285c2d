-- The promise of a build from a pack fixes what it answers and what it leaves: each field is an equation with a value of the
-- inputs. Scores are promised as doubles, of which the format has one value each. And it is refused with r exactly where r is
-- the pack's fault. Assumes nothing.
use Rattle.pack.specs.declared.Summary.{Summary}
use Rattle.std.specs.Prelude.{None, Some, Result, Err, ℕ, Ok}
use mathlib.Core.Path.{◌≡◌, ap}
use mathlib.Core.Logic.{◌↔◌}
use mathlib.Core.Bool.{Bool, true}
use mathlib.Core.List.{List, [], map}
use Prim.Native.Nat.{ℕ}
use lib.Dec.{T}
use lib.Ieee.{Float}
use Rattle.refusal.proofs.Lists.{zero_one}
use Rattle.doubles.specs.Units.{units}
use Rattle.doubles.proofs.Floats.{units-injective}
use Rattle.doubles.proofs.Determinacy.{held, all_held, column-once}
use Rattle.refusal.specs.declared.Reason.{Reason}
use Rattle.build.specs.Memory.{Memory, with_scores}
use Rattle.build.proofs.Promises as builds
use Rattle.build.proofs.Promises.{promised-once}
use Rattle.pack.specs.Build.{pack_fault, told, report_of, the_kind, PackBuilt}
use Rattle.pack.specs.declared.Summary.TheVariants as summary_is

-- the score that an answer has is one that the format holds, as every `f64` is
abbrev pub held_in : Result Summary Reason → Bool
held_in (Ok (summary_is.Unigram n u x)) = held x
held_in (Ok (summary_is.WordPiece n u c off len)) = true
held_in (Err r) = true

-- an answer is known by what it tells
told-known : (a b : Result Summary Reason) → T (held_in a) → T (held_in b) → told a ≡ told b → a ≡ b
unfolding told
told-known (Ok (summary_is.Unigram n u x)) (Ok (summary_is.Unigram k v y)) h j e =
    let p : n ≡ k = cc in
    let q : u ≡ v = cc in
    let r : units x ≡ units y = cc in
    let s : x ≡ y = units-injective x y h j r in
    cc
told-known (Ok (summary_is.Unigram n u x)) (Ok (summary_is.WordPiece k v c off len)) h j e = cc
told-known (Ok (summary_is.Unigram n u x)) (Err r) h j e = cc
told-known (Ok (summary_is.WordPiece n u c off len)) (Ok (summary_is.Unigram k v y)) h j e = cc
told-known (Ok (summary_is.WordPiece n u c off len)) (Ok (summary_is.WordPiece k v d at long)) h j e = cc
told-known (Ok (summary_is.WordPiece n u c off len)) (Err r) h j e = cc
told-known (Err q) (Ok (summary_is.Unigram k v y)) h j e = cc
told-known (Err q) (Ok (summary_is.WordPiece k v c off len)) h j e = cc
told-known (Err q) (Err r) h j e = cc

-- one answer, and one content of every lent column. That the format holds the scores is so of every column.
module _ (bytes : List ℕ) (m m₁ m₂ : Memory) (a b : Result Summary Reason) (x₁ x₂ : List Float)
    (p : PackBuilt bytes m a (with_scores m₁ (map units x₁))) (q : PackBuilt bytes m b (with_scores m₂ (map units x₂)))
    (h : T (held_in a)) (k : T (held_in b)) (h₁ : T (all_held x₁)) (h₂ : T (all_held x₂)) where
  pub built-once : (a ≡ b) × (with_scores m₁ [] ≡ with_scores m₂ []) × (x₁ ≡ x₂)
  built-once =
      let t = promised-once p q in (
        told-known a b h k t.0,
        ap (λ (x : Memory). with_scores x []) t.1,
        column-once x₁ x₂ h₁ h₂ (ap (λ (x : Memory). x.score) t.1),
      )

-- an answer that says a reason is that refusal
told-refused : (a : Result Summary Reason) (r : Reason) → told a ≡ Err r → a ≡ Err r
unfolding told
told-refused (Ok (summary_is.Unigram n u x)) r e = absurd (zero_one cc)
told-refused (Ok (summary_is.WordPiece n u c off len)) r e = absurd (zero_one cc)
told-refused (Err q) r e = let same : q ≡ r = cc in ap Err same

-- "exactly when", both ways: refused with r exactly where r is the fault, and what the pack gives is told exactly where there
-- is none
module _ (bytes : List ℕ) (m : Memory) (answer : Result Summary Reason) (after : Memory) (p : PackBuilt bytes m answer after) where
  pub refused-exactly : (r : Reason) → (answer ≡ Err r) ↔ (pack_fault bytes m ≡ Some r)
  unfolding told
  refused-exactly r = let two = builds.refused-exactly p r in (λ q. two.0 (ap told q), λ e. told-refused answer r (two.1 e))

  pub accepted-exactly : (told answer ≡ Ok (report_of (the_kind bytes) bytes)) ↔ (pack_fault bytes m ≡ None)
  accepted-exactly = builds.accepted-exactly p
