-- A pack in which nothing is wrong: its rows are fine, its strings are the rest of the file, and what its header gives is
-- answered. Assumes nothing.
use Rattle.std.specs.Prelude.{ℕ}
use mathlib.Core.Path.{◌≡◌, refl, sym, ap, ◌∙◌, subst}
use mathlib.Core.List.{List}
use Prim.Native.Nat.{ℕ, ◌-◌, ◌≤◌}
use native.Mathlib.Omega.{arith}
use lib.Ieee.{Float}
use lib.ListN.{length, take, drop}
use Rattle.refusal.proofs.Lists.{zero_one}
use Rattle.doubles.specs.Double.{Double}
use Rattle.doubles.specs.Units.{units}
use Rattle.rows.specs.declared.Kind.{Kind}
use Rattle.rows.specs.declared.Kind.TheVariants.{Unigram, WordPiece}
use Rattle.rows.specs.Scores.{unknown_score}
use Rattle.build.specs.Rules.{scores_of}
use Rattle.build.specs.Memory.{zero_scores}
use Rattle.scored.specs.NodeScores.{filled_scores}
use Rattle.pack.specs.declared.header.Header.{Header}
use Rattle.pack.specs.Pack.{header_of, rows_from, rows_of, strings_of}
use Rattle.pack.specs.Build.{nodes_of, unigram, wordpiece, reported, report_of}
use Rattle.pack.specs.Reading.{FineRows, FiniteRows, PackFine, ScoresLeft}
use Rattle.pack.proofs.Headers.{rows_inside, kind-laid, few-rows}
use Rattle.pack.proofs.Resting.{none-bad}
use Rattle.pack.proofs.Faults.{strings-start, strings-are, not-large, rows-fine}
use Rattle.pack.proofs.Scoring.{fine-finite}
use Rattle.pack.specs.declared.Summary.TheVariants as summary_is

-- what is told of each kind
unigram-told :
    (bytes : List ℕ)
    → unigram (nodes_of Unigram bytes) (header_of bytes).unknown (unknown_score (scores_of (rows_of Unigram bytes))) ≡ report_of Unigram bytes
unfolding report_of
unigram-told bytes = refl

wordpiece-told :
    (bytes : List ℕ)
    → (let h = header_of bytes in
    wordpiece (nodes_of WordPiece bytes) h.unknown h.max_chars h.prefix_off h.prefix_len ≡ report_of WordPiece bytes)
unfolding report_of
wordpiece-told bytes = refl

module _ {bytes : List ℕ} {kind : Kind} {h : Header} (f : PackFine bytes kind h) where
  pub rows_are : h.rows ≡ (header_of bytes).rows
  rows_are = ap (λ (x : Header). x.rows) f.header

  start_is : h.strings_off ≡ (header_of bytes).strings_off
  start_is = ap (λ (x : Header). x.strings_off) f.header

  pub start-inside : h.strings_off ≤ length bytes
  start-inside = omega (arith, start_is, strings-start bytes f.laid)

  -- the part of the file that is lent as its strings
  pub lent-strings : take (length bytes - h.strings_off) (drop h.strings_off bytes) ≡ strings_of bytes
  lent-strings = strings-are bytes h.strings_off start_is

  pub fine-rows : FineRows kind bytes (strings_of bytes) h.rows
  unfolding rows_of
  fine-rows =
      record {
        few = omega (arith, rows_are, few-rows (header_of bytes) (not-large kind bytes f.fine));
        inside = omega (arith, rows_are, rows_inside bytes (header_of bytes) (kind-laid bytes f.laid));
        fine = λ i l. none-bad kind bytes (header_of bytes).rows (strings_of bytes) (rows-fine kind bytes f.fine) i (omega (arith, rows_are));
      }

  -- the rows as they are read
  pub rows-read : (k : Kind) → rows_from k bytes 36 h.rows ≡ rows_of k bytes
  unfolding rows_of
  rows-read k = ap (rows_from k bytes 36) rows_are

  pub finite-rows : kind ≡ Unigram → FiniteRows bytes h.rows
  finite-rows k = fine-finite (subst (λ (x : Kind). FineRows x bytes (strings_of bytes) h.rows) k fine-rows)

  -- ---- the answer

  pub told-unigram :
      {n : ℕ} (x : Float) → kind ≡ Unigram → units x ≡ unknown_score (scores_of (rows_from Unigram bytes 36 h.rows)) → n ≡ nodes_of kind bytes
      → reported (summary_is.Unigram n h.unknown x) ≡ report_of kind bytes
  told-unigram {n = n} x k e c =
      let u : h.unknown ≡ (header_of bytes).unknown = ap (λ (y : Header). y.unknown) f.header in
      let s : units x ≡ unknown_score (scores_of (rows_of Unigram bytes)) = e ∙ ap (λ rows. unknown_score (scores_of rows)) (rows-read Unigram) in
      let count : n ≡ nodes_of Unigram bytes = c ∙ ap (λ (y : Kind). nodes_of y bytes) k in
      (λ i. unigram (count i) (u i) (s i)) ∙ unigram-told bytes ∙ ap (λ (y : Kind). report_of y bytes) (sym k)

  pub told-wordpiece :
      {n : ℕ} → kind ≡ WordPiece → n ≡ nodes_of kind bytes
      → reported (summary_is.WordPiece n h.unknown h.max_chars h.prefix_off h.prefix_len) ≡ report_of kind bytes
  told-wordpiece {n = n} k c =
      let count : n ≡ nodes_of WordPiece bytes = c ∙ ap (λ (y : Kind). nodes_of y bytes) k in
      (λ i. wordpiece (count i) (f.header i).unknown (f.header i).max_chars (f.header i).prefix_off (f.header i).prefix_len)
      ∙ wordpiece-told bytes ∙ ap (λ (y : Kind). report_of y bytes) (sym k)

  -- ---- the score column

  pub left-scored :
      {ids : List ℕ} {n : ℕ} {before after : List Double} → kind ≡ Unigram
      → after ≡ filled_scores (scores_of (rows_from Unigram bytes 36 h.rows)) (take n ids) before → ScoresLeft bytes kind ids n before after
  left-scored {ids = ids} {n = n} {before = before} k e =
      record {
        scored = λ p. e ∙ ap (λ rows. filled_scores (scores_of rows) (take n ids) before) (rows-read Unigram);
        bare = λ p. let z : Unigram ≡ WordPiece = sym k ∙ p in absurd (zero_one cc);
      }

  pub left-bare :
      {ids : List ℕ} {n : ℕ} {before after : List Double} → kind ≡ WordPiece → after ≡ zero_scores before → ScoresLeft bytes kind ids n before after
  left-bare k e =
      record {
        scored = λ p. let z : Unigram ≡ WordPiece = sym p ∙ k in absurd (zero_one cc);
        bare = λ p. e;
      }
