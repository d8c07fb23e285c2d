-- `output::print_summary` meets its contract: the lines are printed in the vocabulary of the pack's kind. Assumes nothing.
use mathlib.Core.Path.{◌≡◌, subst}
use mathlib.Core.List.{List}
use Prim.Native.Nat.{ℕ}
use native.Mathlib.Omega.{arith}
use lib.Ieee.{Float}
use Rattle.std.proofs.lemmas.List.{length-take-le}
use Rattle.std.specs.Prelude.{Ok}
use Rattle.trie.specs.Trie.{Trie}
use Rattle.pack.specs.declared.Summary.{Summary}
use Rattle.coder.specs.Columns.{vocabulary}
use Rattle.output.specs.Cut.{LentBuilt}
use Rattle.output.proofs.Putting.{put_as}
use Rattle.output.proofs.Packs.{unigram-cuttable, unigram-scored, judged-unigram, strings-inside, wordpiece-cuttable, judged-wordpiece}
use Rattle.output.proofs.print_summary.Goals as goal

-- what was built, where the summary is this one
this : {pack : List ℕ} {s r : Summary} {t : Trie} {scores : List Float} → s ≡ r → LentBuilt pack (Ok s) t scores → LentBuilt pack (Ok r) t scores
this {pack = pack} {t = t} {scores = scores} e j = subst (λ (x : Summary). LentBuilt pack (Ok x) t scores) e j

pub cut-requires : goal.cut-requires
cut-requires c = unigram-cuttable _ _ _ (λ i h. omega (arith, c.shared_slice_known-1.given i)) _ _ _ (this c.in-Unigram.is c.requires.0)

pub slice_bounds-coder-end : goal.slice_bounds-coder-end
slice_bounds-coder-end c =
    let there = unigram-scored _ _ _ (λ i h. omega (arith, c.shared_slice_known-1.given i)) _ _ _ (this c.in-Unigram.is c.requires.0) in
    omega (arith, there, length-take-le c.in-Unigram.nodes c.args.score.now there)

pub cut-requires-in-WordPiece : goal.cut-requires-in-WordPiece
cut-requires-in-WordPiece c =
    wordpiece-cuttable _ _ _ (λ i h. omega (arith, c.shared_slice_known-1.given i)) _ _ _ _ _ (this c.in-WordPiece.is c.requires.0)

pub prefix_of-requires : goal.prefix_of-requires
prefix_of-requires c =
    strings-inside _ _ _ (λ i h. omega (arith, c.shared_slice_known-1.given i)) _ _ _ _ _ (this c.in-WordPiece.is c.requires.0)

pub returns-in-Unigram : goal.returns-in-Unigram
unfolding vocabulary
returns-in-Unigram c =
    put_as
    (judged-unigram _ _ _ (λ i h. omega (arith, c.shared_slice_known-1.given i)) _ _ _ (this c.in-Unigram.is c.requires.0)
    c.args.input.now c.cut.ensures)
    c.print_lines.ensures

pub returns-in-WordPiece : goal.returns-in-WordPiece
unfolding vocabulary
returns-in-WordPiece c =
    put_as
    (judged-wordpiece _ _ _ (λ i h. omega (arith, c.shared_slice_known-1.given i)) _ _ _ _ _
    (this c.in-WordPiece.is c.requires.0) c.args.input.now c.cut-in-WordPiece.ensures c.prefix_of.ensures)
    c.print_lines-in-WordPiece.ensures
