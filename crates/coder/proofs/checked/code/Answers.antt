-- `coder::checked::code` meets its contract: the coding of the kind. Assumes nothing.
use mathlib.Core.Path.{◌≡◌, sym, ap, ◌∙◌, subst}
use mathlib.Core.List.{List}
use Prim.Native.Nat.{ℕ}
use Rattle.std.specs.Prelude.{Result}
use Rattle.refusal.specs.declared.Fault.{Fault}
use Rattle.unigram.specs.Segment.{Scratch}
use Rattle.unigram.specs.Checked.{scratch_of}
use Rattle.coder.specs.declared.Coder.{Coder}
use Rattle.coder.specs.Vocabulary.{sound_in, CodedIn}
use Rattle.coder.specs.Columns.{vocabulary}
use Rattle.coder.proofs.Codes.{segmented-coded, encoded-coded}
use Rattle.coder.proofs.checked.code.Goals as goal

pub segment_tested-requires : goal.segment_tested-requires
unfolding sound_in vocabulary
segment_tested-requires c = c.requires ∙ ap (λ (x : Coder). sound_in (vocabulary x)) c.in-Unigram.is

pub encode_tested-requires : goal.encode_tested-requires
unfolding sound_in vocabulary
encode_tested-requires c = c.requires ∙ ap (λ (x : Coder). sound_in (vocabulary x)) c.in-WordPiece.is

-- the coding of the kind that the coder is known to be
coded-as :
    {coder known : Coder} {s : List ℕ} {before after : Scratch} {answer : Result ℕ Fault} → coder ≡ known
    → CodedIn (vocabulary known) s before answer after → CodedIn (vocabulary coder) s before answer after
coded-as {s = s} {before = before} {after = after} {answer = answer} e p =
    subst (λ (x : Coder). CodedIn (vocabulary x) s before answer after) (sym e) p

pub returns-in-Unigram : goal.returns-in-Unigram
unfolding vocabulary
returns-in-Unigram c = coded-as c.in-Unigram.is (segmented-coded c.segment_tested.ensures)

pub returns-in-WordPiece : goal.returns-in-WordPiece
unfolding vocabulary
returns-in-WordPiece c =
    let a = c.args in
    coded-as c.in-WordPiece.is
    (encoded-coded _ _ _ _ _ (scratch_of a.start.now a.slot_id.now a.slot_score.now a.path.now a.ids.now)
    c.encode_tested.ensures)
