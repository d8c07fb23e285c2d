-- `unigram::lattice::fill` meets its contract. The loop's invariant: the slots hold the records as they are when the starts
-- before `at` have been worked, and `at` is a boundary. The next boundary is above it, so what is left of the text falls.
-- Assumes nothing.
use Rattle.std.proofs.Common.{refl, ap, ◌∙◌, arith}
use Rattle.text.specs.Text.{boundary}
use Rattle.text.proofs.Boundaries.{boundary-zero, next-above, next-inside, next-boundary}
use Rattle.trie.proofs.SoundParts.{scored-of}
use Rattle.trie.proofs.Walking.{root_stands}
use Rattle.cutting.proofs.Holding.{holds-none, cleared-past, recorded}
use Rattle.unigram.proofs.Given.{given, boundary-stands}
use Rattle.unigram.proofs.lattice.fill.Goals as goal

pub fill_first-requires : goal.fill_first-requires
fill_first-requires c = (root_stands _ (scored-of _ _ _ c.requires.0.sound).parts, refl)

pub loop-at-init : goal.loop-at-init
loop-at-init c = (omega arith, boundary-zero c.args.text.now c.requires.0.well, holds-none c.clear.ensures, λ k l. refl)

pub loop-at-smaller : goal.loop-at-smaller
loop-at-smaller c =
    let above = next-above c.args.text.now c.requires.0.well c.loop-at.at c.loop-at.invariant.1 c.loop-at-test.true in
    omega (arith, c.work_at-at.ensures.0, above)

pub loop-at-preserved : goal.loop-at-preserved
loop-at-preserved c =
    let well = c.requires.0.well in
    let on = c.loop-at.invariant.1 in (
      omega (arith, c.work_at-at.ensures.0, next-inside c.args.text.now well c.loop-at.at on c.loop-at-test.true),
      ap (boundary c.args.text.now) c.work_at-at.ensures.0
          ∙ next-boundary c.args.text.now well c.loop-at.at on c.loop-at-test.true,
      c.work_at-at.ensures.1.holds,
      λ i l. c.work_at-at.ensures.1.past i l ∙ c.loop-at.invariant.3 i l,
    )

pub returns : goal.returns
returns c =
    let ready = c.requires.0 in
    recorded (given _ _ ready.well ready.sound) (boundary-stands _ _ ready.well ready.sound)
    (omega (arith, c.loop-at.invariant.0, c.loop-at-test.false)) (omega arith) c.loop-at.invariant.2
    (λ k l. c.loop-at.invariant.3 k l ∙ cleared-past c.clear.ensures k l)
