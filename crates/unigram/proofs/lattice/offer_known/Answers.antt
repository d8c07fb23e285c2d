-- `unigram::lattice::offer_known` meets its contract. The loop's invariant: the walk over the bytes from `at` up to i has come
-- to the node, and each string that ends by i has been offered. Assumes nothing.
use Rattle.std.proofs.Common.{sym, ap, ◌∙◌, arith}
use Rattle.std.proofs.lemmas.List.{length-map}
use Rattle.doubles.specs.Units.{units}
use Rattle.trie.specs.Walks.{next_of}
use Rattle.cutting.proofs.Columns.{inside-kept}
use Rattle.unigram.proofs.Offering.{walked-first, walked-stands, walked-over, next_there, walked-more, walked-all}
use Rattle.unigram.proofs.lattice.offer_known.Goals as goal

pub loop-i-init : goal.loop-i-init
loop-i-init c = rw c.root-here.ensures (walked-first c.requires.0)

pub step_by-requires-clause-stands : goal.step_by-requires-clause-stands
step_by-requires-clause-stands c = walked-stands c.requires.0 c.loop-i.invariant

pub returns-in_default : goal.returns-in_default
returns-in_default c =
    walked-over c.requires.0 c.loop-i.invariant (omega arith) (omega arith) (sym c.step_by.ensures ∙ ap next_of c.in_default.is)

pub end_at-single-requires : goal.end_at-single-requires
end_at-single-requires c =
    let there = next_there c.requires.0 c.loop-i.invariant (omega arith) (omega arith) (sym c.in-Some.ensures) in (
      there.0,
      omega (arith, there.1, length-map c.args.m.now.score.now units),
      omega (arith, c.requires.0.inside, c.requires.0.size),
      inside-kept c.requires.1 (omega arith) c.loop-i.auto.start c.loop-i.auto.slot_id c.loop-i.auto.slot_score,
    )

pub loop-i-preserved : goal.loop-i-preserved
loop-i-preserved c =
    walked-more c.requires.0 c.loop-i.invariant (omega arith) (omega arith) (sym c.in-Some.ensures) c.end_at-single.ensures

pub returns : goal.returns
returns c = walked-all c.requires.0 c.loop-i.invariant (omega arith)
