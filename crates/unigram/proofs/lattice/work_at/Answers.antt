-- `unigram::lattice::work_at` meets its contract: every string with an id is offered, and the unknown character where none is
-- one character long, so every piece from `at` has been offered. Assumes nothing.
use Rattle.std.proofs.Common.{refl, ap, ℕ, ◌+◌, ◌≤◌, length, arith}
use Rattle.cutting.proofs.Columns.{inside-kept, score-read}
use Rattle.unigram.proofs.Offering.{one_inside, walkable, worked_known, worked_unknown}
use Rattle.unigram.proofs.lattice.work_at.Goals as goal

pub overflow_add-one : goal.overflow_add-one
overflow_add-one c =
    let inside : c.args.at + c.char_len.result ≤ length c.args.text.now =
    one_inside c.requires.0 (ap (λ (n : ℕ). c.args.at + n) c.char_len.ensures)
    in
    omega arith

pub offer_known-requires : goal.offer_known-requires
offer_known-requires c =
    (walkable c.requires.0 (ap (λ (n : ℕ). c.args.at + n) c.char_len.ensures), c.requires.0.inside, c.requires.1)

pub returns-then-offer_known : goal.returns-then-offer_known
returns-then-offer_known c =
    worked_known c.requires.0 (ap (λ (n : ℕ). c.args.at + n) c.char_len.ensures)
    (score-read _ _ _ _ _ (omega (arith, c.requires.0.inside.score, c.requires.0.below)))
    c.offer_known.ensures c.if-offer_known.true

pub offer-requires : goal.offer-requires
offer-requires c =
    inside-kept c.requires.0.inside (one_inside c.requires.0 (ap (λ (n : ℕ). c.args.at + n) c.char_len.ensures))
    c.offer_known.auto.start c.offer_known.auto.slot_id c.offer_known.auto.slot_score

pub returns : goal.returns
returns c =
    worked_unknown c.requires.0 (ap (λ (n : ℕ). c.args.at + n) c.char_len.ensures)
    (score-read _ _ _ _ _ (omega (arith, c.requires.0.inside.score, c.requires.0.below)))
    c.offer_known.ensures c.if-offer_known.false refl refl c.added.ensures c.offer.ensures
