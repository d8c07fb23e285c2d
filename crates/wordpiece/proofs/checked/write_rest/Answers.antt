-- `wordpiece::checked::write_rest` meets its contract. The loop's invariant: what is left of the rest says what it all is. The
-- measure is what is left of the word, since a piece is not empty. Assumes nothing.
use Rattle.std.proofs.Common.{◌≡◌, sym, arith}
use Rattle.wordpiece.proofs.Rest.{longest-ends, rest_end, rest-miss, rest-piece, left-on, left_miss, left_none}
use Rattle.wordpiece.proofs.checked.write_rest.Goals as goal

pub returns-in_default : goal.returns-in_default
returns-in_default c =
    let miss = rest-miss _ _ _ c.loop-at-test.true (sym c.in_default.ensures) in
    left_miss _ _ _ c.loop-at.n (rw miss at c.loop-at.invariant.2)

pub loop-at-smaller : goal.loop-at-smaller
loop-at-smaller c =
    let ends = longest-ends _ _ _ _ _ (sym c.in-Some.ensures) in
    omega (arith, ends.above, ends.below)

pub loop-at-preserved : goal.loop-at-preserved
loop-at-preserved c =
    let piece = sym c.in-Some.ensures in
    let ends = longest-ends _ _ _ _ _ piece in
    let on = rw (rest-piece _ _ _ c.loop-at-test.true piece) at c.loop-at.invariant.2 in (
      ends.below,
      omega (arith, c.loop-at.invariant.1, ends.above),
      rw c.hold.ensures (left-on _ _ _ _ _ _ on),
    )

pub returns : goal.returns
returns c =
    let last : c.loop-at.at ≡ _ = omega (arith, c.loop-at.invariant.0, c.loop-at-test.false) in
    left_none _ _ _ c.loop-at.n (rw (rest_end _ _ _ last) at c.loop-at.invariant.2)
