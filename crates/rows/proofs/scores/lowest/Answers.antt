-- `rows::scores::lowest` meets its contract. The loop's invariant: the lowest of x and all scores is that of `low` and the
-- scores from i on. The measure is what is left of the length. Assumes nothing.
use mathlib.Core.Path.{sym, ap, ◌∙◌}
use mathlib.Core.List.{map}
use Prim.Native.Nat.{ℕ, suc, ◌<◌}
use native.Mathlib.Numerals.{add-one}
use native.Mathlib.Omega.{arith}
use lib.ListN.{length, drop}
use Rattle.doubles.specs.Double.{Double}
use Rattle.doubles.specs.Units.{units}
use Rattle.rows.specs.Scores.{lowest}
use Rattle.rows.proofs.LowestScores.{low_turn, low-stop}
use Rattle.rows.proofs.scores.lowest.Goals as goal

pub loop-y-preserved : goal.loop-y-preserved
loop-y-preserved c =
    let i = c.loop-y.y-index in
    let below : i < length c.args.score.now = omega arith in
    c.loop-y.invariant
    ∙ low_turn c.args.score.now (units c.loop-y.low) i below
    ∙ ap (λ (x : Double). lowest x (map units (drop (suc i) c.args.score.now))) (sym c.lower-low.ensures)
    ∙ ap (λ (k : ℕ). lowest (units c.lower-low.result) (map units (drop k c.args.score.now))) (sym (add-one i))

pub returns : goal.returns
returns c = sym (c.loop-y.invariant ∙ low-stop c.args.score.now (units c.loop-y.low) _ (omega arith))
