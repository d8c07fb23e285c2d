-- `pack::scores::lowest` meets its contract. The loop's invariant: the lowest of all is that of `low` and the scores from row i
-- on. The measure is what is left of the rows. Assumes nothing.
use mathlib.Core.Path.{sym, ap, ◌∙◌}
use Prim.Native.Nat.{◌<◌, ◌+◌}
use native.Mathlib.Omega.{arith}
use Rattle.doubles.specs.Double.{Double, lower_of}
use Rattle.doubles.specs.Units.{units}
use Rattle.rows.specs.declared.Kind.TheVariants.{Unigram}
use Rattle.rows.specs.Scores.{lowest}
use Rattle.build.specs.Rules.{scores_of}
use Rattle.pack.proofs.Resting.{rest}
use Rattle.pack.proofs.Scoring.{low_turn, low-stop}
use Rattle.pack.proofs.scores.lowest.Goals as goal

pub loop-i-preserved : goal.loop-i-preserved
loop-i-preserved c =
    let a = c.args in
    let here : c.loop-i.i < a.rows = omega arith in
    let read = c.score_at.ensures.very (c.requires.0.finite c.loop-i.i here) in (
      omega arith,
      c.loop-i.invariant.1
          ∙ low_turn a.bytes.now a.rows (units c.loop-i.low) c.loop-i.i here
          ∙ ap (λ (d : Double). lowest d (scores_of (rest Unigram a.bytes.now a.rows (c.loop-i.i + 1))))
          (sym (c.lower-low.ensures ∙ ap (lower_of (units c.loop-i.low)) read)),
    )

pub returns : goal.returns
returns c = sym (c.loop-i.invariant.1 ∙ low-stop c.args.bytes.now c.args.rows (units c.loop-i.low) _ (omega arith))
