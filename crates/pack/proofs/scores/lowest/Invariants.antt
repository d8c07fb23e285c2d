use mathlib.Core.Path.{◌≡◌}
use Prim.Native.Nat.{◌-◌, ◌≤◌}
use Rattle.doubles.specs.Units.{units}
use Rattle.rows.specs.declared.Kind.TheVariants.{Unigram}
use Rattle.rows.specs.Scores.{lowest}
use Rattle.build.specs.Rules.{scores_of}
use Rattle.pack.specs.Pack.{rows_from}
use Rattle.pack.specs.Reading.{double_at}
use Rattle.pack.proofs.Resting.{rest}
use Rattle.pack.proofs.scores.lowest.Given as goal

abbrev pub invariant-loop-i : goal.invariant-loop-i
invariant-loop-i l = (1 ≤ l.i) × (lowest (double_at l.bytes 44) (scores_of (rows_from Unigram l.bytes 52 (l.rows - 1))) ≡ lowest (units l.low) (scores_of (rest Unigram l.bytes l.rows l.i)))
