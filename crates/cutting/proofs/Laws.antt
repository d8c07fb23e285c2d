-- What a record takes: the rule of the paper that is easiest to get wrong, by computing its definition. Assumes nothing.
use Rattle.std.specs.Prelude.{Some}
use mathlib.Core.Path.{◌≡◌, ap}
use mathlib.Core.Bool.{true, false, cond}
use Rattle.doubles.specs.Double.{less}
use Rattle.cutting.specs.Cuttings.{Slot}
use Rattle.cutting.specs.Records.{offered}

-- "equal sums keep the earlier start": what is not greater does not replace a record
pub keeps : (r q : Slot) → less r.score q.score ≡ false → offered (Some r) q ≡ r
unfolding offered
keeps r q e = ap (λ b. cond b q r) e

-- a greater sum does
pub takes : (r q : Slot) → less r.score q.score ≡ true → offered (Some r) q ≡ q
unfolding offered
takes r q e = ap (λ b. cond b q r) e
