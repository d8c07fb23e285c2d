-- `exports::builds::put_score` meets its contract: one store, if there is a place. Assumes nothing.
use mathlib.Core.Path.{◌≡◌, refl}
use mathlib.Core.List.{List, [], ◌∷◌, map}
use Prim.Native.Nat.{◌≤◌, ◌<◌}
use native.Mathlib.Omega.{arith}
use lib.Ieee.{Float}
use lib.ListN.{length, set}
use Rattle.doubles.specs.Units.{units}
use Rattle.exports.specs.Flat.{with_first}
use Rattle.exports.proofs.builds.put_score.Goals as goal

stored : (xs : List Float) (x : Float) → 0 < length xs → map units (set xs 0 x) ≡ with_first (units x) (map units xs)
stored [] x h = absurd (omega arith)
stored (y ∷ ys) x h = refl

none-there : (xs : List Float) (x : Float) → length xs ≤ 0 → map units xs ≡ with_first (units x) (map units xs)
none-there [] x h = refl
none-there (y ∷ ys) x h = absurd (omega arith)

pub returns-then-places-gt0 : goal.returns-then-places-gt0
returns-then-places-gt0 c = stored c.args.places.now c.args.x c.if-places-gt0.true
