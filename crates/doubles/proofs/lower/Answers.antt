-- `doubles::lower` meets its contract: the branch taken is the one that the comparison of the units picks.
-- Assumes nothing.
use mathlib.Core.Path.{◌≡◌, sym, ap, ◌∙◌}
use mathlib.Core.Bool.{Bool, true, false, cond}
use lib.Dec.{T}
use lib.Ieee.{Float, binary64, fits, lt}
use borrow.Author.Rules.{rules}
use Rattle.doubles.specs.Double.{lower_of}
use Rattle.doubles.specs.Units.{units}
use Rattle.doubles.proofs.Floats.{lt-is-less}
use Rattle.doubles.proofs.lower.Goals as goal

picked : (a b : Float) → T (fits binary64 a) → T (fits binary64 b) → (t : Bool) → lt b a ≡ t → cond t (units b) (units a) ≡ lower_of (units a) (units b)
unfolding lower_of
picked a b h k t e = ap (λ (x : Bool). cond x (units b) (units a)) (sym e ∙ lt-is-less b a k h)

pub returns-then-b-a : goal.returns-then-b-a
returns-then-b-a c = picked c.args.a c.args.b (search rules) (search rules) true c.if-b-a.true

pub returns-else-b-a : goal.returns-else-b-a
returns-else-b-a c = picked c.args.a c.args.b (search rules) (search rules) false c.if-b-a.false
