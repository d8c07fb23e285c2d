-- `build::steps::start` meets its contract: in columns made zero the root is planted, where there is room for it. Assumes
-- nothing.
use native.Mathlib.Omega.{arith}
use Rattle.build.proofs.Rowing.{root-done}
use Rattle.build.proofs.steps.start.Goals as goal

pub returns : goal.returns
returns c =
    root-done c.requires (omega (arith, c.if-room-eq0.false)) (c.fill.ensures.after (λ y e. e))
    (c.fill-2.ensures.after (λ y e. e))
    c.plant.ensures.0 c.plant.ensures.1
