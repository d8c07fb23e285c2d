-- `build::tokens::enter` meets its contract. The loop's invariant: the first bytes are entered. Assumes nothing.
use mathlib.Core.Path.{refl}
use native.Mathlib.Omega.{arith}
use Rattle.build.proofs.Entering.{roomy-kept, kept_on, along-start, along-turn}
use Rattle.build.proofs.Entering.{along-full, along-end, along-enterable}
use Rattle.build.proofs.tokens.enter.Goals as goal

pub loop-b-init : goal.loop-b-init
loop-b-init c = (record { nodes = refl; ids = refl; links = refl }, λ ns rule h e. along-start h e c.requires.fits)

pub child-requires : goal.child-requires
child-requires c =
    let p = c.requires in
    along-enterable (c.loop-b.invariant.1 p.names p.rule p.held p.count) (roomy-kept c.loop-b.invariant.0 p.roomy)

pub returns-in_err-at : goal.returns-in_err-at
returns-in_err-at c =
    rw c.from_residual.ensures
    (record { entered = λ ns rule g e. along-full (c.loop-b.invariant.1 ns rule g e) (omega arith) c.in_err-at.ensures })

pub loop-b-preserved : goal.loop-b-preserved
loop-b-preserved c = (
  kept_on c.loop-b.invariant.0 c.child.auto.edge_n c.child.auto.id c.child.auto.work,
  λ ns rule g e. along-turn (c.loop-b.invariant.1 ns rule g e) (omega arith) c.in_ok-at.ensures,
)

pub returns : goal.returns
returns c = record { entered = λ ns rule g e. along-end (c.loop-b.invariant.1 ns rule g e) (omega arith) }
