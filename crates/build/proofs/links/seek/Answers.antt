-- `build::links::seek` meets its contract. The loop's invariant: `at` has the link to the first child by a byte from `low` on,
-- for some `low` up to the byte sought. What is left of the bytes after the last child falls. Assumes nothing.
use native.Mathlib.Omega.{arith}
use Rattle.build.proofs.Seeking.{node-inside, walk-start, walk-end, walk-inside, walk-falls, walk-on, walk_stop}
use Rattle.build.proofs.links.seek.Goals as goal

pub overflow_mul-at : goal.overflow_mul-at
overflow_mul-at c = omega (arith, node-inside c.requires)

pub loop-node-init : goal.loop-node-init
loop-node-init c = walk-start c.args.b c.requires

pub returns-then-k-eq0 : goal.returns-then-k-eq0
returns-then-k-eq0 c = walk-end c.loop-node.invariant (omega arith) c.if-k-eq0.true

pub bounds-edge_n-k : goal.bounds-edge_n-k
bounds-edge_n-k c = (walk-inside c.loop-node.invariant c.if-k-eq0.false c.requires).0

pub returns-then-byte-edge_n : goal.returns-then-byte-edge_n
returns-then-byte-edge_n c = walk_stop c.loop-node.invariant c.if-k-eq0.false c.if-byte-edge_n.true

pub loop-node-smaller : goal.loop-node-smaller
loop-node-smaller c = walk-falls c.loop-node.invariant c.if-k-eq0.false c.requires

pub loop-node-preserved : goal.loop-node-preserved
loop-node-preserved c = walk-on c.loop-node.invariant c.if-k-eq0.false c.requires c.if-byte-edge_n.false
