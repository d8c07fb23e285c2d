-- `trie::soundness::targets_inside` meets its contract. The loop's invariant: the targets so far are below the number of nodes.
-- Assumes nothing.
use Rattle.std.proofs.Common.{sym, length, get_or, arith}
use borrow.Author.Tests.{lt-ltb, le-ltb}
use Rattle.trie.proofs.Every.{every-none, every_more, every-fails}
use Rattle.trie.proofs.soundness.targets_inside.Invariants.{below}
use Rattle.trie.proofs.soundness.targets_inside.Goals as goal

pub loop-e-init : goal.loop-e-init
loop-e-init c = every-none (below c.args.to.now c.args.nodes)

pub returns-then-nodes-e : goal.returns-then-nodes-e
returns-then-nodes-e c =
    let a = c.args in
    sym
    (every-fails (below a.to.now a.nodes) (length a.to.now) c.loop-e.e-index (omega arith)
    (le-ltb (get_or a.to.now c.loop-e.e-index 0) a.nodes (omega arith)))

pub loop-e-preserved : goal.loop-e-preserved
loop-e-preserved c =
    let a = c.args in
    every_more (below a.to.now a.nodes) c.loop-e.e-index c.loop-e.invariant
    (lt-ltb (get_or a.to.now c.loop-e.e-index 0) a.nodes (omega arith))
