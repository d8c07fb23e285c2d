-- `build::lay::lay_node` meets its contract. Assumes nothing.
use native.Mathlib.Omega.{arith}
use Rattle.build.specs.Parts.{edges_of}
use Rattle.build.proofs.Edges.{edges_few}
use Rattle.build.proofs.Places.{place-below}
use Rattle.build.proofs.lay.lay_node.Goals as goal

pub overflow_cast-edge_n : goal.overflow_cast-edge_n
unfolding edges_of
overflow_cast-edge_n c =
    let p = c.requires.children.chained in
    omega (arith, (c.lay_children-end.ensures.laid p).count, edges_few 256 p.names p.string 0)

pub bounds-edge_n-node : goal.bounds-edge_n-node
bounds-edge_n-node c =
    let p = c.requires.children.chained in
    omega (arith, p.bytes.room, place-below p.names p.string c.args.node p.here)
