-- `build::lay::lay_children` meets its contract. The loop's invariant: the edges written so far and those from `low` on are the
-- node's edges, and k is the first child by a byte from `low` on. Each child takes a byte of its own, so at most 256 are
-- written. Assumes nothing.
use mathlib.Core.Path.{refl, ◌∙◌}
use native.Mathlib.Omega.{arith}
use lib.ListN.{get_or, length-set}
use Rattle.build.proofs.Children.{writing_start, writing-turn, writing-end, laying_inside, node_link}
use Rattle.build.proofs.lay.lay_children.Goals as goal

pub overflow_mul-k : goal.overflow_mul-k
overflow_mul-k c = omega (arith, node_link c.requires, c.well_formed)

pub offset_bounds-work-node : goal.offset_bounds-work-node
offset_bounds-work-node c = omega (arith, node_link c.requires, c.well_formed)

pub bounds-work-node : goal.bounds-work-node
bounds-work-node c = node_link c.requires

pub loop-k-init : goal.loop-k-init
loop-k-init c = record { bytes = refl; targets = refl; children = λ p. writing_start p.links c.args.node p.here }

pub loop-k-preserved : goal.loop-k-preserved
loop-k-preserved c =
    let l = c.loop-k.invariant in
    record {
      bytes = length-set c.loop-k.byte c.loop-k.at (get_or c.args.edge_n.now c.loop-k.k 0) ∙ l.bytes;
      targets = length-set c.loop-k.to c.loop-k.at c.loop-k.k ∙ l.targets;
      children = λ p. writing-turn p.links p.bytes p.here (l.children p) c.loop-k-test.true;
    }

pub returns : goal.returns
returns c = record {
  laid = λ p. writing-end p.links p.bytes p.here (c.loop-k.invariant.children p) c.loop-k-test.false;
}

pub offset_bounds-edge_n-k : goal.offset_bounds-edge_n-k
offset_bounds-edge_n-k c = omega (arith, laying_inside c.requires c.loop-k.invariant c.loop-k-test.true, c.well_formed)

pub bounds-edge_n-k : goal.bounds-edge_n-k
bounds-edge_n-k c = (laying_inside c.requires c.loop-k.invariant c.loop-k-test.true).node

pub overflow_cast-byte : goal.overflow_cast-byte
overflow_cast-byte c = omega (arith, laying_inside c.requires c.loop-k.invariant c.loop-k-test.true)

pub bounds-byte-at : goal.bounds-byte-at
bounds-byte-at c = (laying_inside c.requires c.loop-k.invariant c.loop-k-test.true).in-byte

pub overflow_cast-to : goal.overflow_cast-to
overflow_cast-to c = omega (arith, laying_inside c.requires c.loop-k.invariant c.loop-k-test.true)

pub offset_bounds-to-at : goal.offset_bounds-to-at
offset_bounds-to-at c =
    omega (arith, laying_inside c.requires c.loop-k.invariant c.loop-k-test.true, c.loop-k.invariant.targets, c.well_formed)

pub bounds-to-at : goal.bounds-to-at
bounds-to-at c = (laying_inside c.requires c.loop-k.invariant c.loop-k-test.true).in-to

pub overflow_add-at : goal.overflow_add-at
overflow_add-at c =
    omega (arith, laying_inside c.requires c.loop-k.invariant c.loop-k-test.true, c.loop-k.invariant.targets, c.well_formed)

pub overflow_mul-k-in-loop-k : goal.overflow_mul-k-in-loop-k
overflow_mul-k-in-loop-k c = omega (arith, laying_inside c.requires c.loop-k.invariant c.loop-k-test.true)

pub overflow_add-k : goal.overflow_add-k
overflow_add-k c = omega (arith, laying_inside c.requires c.loop-k.invariant c.loop-k-test.true)

pub offset_bounds-work-k : goal.offset_bounds-work-k
offset_bounds-work-k c = omega (arith, laying_inside c.requires c.loop-k.invariant c.loop-k-test.true, c.well_formed)

pub bounds-work-k : goal.bounds-work-k
bounds-work-k c = (laying_inside c.requires c.loop-k.invariant c.loop-k-test.true).link

pub loop-k-smaller : goal.loop-k-smaller
loop-k-smaller c = omega (arith, laying_inside c.requires c.loop-k.invariant c.loop-k-test.true)
