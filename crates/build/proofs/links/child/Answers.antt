-- `build::links::child` meets its contract. The link that `seek` finds leads to the child by the byte, if that is there; else
-- the new node is put behind it, or no room is left. Assumes nothing.
use mathlib.Core.Path.{◌≡◌}
use native.Mathlib.Omega.{arith}
use lib.ListN.{get_or}
use Rattle.build.proofs.Holding.{held-chained, link-inside, child-inside, child-there, child-absent, byte-there}
use Rattle.build.proofs.Holding.{byte_full, byte-made}
use Rattle.build.proofs.links.child.Goals.{else-k-ne0-via-then-k-ne0+else-edge_n-k as other_byte}
use Rattle.build.proofs.links.child.Goals.{else-k-ne0-via-else-k-ne0 as no_child}
use Rattle.build.proofs.links.child.Goals as goal

pub offset_bounds-work-at : goal.offset_bounds-work-at
offset_bounds-work-at c = omega (arith, link-inside c.requires c.seek-at.ensures, c)

pub bounds-work-at : goal.bounds-work-at
bounds-work-at c = omega (arith, link-inside c.requires c.seek-at.ensures)

pub bounds-edge_n-k : goal.bounds-edge_n-k
bounds-edge_n-k c = child-inside c.requires c.seek-at.ensures c.if-k-ne0.true

pub returns-then-edge_n-k : goal.returns-then-edge_n-k
returns-then-edge_n-k c = record {
  entered = λ ns rule s h n e.
      byte-there h s c.args.b n c.requires.fits
      (child-there h.links h.bytes e (c.seek-at.ensures.slot (held-chained s h e)) c.if-k-ne0.true c.if-edge_n-k.true);
}

pub returns-then-n-room : goal.returns-then-n-room
returns-then-n-room c =
    let k = get_or c.args.work.now c.seek-at.result 0 in
    let other : (k ≡ 0 → ⊥) → get_or c.args.edge_n.now k 0 ≡ c.args.b → ⊥ =
    elim c.else-k-ne0.branch [ other_byte w ↦ λ z. w.if-edge_n-k.false | no_child w ↦ λ z. absurd (z w.if-k-ne0.false) ] in
    record {
      entered = λ ns rule s h n e.
          let slot = c.seek-at.ensures.slot (held-chained s h e) in
          byte_full h s c.args.b n c.requires.fits (child-absent h.links h.bytes e slot (omega arith) other) c.if-n-room.true;
    }

pub link-requires : goal.link-requires
link-requires c =
    let roomy = c.requires.roomy in (
      (link-inside c.requires c.seek-at.ensures).0,
      record {
        nodes = omega (arith, c.requires.fits, c.if-n-room.false, roomy.nodes);
        ids = omega (arith, c.requires.fits, c.if-n-room.false, roomy.ids);
        links = omega (arith, c.requires.fits, c.if-n-room.false, roomy.links);
        small = omega (arith, c.requires.fits, c.if-n-room.false, roomy.small);
      },
    )

pub returns : goal.returns
returns c =
    let k = get_or c.args.work.now c.seek-at.result 0 in
    let other : (k ≡ 0 → ⊥) → get_or c.args.edge_n.now k 0 ≡ c.args.b → ⊥ =
    elim c.else-k-ne0.branch [ other_byte w ↦ λ z. w.if-edge_n-k.false | no_child w ↦ λ z. absurd (z w.if-k-ne0.false) ] in
    record {
      entered = λ ns rule s h n e.
          let slot = c.seek-at.ensures.slot (held-chained s h e) in
          byte-made h s c.args.b n c.requires.fits e (child-absent h.links h.bytes e slot (omega arith) other) slot
          (omega arith) (omega (arith, c.requires.fits, c.if-n-room.false)) c.requires.roomy c.link.ensures.0
          c.link.ensures.1 c.link.ensures.2;
    }
