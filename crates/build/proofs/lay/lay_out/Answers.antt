-- `build::lay::lay_out` meets its contract: the columns are made zero, the nodes laid out, the work places made zero. The
-- loop's invariant: the first k nodes are laid out, and `at` is the number of their edges. The measure is what is left of the
-- nodes. Assumes nothing.
use mathlib.Core.Path.{◌∙◌}
use Prim.Native.Nat.{◌<◌}
use native.Mathlib.Omega.{arith}
use lib.ListN.{length}
use Rattle.build.specs.Laying.{AllReady}
use Rattle.build.proofs.Out.{chained-at, laid-few, laid-turn, laid_end}
use Rattle.build.proofs.Filled.{ready-again, all_laid}
use Rattle.build.proofs.lay.lay_out.Goals as goal

pub lay_node-at-requires : goal.lay_node-at-requires
lay_node-at-requires c =
    let p : AllReady c.fill.new.self c.args.edge_n.now c.fill-2.new.self c.fill-3.new.self c.args.work.now c.args.n =
    ready-again c.requires (c.fill.ensures.after (λ y e. e)) (c.fill-2.ensures.after (λ y e. e))
    (c.fill-3.ensures.after (λ y e. e)) in
    let laid = c.loop-k.invariant.1 p.names p.links p.bytes p.count in
    let there : c.loop-k.k < length p.names = omega (arith, p.count) in
    let few = laid-few laid there p.links in
    record {
      children = record {
        chained = chained-at p.links laid.bytes there;
        small = omega (arith, p.count, p.small);
        room-byte = omega (arith, few, p.count, p.room-byte, c.loop-k.invariant.0.bytes);
        room-to = omega (arith, few, p.count, p.room-to, c.loop-k.invariant.0.targets);
      };
      there = omega (arith, there, p.count, p.room_at, c.loop-k.invariant.0.starts);
      few = omega (arith, few, p.count, p.small);
    }

pub loop-k-preserved : goal.loop-k-preserved
loop-k-preserved c = (
  record {
    starts = c.lay_node-at.auto.edge_at ∙ c.loop-k.invariant.0.starts;
    counts = c.lay_node-at.auto.edge_n ∙ c.loop-k.invariant.0.counts;
    bytes = c.lay_node-at.auto.byte ∙ c.loop-k.invariant.0.bytes;
    targets = c.lay_node-at.auto.to ∙ c.loop-k.invariant.0.targets;
  },
  λ ns l sp e.
      let laid = c.loop-k.invariant.1 ns l sp e in
      let there : c.loop-k.k < length ns = omega arith in
      laid-turn laid there (c.lay_node-at.ensures.laid (chained-at l laid.bytes there)),
)

pub returns : goal.returns
returns c = record {
  laid = λ ns rule id held n.
      all_laid held n c.requires (c.fill.ensures.after (λ y e. e)) (c.fill-2.ensures.after (λ y e. e))
      (c.fill-3.ensures.after (λ y e. e)) (laid_end (c.loop-k.invariant.1 ns held.links held.bytes n) (omega arith))
      (c.fill-4.ensures.after (λ y e. e));
}
