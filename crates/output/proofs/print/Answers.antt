-- `output::print` meets its contract: a pack that is too large is refused, and else it is built in zero columns and printed.
-- Assumes nothing.
use Prim.Native.Nat.{ℕ}
use lib.Ieee.{Float, binary64, of_bits}
use lib.ListN.{length-replicate}
use Rattle.doubles.proofs.Patterns.{zero-units}
use Rattle.text.specs.Ascii.{ascii}
use Rattle.output.proofs.Putting.{put_as}
use Rattle.output.proofs.Packs.{lent-built, pack-large, pack-small}
use native.Mathlib.Omega.{arith}
use Rattle.output.proofs.print.Goals as goal

pub returns-then-pack-gt-MAX_PACK : goal.returns-then-pack-gt-MAX_PACK
unfolding ascii
returns-then-pack-gt-MAX_PACK c = put_as (pack-large c.args.pack.now c.args.input.now c.if-pack-gt-MAX_PACK.true) c.put_refusal.ensures.0

pub print_built-requires : goal.print_built-requires
print_built-requires c = let n = length-replicate {A = ℕ} 4_096 0 in (
  record {
    work = c.build-answer.new.work;
    built = lent-built c.args.pack.now c.build-answer.result _ zero-units c.build-answer.ensures;
    small = c.if-pack-gt-MAX_PACK.false;
    places =
        record {
          root = omega arith;
          starts = omega (arith, c.build-answer.auto.edge_at, n);
          counts = omega (arith, c.build-answer.auto.edge_n, n);
          ids = omega (arith, c.build-answer.auto.node_id, n);
          bytes = omega (arith, c.build-answer.auto.byte, n);
          targets = omega (arith, c.build-answer.auto.to, n);
        };
    scored = omega (arith, c.build-answer.auto.node_score, length-replicate {A = Float} 4_096 (of_bits binary64 0));
  },
  c.requires,
)

pub returns : goal.returns
returns c = put_as (pack-small c.args.pack.now c.args.input.now c.if-pack-gt-MAX_PACK.false) c.print_built.ensures
