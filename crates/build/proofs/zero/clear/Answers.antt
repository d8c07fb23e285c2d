-- `build::zero::clear` meets its contract: column by column. Assumes nothing.
use Rattle.build.proofs.Zeros.{cleared-is}
use Rattle.build.proofs.zero.clear.Goals as goal

pub returns : goal.returns
returns c =
    cleared-is c.args.edge_at.now c.args.edge_n.now c.args.id.now c.args.byte.now c.args.to.now c.args.work.now
    (c.fill.ensures.after (λ y e. e)) (c.fill-2.ensures.after (λ y e. e)) (c.fill-3.ensures.after (λ y e. e))
    (c.fill-4.ensures.after (λ y e. e)) (c.fill-5.ensures.after (λ y e. e)) (c.fill-6.ensures.after (λ y e. e))
