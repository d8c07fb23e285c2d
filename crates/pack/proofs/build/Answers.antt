-- `pack::build` meets its contract: what is found of the pack is refused, or else it is built. Assumes nothing.
use Rattle.std.proofs.lemmas.Result.{err_from_is_err_and}
use mathlib.Core.Path.{subst}
use mathlib.Core.List.{map}
use Rattle.doubles.specs.Units.{units}
use Rattle.build.specs.Memory.{memory, with_scores}
use Rattle.pack.specs.Reading.{FoundIs}
use Rattle.pack.proofs.Promised.{pack-bad}
use Rattle.pack.proofs.build.Goals as goal

pub returns-in_err-kind : goal.returns-in_err-kind
returns-in_err-kind c =
    let p = err_from_is_err_and c.from_residual.result c.from_residual.ensures.1 in
    rw (p.1, p.2) (pack-bad c.args.bytes.now ((with_scores (memory c.args.edge_at.now c.args.edge_n.now c.args.node_id.now c.args.byte.now c.args.to.now c.args.work.now) (map units c.args.node_score.now))) (subst (FoundIs c.args.bytes.now) c.in_err-kind.was c.judge.ensures))
