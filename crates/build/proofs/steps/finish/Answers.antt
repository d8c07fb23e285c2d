-- `build::steps::finish` meets its contract: the nodes are laid out, or all is zero where they had no room. Assumes nothing.
use mathlib.Core.Path.{subst}
use Rattle.build.specs.Names.{names}
use Rattle.build.specs.Rules.{tokens_of}
use Rattle.build.specs.Given.{rules_from, no_rule}
use Rattle.build.specs.Memory.{memory}
use Rattle.build.specs.Held.{Stands, RowDone}
use Rattle.build.proofs.Filled.{built-done}
use Rattle.build.proofs.steps.finish.Goals as goal

pub returns-in-Some : goal.returns-in-Some
returns-in-Some c = record {
  built = λ kind tab rows room done.
      let ns = names (tokens_of tab rows) in
      let rule = rules_from kind tab no_rule 0 rows in
      let a = c.args in
      let all : Stands ns rule room a.edge_n.now a.id.now a.work.now c.in-Some.n =
      subst (RowDone ns rule room a.edge_n.now a.id.now a.work.now) c.in-Some.is done in
      built-done kind tab rows room (memory a.edge_at.now a.edge_n.now a.id.now a.byte.now a.to.now a.work.now) all
      (c.lay_out.ensures.laid ns rule a.id.now all.held all.count);
}
