use Prim.Native.Nat.{◌+◌, ◌-◌}
use lib.ListN.{length}
use Rattle.coder.specs.Columns.{vocabulary}
use Rattle.output.specs.Output.{coded_line}
use Rattle.output.proofs.Printing.{Lent}
use Rattle.output.proofs.Following.{Printed}
use Rattle.output.proofs.coded.put_lines.Given as goal

abbrev pub invariant-loop-from : goal.invariant-loop-from
invariant-loop-from l = Printed (coded_line (vocabulary l.coder)) l.input l.initial.out l.at l.from l.out
    × Lent l.start l.slot_id l.slot_score l.path l.ids

abbrev pub decreases-loop-from : goal.decreases-loop-from
decreases-loop-from l = length l.input + 1 - l.from
