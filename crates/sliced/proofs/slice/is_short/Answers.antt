-- `sliced::slice::is_short` meets its contract: the tests in their order. Assumes nothing.
use Rattle.std.proofs.Common.{arith}
use Rattle.std.proofs.lemmas.Bool.Decides.{nat_tests}
use lib.ListN.{length-map}
use Rattle.build.specs.Memory.{any_below}
use Rattle.sliced.specs.BuildRows.{short_of}
use Rattle.sliced.proofs.slice.is_short.Goals.{then-off-n, else-off-n}
use Rattle.sliced.proofs.slice.is_short.Goals as goal

pub returns-then-len-n : goal.returns-then-len-n
unfolding any_below short_of
returns-then-len-n c = simp length-map (elim c.if-off-n.branch [ then-off-n w ↦ grind (arith, nat_tests) | else-off-n w ↦ grind (arith, nat_tests) ])

pub returns-else-len-n : goal.returns-else-len-n
unfolding any_below short_of
returns-else-len-n c = simp length-map (grind (arith, nat_tests))
