-- `text::checked::span` meets its contract: the part that is cut out stands as far from the table's start as it is cut. Assumes
-- nothing.
use mathlib.Core.Path.{refl}
use native.Mathlib.Omega.{arith}
use Rattle.refusal.specs.Refusal.{unless_fault}
use Rattle.text.proofs.Spans.{part-is}
use Rattle.text.proofs.checked.span.Goals as goal

pub returns : goal.returns
unfolding unless_fault
returns c = record { gave = part-is c.args.tab.now c.args.off c.args.len; block = refl; stands = omega arith }
