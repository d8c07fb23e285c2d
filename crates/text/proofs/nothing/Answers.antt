-- `text::nothing` meets its contract: a part that ends where it starts is empty. Assumes nothing.
use Rattle.std.proofs.Common.{rules}
use Rattle.refusal.specs.Refusal.{unless_fault}
use Rattle.text.proofs.nothing.Goals as goal

pub returns : goal.returns
unfolding unless_fault
returns c = record { gave = search rules; block = search rules; stands = search rules }
