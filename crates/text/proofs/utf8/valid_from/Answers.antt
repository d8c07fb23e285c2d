-- `text::utf8::valid_from` meets its contract: RFC 3629's rule is one test, the second `refl`, which antt computes over the
-- whole table; `lead-table` carries it to each entry. Assumes nothing.
use mathlib.Core.Path.{refl}
use Rattle.text.specs.Lead.{entry_of}
use Rattle.text.proofs.Entries.{lead-table}
use Rattle.text.proofs.utf8.valid_from.Goals as goal

pub valid_by-requires : goal.valid_by-requires
unfolding entry_of
valid_by-requires c = (lead-table _ refl refl, c.requires)
