-- `text::utf8::character_at` meets its contract: the entry has the length and the range of the lead byte, and each return is
-- one case of `character`. Assumes nothing.
use native.Mathlib.Omega.{arith}
use Rattle.text.proofs.Entries.{entry_length, entry-second, length-le-four}
use Rattle.text.proofs.Reading.{character-past, character-none, character-short, second-bad, tails-bad, character-whole}
use Rattle.text.proofs.utf8.character_at.Goals as goal

pub returns-then-s-i : goal.returns-then-s-i
returns-then-s-i c = grind (arith, character-past)

pub returns-then-n-lt2 : goal.returns-then-n-lt2
returns-then-n-lt2 c = grind (arith, character-short, entry_length)

pub are_tails-is_whole-requires : goal.are_tails-is_whole-requires
are_tails-is_whole-requires c = grind (arith, entry_length, length-le-four)

pub returns-then-is_whole : goal.returns-then-is_whole
returns-then-is_whole c = grind (arith, entry_length, entry-second, character-whole)

pub returns-else-is_whole : goal.returns-else-is_whole
returns-else-is_whole c = grind (arith, entry_length, entry-second, character-none, second-bad, tails-bad)
