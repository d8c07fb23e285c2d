-- `trie::exact_unscored` meets its contract: the size is tested, then soundness, and `look_up` answers the rest. Assumes
-- nothing.
use mathlib.Core.Path.{sym, ◌∙◌}
use native.Mathlib.Omega.{arith}
use Rattle.trie.proofs.Lookups.{fault-size, refused-for, refused-unsound}
use Rattle.trie.proofs.exact_unscored.Goals as goal

pub returns-then-text-gt-MAX_TEXT : goal.returns-then-text-gt-MAX_TEXT
returns-then-text-gt-MAX_TEXT c = refused-for (fault-size c.args.text.now _ (omega arith))

pub returns-then-not-sound : goal.returns-then-not-sound
returns-then-not-sound c = refused-unsound (omega arith) (sym c.sound.ensures ∙ c.if-not-sound.true)
