-- `trie::exact` meets its contract: the size is tested, then soundness, and `look_up` answers the rest. Assumes nothing.
use Rattle.std.proofs.Common.{sym, ◌∙◌, arith}
use Rattle.trie.proofs.SoundParts.{scored-of}
use Rattle.trie.proofs.Lookups.{fault-size, refused-for, refused-unsound}
use Rattle.trie.proofs.exact.Goals as goal

pub returns-then-text-gt-MAX_TEXT : goal.returns-then-text-gt-MAX_TEXT
returns-then-text-gt-MAX_TEXT c = refused-for (fault-size c.args.text.now _ (omega arith))

pub returns-then-not-sound_scored : goal.returns-then-not-sound_scored
returns-then-not-sound_scored c = refused-unsound (omega arith) (sym c.sound_scored.ensures ∙ c.if-not-sound_scored.true)

pub look_up-requires : goal.look_up-requires
look_up-requires c = ((scored-of _ _ _ (sym c.sound_scored.ensures ∙ c.if-not-sound_scored.false)).parts, omega arith)
