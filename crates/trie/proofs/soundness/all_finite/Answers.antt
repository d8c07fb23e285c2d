-- `trie::soundness::all_finite` meets its contract. Assumes nothing.
use Rattle.std.proofs.Common.{rules}
use Rattle.std.specs.Float.{nan}
use Rattle.trie.proofs.SoundParts.{finite-told}
use Rattle.trie.proofs.soundness.all_finite.Goals as goal

pub returns : goal.returns
returns c = finite-told c.args.score.now nan _ (search rules)
