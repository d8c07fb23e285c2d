-- `trie::checked::id_at` meets its contract: the mark tells whether the node has an id. Assumes nothing.
use Rattle.std.proofs.Common.{◌∙◌}
use Rattle.trie.specs.Trie.{parts}
use Rattle.trie.proofs.Walking.{id-marked}
use Rattle.trie.proofs.checked.id_at.Goals as goal

pub returns : goal.returns
returns c = c.marked.ensures ∙ id-marked (parts c.args.t.now) c.args.at.node c.requires
