-- `trie::checked::Walk::step` meets its contract: the edges of a node of sound parts are what the search asks for. Assumes
-- nothing.
use Rattle.trie.proofs.Walking.{edges_stand}
use Rattle.trie.proofs.checked.Walk.step.Goals as goal

pub bounds-t-node-2 : goal.bounds-t-node-2
bounds-t-node-2 c = (edges_stand _ _ c.requires).counted

pub seek-requires : goal.seek-requires
seek-requires c = let e = edges_stand _ _ c.requires in (e.inside, e.inside-to, e.rising)
