use Rattle.std.proofs.Common.{◌≡◌, drop}
use Rattle.trie.specs.Trie.{parts, walk}
use Rattle.trie.specs.Walks.{Stands}
use Rattle.trie.proofs.checked.Walk.over.Given as goal

abbrev pub invariant-loop-b : goal.invariant-loop-b
invariant-loop-b l =
    Stands (parts l.t) l.here.node
    × (walk (parts l.t) l.initial.here.node l.s ≡ walk (parts l.t) l.here.node (drop l.b-index l.s))
