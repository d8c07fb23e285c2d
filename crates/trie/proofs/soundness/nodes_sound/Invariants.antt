use Rattle.std.proofs.Common.{◌≡◌, true}
use Rattle.trie.specs.Trie.{parts}
use Rattle.trie.specs.Sound.{every, sound_node}
use Rattle.trie.proofs.soundness.nodes_sound.Given as goal

abbrev pub invariant-loop-k : goal.invariant-loop-k
invariant-loop-k l = every l.k (sound_node (parts l.t)) ≡ true
