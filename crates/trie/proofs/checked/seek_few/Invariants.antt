use Rattle.std.proofs.Common.{◌≡◌, ◌+◌, ◌-◌}
use Rattle.trie.specs.Trie.{seek}
use Rattle.trie.proofs.checked.seek_few.Given as goal

abbrev pub invariant-loop-k : goal.invariant-loop-k
invariant-loop-k l = seek l.byte l.to l.b l.at l.n ≡ seek l.byte l.to l.b (l.at + l.k) (l.at + l.n - (l.at + l.k))
