use Rattle.std.proofs.Common.{◌+◌, ◌-◌}
use Rattle.trie.proofs.Leading.{Led}
use Rattle.trie.proofs.checked.fill_first.Given as goal

abbrev pub invariant-loop-i : goal.invariant-loop-i
invariant-loop-i l = Led l.t.byte.now l.t.to.now l.first (l.at + l.i) (l.n - l.i)
