use Rattle.trie.specs.Trie.{parts}
use Rattle.wordpiece.proofs.Longest.{Come}
use Rattle.wordpiece.proofs.checked.longest.Given as goal

abbrev pub invariant-loop-j : goal.invariant-loop-j
invariant-loop-j l = Come (parts l.t) l.fn.from.node l.w l.i l.here.node l.j l.best
