use Rattle.std.proofs.Common.{length}
use Rattle.trie.specs.Trie.{parts}
use Rattle.unigram.specs.Pieces.{part_id}
use Rattle.unigram.proofs.Placing.{Going}
use Rattle.unigram.proofs.runs.merge.Given as goal

abbrev pub invariant-loop-place : goal.invariant-loop-place
invariant-loop-place l =
    Going (part_id (parts l.m.trie) l.text) l.m.unknown (length l.text) l.slot_id l.path l.initial.ids l.ids l.n l.run l.at
    l.place-index
