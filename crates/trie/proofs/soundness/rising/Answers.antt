-- `trie::soundness::rising` meets its contract. Assumes nothing.
use Rattle.std.proofs.Common.{rules, ltb}
use Rattle.std.proofs.lemmas.List.Sorted.{answers_always}
use borrow.Author.Tests.{tests}
use Rattle.trie.proofs.SoundParts.{rises-told}
use Rattle.trie.proofs.soundness.rising.Goals as goal

pub returns : goal.returns
returns c =
    let a = c.args in
    rises-told a.byte.now a.at a.n c.requires _
    (c.is_sorted_by.ensures.cases ltb (answers_always _ _ _ (λ f x r q k. search (rules, tests))))
