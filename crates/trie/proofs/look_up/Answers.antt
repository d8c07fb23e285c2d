-- `trie::look_up` meets its contract: an ill-formed text is refused, and else the answer is the string's id or that it has
-- none. Assumes nothing.
use Rattle.std.proofs.lemmas.Result.{err_from_is_err_and}
use mathlib.Core.Path.{sym, ◌∙◌}
use Rattle.trie.proofs.Lookups.{fault-text, refused-for, found-for}
use Rattle.trie.proofs.look_up.Goals as goal

pub returns-in_err-judge : goal.returns-in_err-judge
returns-in_err-judge c =
    let p = err_from_is_err_and c.from_residual.result c.from_residual.ensures.1 in
    rw (p.1, p.2) (refused-for (fault-text c.args.s.now c.requires.1 ∙ sym c.in_err-judge.ensures))

pub returns : goal.returns
returns c = found-for (fault-text c.args.s.now c.requires.1 ∙ sym c.in_ok-judge.ensures) (sym c.exact.ensures)
