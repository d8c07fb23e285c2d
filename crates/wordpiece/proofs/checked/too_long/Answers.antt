-- `wordpiece::checked::too_long` meets its contract: a text has no more characters than bytes. Assumes nothing.
use Rattle.std.proofs.Common.{sym, ◌∙◌, arith}
use borrow.Author.Tests.{le-ltb}
use Rattle.text.proofs.Boundaries.{characters-le}
use Rattle.wordpiece.proofs.checked.too_long.Goals as goal

pub returns-else-most-w : goal.returns-else-most-w
returns-else-most-w c =
    le-ltb _ _ c.if-most-w.false ∙ sym (le-ltb _ _ (omega (arith, c.if-most-w.false, characters-le c.args.w.now)))
