-- `pack::header::is_padded` meets its contract. The loop's invariant: the rows below i are padded. The measure is what is left
-- of them. Assumes nothing.
use mathlib.Core.Path.{sym, ◌∙◌}
use native.Mathlib.Omega.{arith}
use borrow.Author.Tests.{eq-eqb, ne_eqb}
use Rattle.trie.proofs.Every.{every-none, every_more, every-fails}
use Rattle.pack.proofs.header.is_padded.Invariants.{padded}
use Rattle.pack.proofs.header.is_padded.Goals as goal

pub loop-i-init : goal.loop-i-init
loop-i-init c = every-none (padded c.args.bytes.now)

pub returns-then-word-ne0 : goal.returns-then-word-ne0
returns-then-word-ne0 c = sym
    (every-fails (padded c.args.bytes.now) c.args.rows c.loop-i.i (omega arith)
    (ne_eqb _ 0 (λ e. c.if-word-ne0.true (c.word.ensures ∙ e))))

pub loop-i-preserved : goal.loop-i-preserved
loop-i-preserved c =
    every_more (padded c.args.bytes.now) c.loop-i.i c.loop-i.invariant (eq-eqb _ 0 (sym c.word.ensures ∙ c.if-word-ne0.false))
