-- `pack::header::kind_laid_out` meets its contract: the kind 1 with bare words, the kind 2 with padded rows, and no other.
-- Assumes nothing.
use mathlib.Core.Path.{sym, ◌∙◌}
use Rattle.pack.proofs.Headers.{kind-bare, kind-none, kind-padded}
use Rattle.pack.proofs.header.kind_laid_out.Goals as goal

pub returns-then-is_bare : goal.returns-then-is_bare
returns-then-is_bare c = kind-bare c.args.bytes.now c.args.h (sym c.if-is_bare.true ∙ c.is_bare.ensures) c.if-h-eq1.true

pub returns-then-h-eq1 : goal.returns-then-h-eq1
returns-then-h-eq1 c = kind-bare c.args.bytes.now c.args.h (sym c.if-is_bare.false ∙ c.is_bare.ensures) c.if-h-eq1.true

pub returns-then-h-ne2 : goal.returns-then-h-ne2
returns-then-h-ne2 c = kind-none c.args.bytes.now c.args.h c.if-h-eq1.false c.if-h-ne2.true

pub returns-then-is_padded : goal.returns-then-is_padded
returns-then-is_padded c = kind-padded c.args.bytes.now c.args.h c.if-h-eq1.false (sym c.if-is_padded.true ∙ c.is_padded.ensures)
    c.if-h-ne2.false

pub returns : goal.returns
returns c = kind-padded c.args.bytes.now c.args.h c.if-h-eq1.false (sym c.if-is_padded.false ∙ c.is_padded.ensures)
    c.if-h-ne2.false
