-- `pack::header::is_laid_out` meets its contract: test by test. Assumes nothing.
use native.Mathlib.Omega.{arith}
use Rattle.pack.proofs.Headers.{wrong-rows, wrong-strings, right_end}
use Rattle.pack.proofs.header.is_laid_out.Goals as goal

pub returns-then-h-ne36 : goal.returns-then-h-ne36
returns-then-h-ne36 c = wrong-rows c.args.bytes.now c.args.h c.requires c.if-h-ne36.true

pub returns-then-h-strings : goal.returns-then-h-strings
returns-then-h-strings c = wrong-strings c.args.bytes.now c.args.h c.requires (omega (arith, c.if-h-ne36.false)) (λ e. omega (arith, c.if-h-strings.true))

pub returns : goal.returns
returns c = right_end c.args.bytes.now c.args.h c.requires (omega (arith, c.if-h-ne36.false)) (omega (arith, c.if-h-strings.false))
