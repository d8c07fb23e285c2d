-- `output::lines::line_end` meets its contract. The loop's invariant: the line that begins at `from` ends where what is left of
-- it ends. The measure is what is left. Assumes nothing.
use mathlib.Core.Path.{◌∙◌}
use native.Mathlib.Omega.{arith}
use Rattle.output.proofs.Ending.{until-here, until-next, until_end}
use Rattle.output.proofs.lines.line_end.Goals as goal

pub returns-then-input-i-eq10 : goal.returns-then-input-i-eq10
returns-then-input-i-eq10 c = omega (
  arith,
  c.loop-i.invariant,
  until-here c.args.input.now c.loop-i.i (omega arith) c.if-input-i-eq10.true,
)

pub loop-i-preserved : goal.loop-i-preserved
loop-i-preserved c = c.loop-i.invariant ∙ until-next c.args.input.now c.loop-i.i (omega arith) c.if-input-i-eq10.false

pub returns : goal.returns
returns c = omega (arith, c.loop-i.invariant, until_end c.args.input.now c.loop-i.i (omega arith))
