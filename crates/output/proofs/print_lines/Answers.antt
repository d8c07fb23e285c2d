-- `output::print_lines` meets its contract: too much input is refused, and else the lines are printed. Assumes nothing.
use Rattle.text.specs.Ascii.{ascii}
use Rattle.coder.specs.Columns.{vocabulary}
use Rattle.output.specs.Output.{coded_line}
use Rattle.output.proofs.Putting.{put_as}
use Rattle.output.proofs.Whole.{lines-many, lines-few}
use Rattle.output.proofs.print_lines.Goals as goal

pub returns-then-input-gt-MAX_INPUT : goal.returns-then-input-gt-MAX_INPUT
unfolding ascii
returns-then-input-gt-MAX_INPUT c =
    put_as (lines-many (coded_line (vocabulary c.args.coder.now)) c.args.input.now c.if-input-gt-MAX_INPUT.true)
    c.put_refusal.ensures.0

pub returns : goal.returns
returns c =
    put_as (lines-few (coded_line (vocabulary c.args.coder.now)) c.args.input.now c.if-input-gt-MAX_INPUT.false)
    c.put_lines.ensures
