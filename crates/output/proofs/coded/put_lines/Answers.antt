-- `output::coded::put_lines` meets its contract. The loop's invariant: the lines before `from` are printed, and the scratch
-- is as long as it was lent. The measure is what is left of the input, and one for an LF that it may lack. Assumes nothing.
use native.Mathlib.Omega.{arith}
use Rattle.coder.specs.Columns.{vocabulary}
use Rattle.output.specs.Output.{coded_line}
use Rattle.output.proofs.Printing.{lent_again}
use Rattle.output.proofs.Following.{end-inside, printed-turn, printed-end}
use Rattle.output.proofs.coded.put_lines.Goals as goal

pub slice_bounds-line-end : goal.slice_bounds-line-end
slice_bounds-line-end c =
    omega (
      arith,
      end-inside (coded_line (vocabulary c.args.coder.now)) c.args.input.now c.args.out.now c.loop-from.at c.loop-from.from
          c.line_end-end.result c.loop-from.out c.loop-from.invariant.0 c.loop-from-test.true c.line_end-end.ensures,
    )

pub loop-from-preserved : goal.loop-from-preserved
loop-from-preserved c =
    let put = c.put_line-at in (
      printed-turn (coded_line (vocabulary c.args.coder.now)) c.args.input.now c.args.out.now c.loop-from.at c.loop-from.from
          c.line_end-end.result c.loop-from.out c.loop-from.invariant.0 c.loop-from-test.true c.line_end-end.ensures
          put.ensures.0 put.ensures.1 put.auto.out,
      lent_again c.loop-from.invariant.1 put.auto.start put.auto.slot_id put.auto.slot_score put.auto.path put.auto.ids,
    )

pub returns : goal.returns
returns c = printed-end _ _ _ c.loop-from.invariant.0 c.loop-from-test.false
