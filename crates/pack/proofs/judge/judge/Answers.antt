-- `pack::judge::judge` meets its contract: a wrong layout is 11, and then what `judge_rows` finds is found. Assumes nothing.
use Rattle.std.proofs.lemmas.Result.{err_from_is_err_and}
use Rattle.std.specs.Result.{result_err}
use Rattle.std.specs.Prelude.{Some}
use mathlib.Core.Path.{◌≡◌, sym, ap, ◌∙◌}
use Rattle.pack.specs.Pack.{header_of, kind_of}
use Rattle.pack.proofs.Headers.{too_short, kind-wrong}
use Rattle.pack.proofs.Faults.{judged-wrong, judged-laid}
use Rattle.pack.proofs.judge.judge.Goals as goal

pub returns-then-bytes-lt-HEADER : goal.returns-then-bytes-lt-HEADER
returns-then-bytes-lt-HEADER c = judged-wrong c.args.bytes.now (kind-wrong c.args.bytes.now (too_short c.args.bytes.now (header_of c.args.bytes.now) c.if-bytes-lt-HEADER.true))

pub returns-in_default : goal.returns-in_default
returns-in_default c = judged-wrong c.args.bytes.now (sym c.layout_of.ensures ∙ c.in_default.is)

pub returns-in_err-judge_rows : goal.returns-in_err-judge_rows
returns-in_err-judge_rows c =
    let p = err_from_is_err_and c.from_residual.result c.from_residual.ensures.1 in
    rw (p.1, p.2) (let known : kind_of c.args.bytes.now ≡ Some c.in-Some.kind = sym c.layout_of.ensures ∙ c.in-Some.is in
    judged-laid c.args.bytes.now (known) ∙ (sym c.judge_rows.ensures ∙ ap result_err c.in_err-judge_rows.was))
