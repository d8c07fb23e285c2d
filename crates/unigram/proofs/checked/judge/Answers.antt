-- `unigram::checked::judge` meets its contract: a text without a fault is well-formed. Assumes nothing.
use Rattle.std.proofs.Common.{sym, ap, ◌∙◌}
use Rattle.std.specs.Result.{result_err}
use Rattle.text.proofs.Spans.{fine-text}
use Rattle.unigram.proofs.checked.judge.Goals as goal

pub characters-characters-requires : goal.characters-characters-requires
characters-characters-requires c = fine-text c.args.text.now (sym c.judge.ensures ∙ ap result_err c.in_ok-judge.was)
