-- `text::utf8::judge` meets its contract: bytes are text where all of them are a prefix of whole characters. Assumes nothing.
use native.Mathlib.Omega.{arith}
use Rattle.text.proofs.Spans.{text-bad, text-fine, valid-text}
use Rattle.text.proofs.utf8.judge.Goals as goal

pub returns-then-valid_up_to-s : goal.returns-then-valid_up_to-s
returns-then-valid_up_to-s c = grind (arith, text-bad)

pub returns-else-valid_up_to-s : goal.returns-else-valid_up_to-s
returns-else-valid_up_to-s c = grind (arith, text-fine, valid-text)
