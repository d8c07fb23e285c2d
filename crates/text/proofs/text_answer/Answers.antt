-- `text::text_answer` meets its contract: each return is the fault that its test finds. Assumes nothing.
use native.Mathlib.Omega.{arith}
use borrow.Author.Tests.{ltb-true, ltb-false}
use Rattle.text.proofs.Spans.{fault-size, fault-part, part-outside, part-inside, bytes-given}
use Rattle.text.proofs.text_answer.Goals as goal

pub returns-then-tab-gt-MAX_TABLE : goal.returns-then-tab-gt-MAX_TABLE
returns-then-tab-gt-MAX_TABLE c = record { answered = grind (arith, fault-size) }

pub returns-then-is_outside : goal.returns-then-is_outside
returns-then-is_outside c = record { answered = grind (arith, ltb-true, fault-part, part-outside) }

pub returns : goal.returns
returns c = record { answered = grind (arith, ltb-false, fault-part, part-inside, bytes-given c.span.ensures) }
