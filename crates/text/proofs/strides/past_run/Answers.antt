-- `text::strides::past_run` meets its contract: an ASCII byte is passed before its run, and what the tests tell to be a
-- character is passed. Assumes nothing.
use Rattle.std.proofs.Common.{rules, arith}
use Rattle.text.proofs.Passing.{passed_on, passed-byte, passed-character}
use Rattle.text.proofs.strides.past_run.Goals as goal

pub past_pieces-requires-clause-passes : goal.past_pieces-requires-clause-passes
past_pieces-requires-clause-passes c at h p = passed-character c.args.s.now at 2 (search (rules, p)) (omega arith)

pub past_pieces-requires-in-224-to-239-clause-passes : goal.past_pieces-requires-in-224-to-239-clause-passes
past_pieces-requires-in-224-to-239-clause-passes c at h p = passed-character c.args.s.now at 3 (search (rules, p)) (omega arith)

pub past_pieces-requires-in_default-clause-passes : goal.past_pieces-requires-in_default-clause-passes
past_pieces-requires-in_default-clause-passes c at h p = passed-character c.args.s.now at 4 (search (rules, p)) (omega arith)

pub returns-in-0-to-127 : goal.returns-in-0-to-127
returns-in-0-to-127 c = passed_on _ _ _ _ (passed-byte _ _ (omega arith) (omega arith)) c.past_ascii.ensures
