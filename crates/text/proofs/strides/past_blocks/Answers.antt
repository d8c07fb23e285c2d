-- `text::strides::past_blocks` meets its contract: a block of ASCII is whole characters. Assumes nothing.
use Rattle.std.proofs.Common.{rules}
use Rattle.text.proofs.Passing.{passed-ascii}
use Rattle.text.proofs.strides.past_blocks.Goals as goal

pub past_pieces-requires-clause-passes : goal.past_pieces-requires-clause-passes
past_pieces-requires-clause-passes c at h p = passed-ascii c.args.n c.args.s.now at h (search (rules, p))
