-- `text::strides::is_ascii` meets its contract: each place's test says that its byte is ASCII. Assumes nothing.
use Rattle.std.proofs.Common.{rules}
use Rattle.text.proofs.strides.is_ascii.Goals as goal

pub returns : goal.returns
returns c e k h l = search (rules, c.all_hold.ensures e k h l)
