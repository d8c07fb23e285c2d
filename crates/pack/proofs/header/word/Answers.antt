-- `pack::header::word` meets its contract: each byte is below 256, so nothing wraps, and the sum is that of the definition.
-- Assumes nothing.
use native.Mathlib.Omega.{arith}
use Rattle.pack.specs.Pack.{word}
use Rattle.pack.proofs.header.word.Goals as goal

pub returns : goal.returns
unfolding word
returns c = omega arith
