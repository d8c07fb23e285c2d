-- `pack::row::infinity` meets its contract: the pattern is no NaN, and stands for the infinity. Assumes nothing.
use lib.Ieee.{nan_bits}
use Rattle.pack.proofs.Readings.{infinity-is}
use Rattle.pack.proofs.row.infinity.Goals as goal

pub float_from_bits-result : goal.float_from_bits-result
unfolding nan_bits
float_from_bits-result c = tt

pub returns : goal.returns
returns c = infinity-is
