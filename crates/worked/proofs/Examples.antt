-- The paper's twelve examples and its pack case hold of the definitions, by computing.
use mathlib.Core.Path.{◌≡◌, refl}
use mathlib.Core.Bool.{true}
use lib.ListN.{length}
use Rattle.output.specs.Output.{output}
use Rattle.worked.specs.Example.{all_of, holds}
use Rattle.worked.specs.Table.{table}
use Rattle.worked.specs.Case.{pack_bytes, input_bytes, printed_bytes}
use Rattle.worked.proofs.Opened.{opened}

-- every row of the table holds
pub examples-hold : all_of holds table ≡ true
unfolding opened table
examples-hold = refl

-- the 76 bytes and the input lines give exactly the printed bytes
pub pack-size : length pack_bytes ≡ 76
unfolding opened pack_bytes
pack-size = refl

pub pack-case : output pack_bytes input_bytes ≡ printed_bytes
unfolding opened pack_bytes input_bytes printed_bytes
pack-case = refl
