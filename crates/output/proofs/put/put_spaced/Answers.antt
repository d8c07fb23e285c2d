-- `output::put::put_spaced` meets its contract: a space, and the digits after it, of which there are at most ten. Assumes
-- nothing.
use Prim.Native.Nat.{◌≤◌}
use native.Mathlib.Omega.{arith}
use lib.ListN.{length, length-set}
use Rattle.output.specs.Lines.{decimal}
use Rattle.output.proofs.Putting.{put_byte, put_on}
use Rattle.output.proofs.Decimals.{decimal-short}
use Rattle.output.proofs.put.put_spaced.Goals as goal

pub put_number-requires : goal.put_number-requires
put_number-requires c =
    let digits-few : length (decimal c.args.n) ≤ 10 = decimal-short c.args.n (omega (arith, c.well_formed)) in
    omega (arith, c.requires, digits-few, length-set c.args.out.now c.args.at 32)

pub returns : goal.returns
returns c =
    let digits-few : length (decimal c.args.n) ≤ 10 = decimal-short c.args.n (omega (arith, c.well_formed)) in (
      put_on (put_byte c.args.out.now c.args.at 32 (omega (arith, c.requires))) c.put_number.ensures,
      omega (arith, c.put_number.ensures.ends, digits-few),
    )
