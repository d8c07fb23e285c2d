-- `output::put::put_ids` meets its contract: the count, the numbers and LF, one after the other. Assumes nothing.
use Prim.Native.Nat.{◌≤◌}
use native.Mathlib.Omega.{arith}
use lib.ListN.{length}
use Rattle.output.specs.Lines.{decimal, printed_ids}
use Rattle.output.proofs.Putting.{put_on}
use Rattle.output.proofs.Decimals.{decimal-short}
use Rattle.output.proofs.put.put_ids.Goals as goal

pub put_number-counted-requires : goal.put_number-counted-requires
put_number-counted-requires c =
    let digits-few : length (decimal (length c.args.ids.now)) ≤ 10 = decimal-short (length c.args.ids.now) c.requires.ids_len_bound in
    omega (arith, c.requires.ids_in_bounds, digits-few)

pub put_numbers-end-requires : goal.put_numbers-end-requires
put_numbers-end-requires c =
    let digits-few : length (decimal (length c.args.ids.now)) ≤ 10 = decimal-short (length c.args.ids.now) c.requires.ids_len_bound in
    omega (arith, c.put_number-counted.ensures.ends, c.put_number-counted.auto.out, c.requires.ids_in_bounds, digits-few)

pub put_byte-requires : goal.put_byte-requires
put_byte-requires c =
    let digits-few : length (decimal (length c.args.ids.now)) ≤ 10 = decimal-short (length c.args.ids.now) c.requires.ids_len_bound in
    omega (
      arith,
      c.put_numbers-end.ensures.1,
      c.put_numbers-end.auto.out,
      c.put_number-counted.ensures.ends,
      c.put_number-counted.auto.out,
      c.requires.ids_in_bounds,
      digits-few,
    )

pub returns : goal.returns
unfolding printed_ids
returns c =
    let digits-few : length (decimal (length c.args.ids.now)) ≤ 10 = decimal-short (length c.args.ids.now) c.requires.ids_len_bound in (
      put_on (put_on c.put_number-counted.ensures c.put_numbers-end.ensures.0) c.put_byte.ensures,
      omega (arith, c.put_byte.ensures.ends, c.put_numbers-end.ensures.1, c.put_number-counted.ensures.ends, digits-few),
    )
