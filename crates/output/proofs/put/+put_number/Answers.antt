-- `output::put::put_number` meets its contract. A number of one digit is that digit, and the digits of a larger one are those of
-- its tenth and the last, so the last is put after what the call of itself put. Assumes nothing.
use mathlib.Core.Path.{sym}
use native.Mathlib.Omega.{arith}
use lib.ListN.{length}
use Rattle.output.proofs.Putting.{put_byte, put_on, put_as}
use Rattle.output.proofs.Decimals.{decimal-low, decimal-high, low-room, tenth-room}
use Rattle.output.proofs.put.+put_number.Goals as goal

pub bounds-out-at : goal.bounds-out-at
bounds-out-at t c = low-room c.args.n c.args.at (length c.args.out.now) c.if-n-lt10.true c.requires

pub returns-then-n-lt10 : goal.returns-then-n-lt10
returns-then-n-lt10 t c =
    let a = c.args in
    put_as (sym (decimal-low a.n c.if-n-lt10.true))
    (put_byte a.out.now a.at _ (low-room a.n a.at (length a.out.now) c.if-n-lt10.true c.requires))

pub put_number-next-requires : goal.put_number-next-requires
put_number-next-requires t c =
    let a = c.args in
    let room = tenth-room a.n a.at (length a.out.now) c.if-n-lt10.false c.requires in
    (omega (arith, c.decreases, c.if-n-lt10.false), omega (arith, room))

-- there is room for the last digit
pub bounds-out-next : goal.bounds-out-next
bounds-out-next t c =
    let a = c.args in
    let room = tenth-room a.n a.at (length a.out.now) c.if-n-lt10.false c.requires in
    omega (arith, room, c.put_number-next.ensures.ends, c.put_number-next.auto.out)

pub returns : goal.returns
returns t c =
    let a = c.args in
    let room = tenth-room a.n a.at (length a.out.now) c.if-n-lt10.false c.requires in
    put_as (sym (decimal-high a.n c.if-n-lt10.false))
    (put_on c.put_number-next.ensures
    (put_byte c.put_number-next.new.out c.put_number-next.result _
    (omega (arith, room, c.put_number-next.ensures.ends, c.put_number-next.auto.out))))
