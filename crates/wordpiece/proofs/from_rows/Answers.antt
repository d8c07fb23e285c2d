-- `wordpiece::from_rows` meets its contract: what `judge` finds is refused. Rows without a fault are what the core asks for,
-- the room is the least that the columns have, and what the core answers is answered. Assumes nothing.
use Rattle.std.proofs.lemmas.Result.{err_from_is_err_and}
use Rattle.std.proofs.Common.{sym, arith}
use Rattle.rows.specs.declared.Kind.TheVariants.{WordPiece}
use Rattle.rows.proofs.NeverRoom.{columns-not-room}
use Rattle.build.proofs.Judging.{judged}
use Rattle.build.proofs.Promises.{built-bad}
use Rattle.wordpiece.proofs.Builds.{lists-full, lists-built}
use Rattle.wordpiece.proofs.from_rows.Goals as goal

pub returns-in_err-judge : goal.returns-in_err-judge
returns-in_err-judge c =
    let p = err_from_is_err_and c.from_residual.result c.from_residual.ensures.1 in
    let is = sym c.in_err-judge.ensures in
    rw (p.1, p.2) (built-bad WordPiece _ _ _ _ is (columns-not-room WordPiece _ _ _ is))

pub build-built-requires : goal.build-built-requires
build-built-requires c = (judged WordPiece _ _ (sym c.in_ok-judge.ensures), omega (arith, c.room-room.ensures))

pub returns-in-None : goal.returns-in-None
returns-in-None c =
    lists-full _ _ _ _ _ _ c.room-room.ensures c.build-built.ensures _ _ (sym c.in_ok-judge.ensures) c.in-None.is

pub returns-in-Some : goal.returns-in-Some
returns-in-Some c =
    lists-built _ _ _ _ _ _ c.room-room.ensures c.build-built.ensures _ _ (sym c.in_ok-judge.ensures) c.in-Some.is
