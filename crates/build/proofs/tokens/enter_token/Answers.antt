-- `build::tokens::enter_token` meets its contract: the token's last node takes the id, unless the token is empty or there was
-- no room. Assumes nothing.
use native.Mathlib.Omega.{arith}
use Rattle.std.proofs.lemmas.List.{nil_from_length}
use Rattle.build.proofs.Marking.{row-empty, node-below, row-marked}
use Rattle.build.proofs.tokens.enter_token.Goals as goal

pub returns-then-is_empty : goal.returns-then-is_empty
returns-then-is_empty c = let e = nil_from_length c.args.token.now (grind (arith, c.is_empty.ensures, c.if-is_empty.true)) in
    record { entered = λ ns rule h n small. row-empty c.args.kind c.args.v e h n c.requires.fits }

pub returns-in_err-end : goal.returns-in_err-end
returns-in_err-end c =
    let full = c.in_err-end.ensures in
    rw c.from_residual.ensures (record { entered = λ ns rule h n small. full.entered ns rule h n })

pub mark-requires : goal.mark-requires
mark-requires c =
    let p = c.requires in
    let end = c.in_ok-end.ensures in
    node-below (end.entered p.names p.rule p.held p.count)

pub returns : goal.returns
returns c =
    let end = c.in_ok-end.ensures in
    record {
      entered = λ ns rule h n small. row-marked (end.entered ns rule h n) c.args.v
          (grind (arith, c.is_empty.ensures, c.if-is_empty.false)) small c.mark.ensures;
    }
