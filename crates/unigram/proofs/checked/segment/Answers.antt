-- `unigram::checked::segment` meets its contract: nothing for an empty text (`empty-for`), else the best cutting, and the ids
-- merged from its path (`cut_of`). Assumes nothing.
use borrow.Author.Tests.{eqb-true}
use Rattle.std.proofs.lemmas.Bool.Decides.{nat_tests}
use Rattle.std.proofs.Common.{◌<◌, sym, ◌∙◌, length, arith}
use Rattle.std.proofs.lemmas.List.{length-take-le}
use Rattle.unigram.proofs.Refusing.{prepared-for, path_room, empty-for}
use Rattle.unigram.proofs.Segmenting.{mergeable, cut_of}
use Rattle.unigram.proofs.checked.segment.Goals as goal

pub returns-then-is_empty : goal.returns-then-is_empty
returns-then-is_empty c =
    let empty = eqb-true _ _ (sym c.is_empty.ensures ∙ c.if-is_empty.true) in
    empty-for _ _ _ c.requires (prepared-for _ _ _ _ _ _ _ c.requires).ready empty

pub best_cutting-pieces-requires : goal.best_cutting-pieces-requires
best_cutting-pieces-requires c =
    let some_bytes : 0 < length c.args.text.now = grind (arith, nat_tests) in
    let p = prepared-for _ _ _ _ _ _ _ c.requires in
    (p.ready, p.slots some_bytes, p.path)

pub slice_bounds-merge-end : goal.slice_bounds-merge-end
slice_bounds-merge-end c =
    let p = prepared-for _ _ _ _ _ _ _ c.requires in
    path_room p c.best_cutting-pieces.ensures c.best_cutting-pieces.auto.path

pub slice_bounds-merge-end-2 : goal.slice_bounds-merge-end-2
slice_bounds-merge-end-2 c =
    let p = prepared-for _ _ _ _ _ _ _ c.requires in
    sym (length-take-le _ _ (path_room p c.best_cutting-pieces.ensures c.best_cutting-pieces.auto.path))

pub merge-requires : goal.merge-requires
merge-requires c =
    let some_bytes : 0 < length c.args.text.now = grind (arith, nat_tests) in
    let p = prepared-for _ _ _ _ _ _ _ c.requires in
    let inside = p.slots some_bytes in
    mergeable p.ready c.best_cutting-pieces.ensures (omega (arith, inside.id, c.best_cutting-pieces.auto.slot_id)) p.ids

pub returns : goal.returns
returns c =
    let some_bytes : 0 < length c.args.text.now = grind (arith, nat_tests) in
    let p = prepared-for _ _ _ _ _ _ _ c.requires in
    let new = c.best_cutting-pieces.new in
    let auto = c.best_cutting-pieces.auto in
    cut_of p.ready new.start new.slot_id new.slot_score c.requires some_bytes (p.slots some_bytes) auto.start
    auto.slot_id auto.slot_score c.best_cutting-pieces.ensures c.merge.ensures
