-- `wordpiece::checked::encode_rest` meets its contract: by whether the prefix is there, and by whether there is a miss after
-- it. Where there is none, the walk holds the ids of the rest, as many as there are places. Assumes nothing.
use Rattle.std.proofs.Common.{sym, arith}
use Rattle.trie.proofs.Walking.{root_stands}
use Rattle.wordpiece.proofs.Longest.{walk_node}
use Rattle.wordpiece.proofs.Plans.{absent, late, follows, kept-from, written}
use Rattle.wordpiece.proofs.checked.encode_rest.Goals as goal

pub over-requires : goal.over-requires
over-requires c = rw c.root.ensures (root_stands _ c.requires.encodable.parts)

pub put-requires : goal.put-requires
put-requires c =
    let r = c.requires in
    let m = absent _ c.args.v.now.unknown _ _ r.encodable.well r.longest r.below
    (sym (rw c.root.ensures at c.in_default.ensures)) in
    omega (arith, m.1, r.encodable.room)

pub returns-in_default : goal.returns-in_default
returns-in_default c =
    let r = c.requires in
    let m = absent _ _ _ _ r.encodable.well r.longest r.below (sym (rw c.root.ensures at c.in_default.ensures)) in
    written _ m.0 c.put.ensures

pub write_rest-requires-clause-node : goal.write_rest-requires-clause-node
write_rest-requires-clause-node c =
    walk_node _ c.requires.encodable.parts _ (sym (rw c.root.ensures at c.in-Some.ensures))

pub put_all-requires-clause-node : goal.put_all-requires-clause-node
put_all-requires-clause-node c =
    walk_node _ c.requires.encodable.parts _ (sym (rw c.root.ensures at c.in-Some.ensures))

pub put_all-requires-clause-kept : goal.put_all-requires-clause-kept
put_all-requires-clause-kept c =
    let r = c.requires in
    let at = sym (rw c.root.ensures at c.in-Some.ensures) in
    kept-from (follows _ c.args.v.now.unknown _ _ r.encodable.well r.longest r.below at c.in-Some-write_rest.ensures.answered)
    c.in-Some-write_rest.ensures r.encodable.room

pub returns-in-Some-write_rest : goal.returns-in-Some-write_rest
returns-in-Some-write_rest c =
    let r = c.requires in
    let at = sym (rw c.root.ensures at c.in-Some.ensures) in
    let f = follows _ _ _ _ r.encodable.well r.longest r.below at c.in-Some-write_rest.ensures.answered in
    let done = c.put_all.ensures f.ids f.rest in
    written _ f.whole (omega (arith, done.0), done.1)

pub put-requires-in-None : goal.put-requires-in-None
put-requires-in-None c =
    let r = c.requires in
    let at = sym (rw c.root.ensures at c.in-Some.ensures) in
    let m = late _ c.args.v.now.unknown _ _ r.encodable.well r.longest r.below at c.in-None.ensures.answered in
    omega (arith, m.1, r.encodable.room)

pub returns-in-None : goal.returns-in-None
returns-in-None c =
    let r = c.requires in
    let at = sym (rw c.root.ensures at c.in-Some.ensures) in
    let m = late _ _ _ _ r.encodable.well r.longest r.below at c.in-None.ensures.answered in
    written _ m.0 c.put-in-None.ensures
