-- `trie::checked::Walk::over` meets its contract. The loop's invariant: the walk over s is the walk over what is left of s from
-- the node come to, and that is a node. Assumes nothing.
use Rattle.std.proofs.Common.{Some, ◌≡◌, sym, ap, ◌∙◌, get_or, arith}
use Rattle.trie.specs.Trie.{parts, step}
use Rattle.trie.specs.Walks.{next_of}
use Rattle.trie.proofs.Walking.{turn-stop, turn-to, turn_end, step-stands}
use Rattle.trie.proofs.checked.Walk.over.Goals as goal

pub returns-in_err-here : goal.returns-in_err-here
returns-in_err-here c =
    let l = c.loop-b in
    let stop = sym c.step.ensures ∙ ap next_of c.in_err-here.was in
    rw c.from_residual.ensures
    (sym (l.invariant.1 ∙ turn-stop (parts c.args.t.now) c.args.s.now l.b-index l.here.node (omega arith) stop))

pub loop-b-preserved : goal.loop-b-preserved
loop-b-preserved c =
    let l = c.loop-b in
    let t = parts c.args.t.now in
    let led : step t l.here.node (get_or c.args.s.now l.b-index 0) ≡ Some c.in_ok-here.here.node =
    sym c.step.ensures ∙ ap next_of c.in_ok-here.was
    in
    (step-stands t _ l.invariant.0 _ led, l.invariant.1 ∙ turn-to t c.args.s.now l.b-index l.here.node (omega arith) led)

pub returns : goal.returns
returns c =
    let l = c.loop-b in
    sym (l.invariant.1 ∙ turn_end (parts c.args.t.now) c.args.s.now l.b-index l.here.node (omega arith))
