use Rattle.std.proofs.Common.{◌-◌, ◌≤◌, length}
use Rattle.trie.specs.Trie.{parts, id_from}
use Rattle.wordpiece.specs.Checked.{rest_from}
use Rattle.wordpiece.proofs.Rest.{Left}
use Rattle.wordpiece.proofs.checked.write_rest.Given as goal

abbrev pub invariant-loop-at : goal.invariant-loop-at
invariant-loop-at l =
    let find = id_from (parts l.t) l.rest.node in
    (l.at ≤ length l.w) × (l.n ≤ l.at)
    × Left (rest_from find l.w l.i) l.initial.ids l.ids l.n (rest_from find l.w l.at)

abbrev pub decreases-loop-at : goal.decreases-loop-at
decreases-loop-at l = length l.w - l.at
