-- `trie::checked::fill_first` meets its contract. The loop's invariant: each byte leads where a search among the edges from i
-- on says. Assumes nothing.
use Rattle.std.proofs.Common.{◌≡◌, ap, ◌∙◌, length, arith}
use Rattle.std.proofs.lemmas.List.{length-replicate}
use Rattle.refusal.specs.Sizes.{no_id}
use Rattle.trie.specs.Trie.{parts}
use Rattle.trie.proofs.Walking.{edges_stand}
use Rattle.trie.proofs.Leading.{led-nowhere, led-turn, led-all}
use Rattle.trie.proofs.checked.fill_first.Goals as goal

pub bounds-t-0-2 : goal.bounds-t-0-2
bounds-t-0-2 c = (edges_stand _ _ c.requires.0).counted

pub loop-i-init : goal.loop-i-init
loop-i-init c = led-nowhere _ _ _ _ _ c.requires.1 (omega arith)

pub bounds-t-at : goal.bounds-t-at
bounds-t-at c = omega (arith, (edges_stand _ _ c.requires.0).inside-to)

pub bounds-t-at-in-loop-i : goal.bounds-t-at-in-loop-i
bounds-t-at-in-loop-i c = omega (arith, (edges_stand _ _ c.requires.0).inside)

pub loop-i-preserved : goal.loop-i-preserved
loop-i-preserved c =
    let places : length c.loop-i.first ≡ 256 = c.loop-i.auto.first ∙ ap length c.requires.1 ∙ length-replicate 256 no_id in
    led-turn (parts c.args.t.now) c.loop-i.first c.loop-i.i c.requires.0 (omega arith) (omega arith) places (omega arith)
    c.loop-i.invariant

pub returns : goal.returns
returns c =
    let places : length c.loop-i.first ≡ 256 = c.loop-i.auto.first ∙ ap length c.requires.1 ∙ length-replicate 256 no_id in
    led-all (parts c.args.t.now) c.loop-i.first c.loop-i.i places (omega arith) c.loop-i.invariant
