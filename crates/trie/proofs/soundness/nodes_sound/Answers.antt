-- `trie::soundness::nodes_sound` meets its contract. The loop's invariant: the edges of the k nodes so far are sound. Assumes
-- nothing.
use Rattle.std.proofs.Common.{◌∙◌, sym, length, arith}
use Rattle.trie.specs.Trie.{parts}
use Rattle.trie.specs.Sound.{sound_node}
use Rattle.trie.proofs.Every.{every-none, every_more, every-fails}
use Rattle.trie.proofs.soundness.nodes_sound.Goals as goal

pub loop-k-init : goal.loop-k-init
loop-k-init c = every-none (sound_node (parts c.args.t.now))

pub returns-then-not-edges_sound : goal.returns-then-not-edges_sound
unfolding sound_node
returns-then-not-edges_sound c =
    let t = parts c.args.t.now in
    sym
    (every-fails (sound_node t) (length t.edge_at) c.loop-k.k (omega arith)
    (sym c.edges_sound.ensures ∙ c.if-not-edges_sound.true))

pub loop-k-preserved : goal.loop-k-preserved
unfolding sound_node
loop-k-preserved c =
    every_more (sound_node (parts c.args.t.now)) c.loop-k.k c.loop-k.invariant
    (sym c.edges_sound.ensures ∙ c.if-not-edges_sound.false)
