-- `pack::checked::build_fine` meets its contract: the room is the least that the columns have, and what the core answers is
-- answered, with the score column beside it. Assumes nothing.
use native.Mathlib.Omega.{arith}
use Rattle.build.specs.Memory.{memory}
use Rattle.scored.proofs.Storing.{filled-zeros}
use Rattle.pack.specs.Build.{told}
use Rattle.pack.proofs.FinePacks.{start-inside}
use Rattle.pack.proofs.Promised.{lent_rows, room-is, fine-full, fine-built}
use Rattle.pack.proofs.checked.build_fine.Goals as goal

pub slice_bounds-build_rows-count : goal.slice_bounds-build_rows-count
slice_bounds-build_rows-count c = omega (arith, start-inside c.requires)

pub slice_bounds-build_rows-start : goal.slice_bounds-build_rows-start
slice_bounds-build_rows-start c = omega (arith, start-inside c.requires)

pub build_rows-built-requires : goal.build_rows-built-requires
build_rows-built-requires c = (lent_rows c.requires, room-is c.requires (memory c.args.edge_at.now c.args.edge_n.now c.args.node_id.now c.args.byte.now c.args.to.now c.args.work.now) (memory c.args.edge_at.now c.args.edge_n.now c.args.node_id.now c.args.byte.now c.args.to.now c.args.work.now) c.args.node_score.now c.room-room.ensures)

pub returns-in-None : goal.returns-in-None
returns-in-None c = fine-full c.requires (memory c.args.edge_at.now c.args.edge_n.now c.args.node_id.now c.args.byte.now c.args.to.now c.args.work.now) (memory c.build_rows-built.new.edge_at c.build_rows-built.new.edge_n c.build_rows-built.new.id c.build_rows-built.new.byte c.build_rows-built.new.to c.build_rows-built.new.work) c.args.node_score.now c.room-room.ensures c.build_rows-built.ensures c.in-None.is
    (filled-zeros c.args.node_score.now (c.fill.ensures.after (λ y e. e)))

pub returns-in-Some : goal.returns-in-Some
unfolding told
returns-in-Some c = fine-built c.requires (memory c.args.edge_at.now c.args.edge_n.now c.args.node_id.now c.args.byte.now c.args.to.now c.args.work.now) (memory c.build_rows-built.new.edge_at c.build_rows-built.new.edge_n c.build_rows-built.new.id c.build_rows-built.new.byte c.build_rows-built.new.to c.build_rows-built.new.work) c.args.node_score.now c.room-room.ensures c.build_rows-built.ensures c.in-Some.is
    c.reported.ensures c.fill_scores.ensures
