-- `scored::checked::build_rows` meets its contract: the room is the least that the columns have, what the core answers is
-- answered, and the score column is made zero or filled. Assumes nothing.
use Rattle.std.specs.Prelude.{Ok}
use mathlib.Core.Path.{sym, ap, ◌∙◌}
use mathlib.Core.List.{map}
use Prim.Native.Nat.{min}
use lib.ListN.{length-map}
use Rattle.doubles.specs.Double.{Double}
use Rattle.doubles.specs.Units.{units}
use Rattle.rows.specs.declared.Kind.TheVariants.{Unigram}
use Rattle.rows.specs.Answers.{scored_columns}
use Rattle.build.specs.Memory.{memory}
use Rattle.build.proofs.Judging.{judged}
use Rattle.build.specs.Checked.{room_of}
use Rattle.build.proofs.Rooms.{scored-room}
use Rattle.scored.specs.Build.{told}
use Rattle.scored.proofs.Storing.{filled-zeros}
use Rattle.scored.proofs.Builds.{lists-full, lists-built}
use Rattle.scored.proofs.checked.build_rows.Goals as goal

pub build-built-requires : goal.build-built-requires
build-built-requires c = let a = c.args in (
  judged Unigram a.tab.now (scored_columns c.args.off.now c.args.len.now c.args.score.now c.args.id.now) c.requires,
  scored-room (memory c.args.edge_at.now c.args.edge_n.now c.args.node_id.now c.args.byte.now c.args.to.now c.args.work.now) (map units a.node_score.now)
      (c.room-room.ensures ∙ ap (min (room_of (memory c.args.edge_at.now c.args.edge_n.now c.args.node_id.now c.args.byte.now c.args.to.now c.args.work.now))) (sym (length-map a.node_score.now units))),
)

pub returns-in-None : goal.returns-in-None
returns-in-None c = let a = c.args in
    lists-full a.tab.now a.off.now a.len.now a.score.now a.id.now (memory c.args.edge_at.now c.args.edge_n.now c.args.node_id.now c.args.byte.now c.args.to.now c.args.work.now) (memory c.build-built.new.edge_at c.build-built.new.edge_n c.build-built.new.id c.build-built.new.byte c.build-built.new.to c.build-built.new.work) a.node_score.now
    c.room-room.ensures (scored_columns c.args.off.now c.args.len.now c.args.score.now c.args.id.now).scored c.requires c.build-built.ensures c.in-None.is (filled-zeros a.node_score.now (c.fill.ensures.after (λ y e. e)))

pub returns-in-Some : goal.returns-in-Some
unfolding told
returns-in-Some c = let a = c.args in
    lists-built a.tab.now a.off.now a.len.now a.score.now a.id.now (memory c.args.edge_at.now c.args.edge_n.now c.args.node_id.now c.args.byte.now c.args.to.now c.args.work.now) (memory c.build-built.new.edge_at c.build-built.new.edge_n c.build-built.new.id c.build-built.new.byte c.build-built.new.to c.build-built.new.work) a.node_score.now
    c.room-room.ensures (scored_columns c.args.off.now c.args.len.now c.args.score.now c.args.id.now).scored c.requires c.build-built.ensures c.in-Some.is
    (ap (λ (x : Double). Ok (record { nodes = c.in-Some.n; unknown = x })) c.unknown_score.ensures) c.fill-in-Some.ensures
