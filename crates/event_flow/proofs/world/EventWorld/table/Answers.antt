-- One more row, for which there is room.
use Rattle.std.proofs.Common.{arith, sym}
use Rattle.std.proofs.lemmas.Option.{slice_get_read}
use Rattle.event_flow.proofs.Rows.{row-added}
use Rattle.event_flow.proofs.world.EventWorld.table.Goals as goal

pub loop-i-preserved : goal.loop-i-preserved
loop-i-preserved c = record {
  rows =
      row-added _ _ _ c.self.inside.nodes.items c.loop-i.i _ c.index.result.now c.put_row.ensures.entries c.loop-i.invariant.rows c.node_at.ensures
      (slice_get_read c.self.inside.nodes.items 232 c.loop-i.i c.index.result.now (sym c.self.invariant) c.loop-i-test.true c.index.ensures);
  room = omega (arith, c.put_row.ensures.room, c.loop-i.invariant.room);
}
