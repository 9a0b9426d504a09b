-- Node after node.
use Rattle.std.proofs.Common.{arith}
use Rattle.run_replay.specs.Machine.{lone_of}
use Rattle.run_replay.proofs.Listing.{node_more, whole_table}
use Rattle.run_replay.proofs.replay.Replay.table.Goals as goal

pub loop-place-preserved : goal.loop-place-preserved
loop-place-preserved c = λ records.
    node_more (lone_of c.args.self.now records) c.loop-place.place c.node_after.result c.args.out.now.items c.loop-place.out.items c.table_of.new.out.items c.node_after.ensures
    (c.loop-place.invariant records) (c.in_ok-table_of.ensures records)

pub returns : goal.returns
returns c = λ records.
    whole_table (lone_of c.args.self.now records) c.loop-place.place c.args.out.now.items c.loop-place.out.items (omega (arith, c.loop-place-test.false, c.loop-place.auto.place-end))
    (c.loop-place.invariant records)
