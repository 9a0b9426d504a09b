-- Node after node.
use Rattle.std.proofs.Common.{map, arith}
use Rattle.zw_world.specs.World.{machine_of}
use Rattle.zw_world.proofs.Listing.{node_more, whole_table}
use Rattle.zw_world.proofs.world.World.table.Goals as goal

pub loop-place-preserved : goal.loop-place-preserved
loop-place-preserved g c = λ records.
    node_more (machine_of c.args.self.now (map (λ d. (goal.Device-dyn g (d.vtable, d.value)).state d.value) c.args.devices.now.items) records) c.loop-place.place c.node_after.result
    c.args.out.now.items c.loop-place.out.items c.table_of.new.out.items c.node_after.ensures (c.loop-place.invariant records) (c.in_ok-table_of.ensures records)

pub returns : goal.returns
returns g c = λ records.
    whole_table (machine_of c.args.self.now (map (λ d. (goal.Device-dyn g (d.vtable, d.value)).state d.value) c.args.devices.now.items) records) c.loop-place.place c.args.out.now.items c.loop-place.out.items
    (omega (arith, c.loop-place-test.false, c.loop-place.auto.place-end)) (c.loop-place.invariant records)
