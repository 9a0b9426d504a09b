use Rattle.std.proofs.Common.{None, rules}
use Rattle.mesh_sim.proofs.Lists.{seen_at, seen_set}
use Rattle.mesh_sim.proofs.StepLists.{blank, none_again, one_again, perhaps_again}
use Rattle.mesh_sim.proofs.air.Air.repeat_outward.Goals as goal

pub returns-in-Some-clause-ok : goal.returns-in-Some-clause-ok
returns-in-Some-clause-ok g c =
    one_again c.repeat_at_device.result c.args.self.now.state c.repeat_at_device.new.self.state _ _ c.in-Some.place _ _ c.args.arrival.now.number c.args.arrival.now.node c.args.arrival.now.payload c.next-drawn.result c.args.out.now.items c.repeat_at_device.new.out.items
    c.in-Some.ensures.value
    (seen_at _ c.args.devices.now.items c.in-Some.place c.index_mut.result.now c.in-Some.ensures.within c.index_mut.ensures.value)
    (seen_set _ c.args.devices.now.items c.in-Some.place c.repeat_at_device.new.device) (search rules)
    c.repeat_at_device.ensures.ok

pub returns-in-Some-clause-cut : goal.returns-in-Some-clause-cut
returns-in-Some-clause-cut g c =
    perhaps_again c.repeat_at_device.result c.args.self.now.state c.repeat_at_device.new.self.state _ _ c.in-Some.place _ _ c.args.arrival.now.number c.args.arrival.now.node c.args.arrival.now.payload c.next-drawn.result c.args.out.now.items c.repeat_at_device.new.out.items
    c.in-Some.ensures.value
    (seen_at _ c.args.devices.now.items c.in-Some.place c.index_mut.result.now c.in-Some.ensures.within c.index_mut.ensures.value)
    (seen_set _ c.args.devices.now.items c.in-Some.place c.repeat_at_device.new.device) (search rules)
    c.repeat_at_device.ensures.cut

pub returns-in-None-clause-ok : goal.returns-in-None-clause-ok
returns-in-None-clause-ok g c =
    (blank, None, none_again c.args.self.now.state _ c.args.arrival.now.number c.args.arrival.now.node c.args.arrival.now.payload c.args.out.now.items c.in-None.ensures.value)
