use Rattle.std.proofs.Common.{◌<◌, length, inl, refl, rules}
use Rattle.mesh_sim.proofs.Lists.{seen_at, seen_set}
use Rattle.zw_base.proofs.Results.{on_err}
use Rattle.mesh_sim.proofs.StepLists.{lost_did, dead_did, missed_did, chip_did, device_did, device_stops, device_is_cut, heard_within}
use Rattle.mesh_sim.proofs.air.Air.arrive.Goals as goal

pub returns-in-Lost-clause-ok : goal.returns-in-Lost-clause-ok
returns-in-Lost-clause-ok g c =
    lost_did c.pass.result c.args.self.now.state c.pass.new.self.state _ _ _ _ _ _ c.args.out.now.items c.pass.new.out.items c.coming-coming.ensures.comes c.in-Lost.is c.pass.ensures.ok c.pass.ensures.outs

pub returns-in-Dead-clause-ok : goal.returns-in-Dead-clause-ok
returns-in-Dead-clause-ok g c =
    dead_did c.pass-in-Dead.result c.args.self.now.state c.pass-in-Dead.new.self.state _ _ _ _ _ _ c.args.out.now.items c.pass-in-Dead.new.out.items c.coming-coming.ensures.comes _ _ c.in-Dead.is c.pass-in-Dead.ensures.ok c.pass-in-Dead.ensures.outs

pub returns-in-Missed-clause-ok : goal.returns-in-Missed-clause-ok
returns-in-Missed-clause-ok g c =
    missed_did c.pass-in-Missed.result c.args.self.now.state c.pass-in-Missed.new.self.state _ _ _ _ _ _ c.args.out.now.items c.pass-in-Missed.new.out.items c.coming-coming.ensures.comes c.in-Missed.is c.pass-in-Missed.ensures.ok c.pass-in-Missed.ensures.outs

pub returns-in-AtChip-clause-ok : goal.returns-in-AtChip-clause-ok
returns-in-AtChip-clause-ok g c =
    chip_did c.arrive_at_chip.result c.args.self.now.state c.arrive_at_chip.new.self.state _ _ _ _ _ _ c.args.out.now.items c.arrive_at_chip.new.out.items c.coming-coming.ensures.comes c.in-AtChip.is c.arrive_at_chip.ensures.ok c.arrive_at_chip.ensures.outs

pub returns-in-AtDevice-clause-ok : goal.returns-in-AtDevice-clause-ok
returns-in-AtDevice-clause-ok g c =
    let within : c.in-AtDevice.place < length c.args.devices.now.items = heard_within _ _ _ c.in-AtDevice.is c.coming-coming.ensures.within in
    device_did c.arrive_at_device.result c.args.self.now.state c.arrive_at_device.new.self.state _ _ c.in-AtDevice.place _ _ _ _ _ _ _ c.next-drawn.result c.args.out.now.items c.arrive_at_device.new.out.items
    c.coming-coming.ensures.comes c.in-AtDevice.is
    (seen_at _ c.args.devices.now.items c.in-AtDevice.place c.index_mut.result.now within c.index_mut.ensures.value)
    (seen_set _ c.args.devices.now.items c.in-AtDevice.place c.arrive_at_device.new.device) (search rules)
    c.arrive_at_device.ensures.ok

pub returns-in-AtDevice-clause-err : goal.returns-in-AtDevice-clause-err
returns-in-AtDevice-clause-err g c =
    let within : c.in-AtDevice.place < length c.args.devices.now.items = heard_within _ _ _ c.in-AtDevice.is c.coming-coming.ensures.within in
    device_stops c.arrive_at_device.result c.args.self.now.state c.arrive_at_device.new.self.state _ _ c.in-AtDevice.place _ _ _ _ _ _ _ c.next-drawn.result c.args.out.now.items c.arrive_at_device.new.out.items
    c.coming-coming.ensures.comes c.in-AtDevice.is
    (seen_at _ c.args.devices.now.items c.in-AtDevice.place c.index_mut.result.now within c.index_mut.ensures.value)
    (seen_set _ c.args.devices.now.items c.in-AtDevice.place c.arrive_at_device.new.device) (search rules)
    c.arrive_at_device.ensures.err c.arrive_at_device.ensures.no_outs c.arrive_at_device.ensures.cut

pub returns-in-Lost-clause-cut : goal.returns-in-Lost-clause-cut
returns-in-Lost-clause-cut g c = on_err c.pass.result (inl refl)

pub returns-in-Dead-clause-cut : goal.returns-in-Dead-clause-cut
returns-in-Dead-clause-cut g c = on_err c.pass-in-Dead.result (inl refl)

pub returns-in-Missed-clause-cut : goal.returns-in-Missed-clause-cut
returns-in-Missed-clause-cut g c = on_err c.pass-in-Missed.result (inl refl)

pub returns-in-AtChip-clause-cut : goal.returns-in-AtChip-clause-cut
returns-in-AtChip-clause-cut g c = on_err c.arrive_at_chip.result (inl refl)

pub returns-in-AtDevice-clause-cut : goal.returns-in-AtDevice-clause-cut
returns-in-AtDevice-clause-cut g c =
    let within : c.in-AtDevice.place < length c.args.devices.now.items = heard_within _ _ _ c.in-AtDevice.is c.coming-coming.ensures.within in
    device_is_cut c.arrive_at_device.result c.args.self.now.state c.arrive_at_device.new.self.state _ _ c.in-AtDevice.place _ _ _ _ _ _ _ c.next-drawn.result c.args.out.now.items c.arrive_at_device.new.out.items
    c.coming-coming.ensures.comes c.in-AtDevice.is
    (seen_at _ c.args.devices.now.items c.in-AtDevice.place c.index_mut.result.now within c.index_mut.ensures.value)
    (seen_set _ c.args.devices.now.items c.in-AtDevice.place c.arrive_at_device.new.device) (search rules)
    c.arrive_at_device.ensures.cut
