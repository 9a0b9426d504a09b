-- What any events keep, those of a run do.
use Rattle.proof_device.specs.world_model.State.{first_machine}
use Rattle.proof_device.specs.world_model.Did.{happens_all, entries_all}
use Rattle.proof_world.proofs.Devices.{made_in_order, made_unchanged, all_group}
use Rattle.proof_world.proofs.machine.runs_take_once.Goals as goal

pub returns-clause-once : goal.returns-clause-once
returns-clause-once c = λ keys records devices events order.
    c.devices_take_once.ensures.once _ (c.devices_take_once.ensures.kept devices _ (c.devices_go_on.ensures.all (first_machine keys records devices) events) order)

pub returns-clause-made : goal.returns-clause-made
returns-clause-made c = λ keys records key devices events made.
    c.devices_take_once.ensures.once _
    (c.devices_take_once.ensures.kept devices _ (c.devices_go_on.ensures.all (first_machine keys records devices) events) (made_in_order c.sessions_rise.ensures.fresh key devices made))

pub returns-clause-same : goal.returns-clause-same
returns-clause-same c = λ keys records devices events. c.devices_stay_the_same.ensures.all devices _ (c.devices_go_on.ensures.all (first_machine keys records devices) events)

pub returns-clause-shown : goal.returns-clause-shown
returns-clause-shown c = λ keys records key devices events made apart may.
    c.changes_are_shown.ensures.whole _ devices _ (c.devices_go_on.ensures.all (first_machine keys records devices) events) (made_unchanged key devices made)
    (c.changes_are_shown.ensures.all (first_machine keys records devices) events may apart)

pub returns-clause-groups : goal.returns-clause-groups
returns-clause-groups c = λ keys records key devices events made apart may.
    let m = first_machine keys records devices in
    let goes = c.devices_go_on.ensures.all m events in
    all_group (entries_all m events) (c.changes_are_shown.ensures.groups (entries_all m events)) (happens_all m events).outside.devices
    (c.changes_are_shown.ensures.whole (entries_all m events) devices (happens_all m events).outside.devices goes (made_unchanged key devices made)
    (c.changes_are_shown.ensures.all m events may apart))
    (c.devices_take_once.ensures.once (happens_all m events).outside.devices
    (c.devices_take_once.ensures.kept devices (happens_all m events).outside.devices goes (made_in_order c.sessions_rise.ensures.fresh key devices made)))
