-- What one event shows, many show.
use Rattle.proof_device.proofs.Among.{event_among}
use Rattle.proof_device.proofs.ShownChanges.{adds_by, event_shows, run_shows, shown_all, groups}
use Rattle.proof_device.proofs.laws.changes_are_shown.Goals as goal

pub returns-clause-each : goal.returns-clause-each
returns-clause-each c =
    event_shows
    (adds_by c.when_changes_come.ensures.heard c.when_changes_come.ensures.ticked c.when_changes_come.ensures.woken c.when_changes_come.ensures.by_hand)
    c.devices_go_on.ensures.each c.devices_stay_the_same.ensures.all

pub returns-clause-all : goal.returns-clause-all
returns-clause-all c =
    run_shows
    (adds_by c.when_changes_come.ensures.heard c.when_changes_come.ensures.ticked c.when_changes_come.ensures.woken c.when_changes_come.ensures.by_hand)
    c.devices_go_on.ensures.each c.devices_stay_the_same.ensures.all

pub returns-clause-among : goal.returns-clause-among
returns-clause-among c =
    event_among
    (adds_by c.when_changes_come.ensures.heard c.when_changes_come.ensures.ticked c.when_changes_come.ensures.woken c.when_changes_come.ensures.by_hand)
    c.devices_stay_the_same.ensures.event

pub returns-clause-whole : goal.returns-clause-whole
returns-clause-whole c = λ T old new go none shows. shown_all T old new (c.devices_stay_the_same.ensures.all old new go) none shows

pub returns-clause-groups : goal.returns-clause-groups
returns-clause-groups c = groups
