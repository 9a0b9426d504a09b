use Rattle.proof_once.proofs.InSessions.{all_so, event_so, unchanged_so}
use Rattle.proof_once.proofs.laws.devices_change_in_sessions.Goals as goal

pub returns-clause-event : goal.returns-clause-event
returns-clause-event c =
    let when = c.when_changes_come.ensures in
    event_so when.heard when.ticked when.woken when.by_hand c.devices_stay_the_same.ensures.event

pub returns-clause-all : goal.returns-clause-all
returns-clause-all c =
    let when = c.when_changes_come.ensures in
    all_so when.heard when.ticked when.woken when.by_hand c.devices_stay_the_same.ensures.event

pub returns-clause-unchanged : goal.returns-clause-unchanged
returns-clause-unchanged c = unchanged_so
