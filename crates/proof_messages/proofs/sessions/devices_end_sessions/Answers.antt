-- Each event adds what it ends.
use Rattle.proof_messages.proofs.DeviceEnds.{fresh_ended, event_ends}
use Rattle.proof_messages.proofs.sessions.devices_end_sessions.Goals as goal

pub returns-clause-fresh : goal.returns-clause-fresh
returns-clause-fresh c = fresh_ended

pub returns-clause-kept : goal.returns-clause-kept
returns-clause-kept c = event_ends c.when_changes_come.ensures.heard
