-- Each clause is a lemma on an event.
use Rattle.proof_messages.proofs.DeviceReports.{heard_openly, heard_plain, replies_true, status_said}
use Rattle.proof_messages.proofs.DevicePayloads.{fresh_can, event_can}
use Rattle.proof_messages.proofs.reports.reports_tell.Goals as goal

pub returns-clause-replies : goal.returns-clause-replies
returns-clause-replies c = replies_true

pub returns-clause-plainly : goal.returns-clause-plainly
returns-clause-plainly c = heard_plain

pub returns-clause-openly : goal.returns-clause-openly
returns-clause-openly c = heard_openly

pub returns-clause-fresh : goal.returns-clause-fresh
returns-clause-fresh c = fresh_can

pub returns-clause-kept : goal.returns-clause-kept
returns-clause-kept c = event_can

pub returns-clause-status : goal.returns-clause-status
returns-clause-status c = status_said
