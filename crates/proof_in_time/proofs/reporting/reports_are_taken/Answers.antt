-- Each clause is a lemma on a host that is told a report.
use Rattle.proof_in_time.proofs.Reported.{report_ends, report_works, session_over, work_waits}
use Rattle.proof_in_time.proofs.reporting.reports_are_taken.Goals as goal

pub returns-clause-works : goal.returns-clause-works
returns-clause-works c = report_works

pub returns-clause-ends : goal.returns-clause-ends
returns-clause-ends c = report_ends

pub returns-clause-waits : goal.returns-clause-waits
returns-clause-waits c = work_waits

pub returns-clause-over : goal.returns-clause-over
returns-clause-over c = λ h n session command status wakes within awaits. session_over h n session command status wakes within awaits.opened
