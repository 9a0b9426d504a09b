use Rattle.law_time.proofs.Computing.{computing}
use Rattle.law_wire.proofs.Deciding.{not_true}
use Rattle.law_time.proofs.calm.rejected_calm.Goals as goal

pub returns-clause-marked : goal.returns-clause-marked
unfolding computing
returns-clause-marked c = λ calm. not_true calm.still.marks

pub returns-clause-acknowledgement : goal.returns-clause-acknowledgement
unfolding computing
returns-clause-acknowledgement c = λ calm. not_true calm.still.marks

pub returns-clause-to_drop : goal.returns-clause-to_drop
unfolding computing
returns-clause-to_drop c = λ calm. not_true calm.still.marks

pub returns-clause-to_change : goal.returns-clause-to_change
unfolding computing
returns-clause-to_change c = λ calm. not_true calm.still.marks

pub returns-clause-to_collide : goal.returns-clause-to_collide
unfolding computing
returns-clause-to_collide c = λ calm. not_true calm.still.marks

pub returns-clause-stalled : goal.returns-clause-stalled
unfolding computing
returns-clause-stalled c = λ calm. not_true calm.still.judged

pub returns-clause-under_way : goal.returns-clause-under_way
unfolding computing
returns-clause-under_way c = λ calm. not_true calm.still.host

pub returns-clause-unacknowledged : goal.returns-clause-unacknowledged
unfolding computing
returns-clause-unacknowledged c = λ calm. not_true calm.still.chip

pub returns-clause-flying : goal.returns-clause-flying
unfolding computing
returns-clause-flying c = λ calm. not_true calm.still.air

pub returns-clause-running : goal.returns-clause-running
unfolding computing
returns-clause-running c = λ calm. not_true calm.still.idle

pub returns-clause-awake : goal.returns-clause-awake
unfolding computing
returns-clause-awake c = λ calm. not_true calm.still.asleep

pub returns-clause-working : goal.returns-clause-working
unfolding computing
returns-clause-working c = λ calm. not_true calm.still.working

pub returns-clause-restarted : goal.returns-clause-restarted
unfolding computing
returns-clause-restarted c = λ calm. not_true calm.still.chip

pub returns-clause-stuck : goal.returns-clause-stuck
unfolding computing
returns-clause-stuck c = λ calm. not_true calm.to_come

pub returns-clause-device_heard : goal.returns-clause-device_heard
unfolding computing
returns-clause-device_heard c = λ calm. not_true calm.still.marks

pub returns-clause-heard_again : goal.returns-clause-heard_again
unfolding computing
returns-clause-heard_again c = λ calm. not_true calm.still.marks

pub returns-clause-cancelled_by_host : goal.returns-clause-cancelled_by_host
unfolding computing
returns-clause-cancelled_by_host c = λ calm. not_true calm.still.marks

pub returns-clause-denied : goal.returns-clause-denied
unfolding computing
returns-clause-denied c = λ calm. not_true calm.still.chip

pub returns-clause-owed : goal.returns-clause-owed
unfolding computing
returns-clause-owed c = λ calm. not_true calm.still.called

pub returns-clause-dropped : goal.returns-clause-dropped
unfolding computing
returns-clause-dropped c = λ calm. not_true calm.still.called

pub returns-clause-information : goal.returns-clause-information
unfolding computing
returns-clause-information c = λ calm. not_true calm.still.called

pub returns-clause-unsettled : goal.returns-clause-unsettled
unfolding computing
returns-clause-unsettled c = λ calm. not_true calm.still.settled

pub returns-clause-cleared : goal.returns-clause-cleared
unfolding computing
returns-clause-cleared c = λ calm. not_true calm.still.chip
