use Rattle.std.proofs.Common.{refl}
use Rattle.law_time.specs.Choice.{may_follow}
use Rattle.law_time.specs.WorkedQueue.{failed_attempts, silent_attempt}
use Rattle.law_time.specs.WorkedWaits.{answered_errands}
use Rattle.law_wire.specs.law_transcript.Worked.{lossy_exchange, plain_exchange, restarted_host}
use Rattle.law_time.proofs.Computing.{computing}
use Rattle.law_wire.proofs.Deciding.{kept}
use Rattle.law_time.proofs.choice.worked_one_by_one.Goals as goal

pub returns-clause-plain : goal.returns-clause-plain
unfolding computing
returns-clause-plain c = kept may_follow plain_exchange refl

pub returns-clause-lossy : goal.returns-clause-lossy
unfolding computing
returns-clause-lossy c = kept may_follow lossy_exchange refl

pub returns-clause-restarted : goal.returns-clause-restarted
unfolding computing
returns-clause-restarted c = kept may_follow restarted_host refl

pub returns-clause-answered : goal.returns-clause-answered
unfolding computing
returns-clause-answered c = kept may_follow answered_errands refl

pub returns-clause-failed : goal.returns-clause-failed
unfolding computing
returns-clause-failed c = kept may_follow failed_attempts refl

pub returns-clause-silent : goal.returns-clause-silent
unfolding computing
returns-clause-silent c = kept may_follow silent_attempt refl
