use Rattle.std.proofs.Common.{refl}
use Rattle.law_time.specs.Interviews.{may_end}
use Rattle.law_time.specs.WorkedWaits.{woken_before_restart}
use Rattle.law_wire.specs.law_transcript.Worked.{cancelled_order, long_message, lossy_exchange, plain_exchange, repeated_exchange, restarted_host, sealed_exchange, sleeping_node}
use Rattle.law_time.specs.WrongEntries.{failed_unknown}
use Rattle.law_time.proofs.Computing.{computing}
use Rattle.law_wire.proofs.Deciding.{kept}
use Rattle.law_time.proofs.requests.worked_interviews.Goals as goal
use Rattle.law_time.specs.WorkedEnds.{informed_after_lost, informed_twice, informed_unkept, interview_given_up, interview_refused, interview_uninformed, informed_beside_other}

pub returns-clause-sleeping : goal.returns-clause-sleeping
unfolding computing
returns-clause-sleeping c = kept may_end sleeping_node refl

pub returns-clause-stale : goal.returns-clause-stale
unfolding computing
returns-clause-stale c = kept may_end woken_before_restart refl

pub returns-clause-plain : goal.returns-clause-plain
unfolding computing
returns-clause-plain c = kept may_end plain_exchange refl

pub returns-clause-repeated : goal.returns-clause-repeated
unfolding computing
returns-clause-repeated c = kept may_end repeated_exchange refl

pub returns-clause-lossy : goal.returns-clause-lossy
unfolding computing
returns-clause-lossy c = kept may_end lossy_exchange refl

pub returns-clause-cancelled : goal.returns-clause-cancelled
unfolding computing
returns-clause-cancelled c = kept may_end cancelled_order refl

pub returns-clause-restarted : goal.returns-clause-restarted
unfolding computing
returns-clause-restarted c = kept may_end restarted_host refl

pub returns-clause-sealed : goal.returns-clause-sealed
unfolding computing
returns-clause-sealed c = kept may_end sealed_exchange refl

pub returns-clause-cut : goal.returns-clause-cut
unfolding computing
returns-clause-cut c = kept may_end long_message refl

pub returns-clause-unknown : goal.returns-clause-unknown
unfolding computing
returns-clause-unknown c = kept may_end failed_unknown refl

pub returns-clause-uninformed : goal.returns-clause-uninformed
unfolding computing
returns-clause-uninformed c = kept may_end interview_uninformed refl

pub returns-clause-refused : goal.returns-clause-refused
unfolding computing
returns-clause-refused c = kept may_end interview_refused refl

pub returns-clause-given_up : goal.returns-clause-given_up
unfolding computing
returns-clause-given_up c = kept may_end interview_given_up refl

pub returns-clause-twice : goal.returns-clause-twice
unfolding computing
returns-clause-twice c = kept may_end informed_twice refl

pub returns-clause-lost : goal.returns-clause-lost
unfolding computing
returns-clause-lost c = kept may_end informed_after_lost refl

pub returns-clause-unkept : goal.returns-clause-unkept
unfolding computing
returns-clause-unkept c = kept may_end informed_unkept refl

pub returns-clause-beside_other : goal.returns-clause-beside_other
unfolding computing
returns-clause-beside_other c = kept may_end informed_beside_other refl
