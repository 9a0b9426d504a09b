use Rattle.std.proofs.Common.{refl}
use Rattle.law_time.specs.Questions.{may_answer}
use Rattle.law_time.specs.WorkedLate.{late_answer}
use Rattle.law_time.specs.WorkedWaits.{answered_errands}
use Rattle.law_wire.specs.law_transcript.Worked.{cancelled_order, long_message, lossy_exchange, plain_exchange, repeated_exchange, restarted_host, sealed_exchange, sleeping_node}
use Rattle.law_time.proofs.Computing.{computing}
use Rattle.law_wire.proofs.Deciding.{kept}
use Rattle.law_time.proofs.requests.worked_questions.Goals as goal
use Rattle.law_time.specs.WorkedEnds.{answered_after_lost}

pub returns-clause-answered : goal.returns-clause-answered
unfolding computing
returns-clause-answered c = kept may_answer answered_errands refl

pub returns-clause-plain : goal.returns-clause-plain
unfolding computing
returns-clause-plain c = kept may_answer plain_exchange refl

pub returns-clause-late : goal.returns-clause-late
unfolding computing
returns-clause-late c = kept may_answer late_answer refl

pub returns-clause-repeated : goal.returns-clause-repeated
unfolding computing
returns-clause-repeated c = kept may_answer repeated_exchange refl

pub returns-clause-lossy : goal.returns-clause-lossy
unfolding computing
returns-clause-lossy c = kept may_answer lossy_exchange refl

pub returns-clause-cancelled : goal.returns-clause-cancelled
unfolding computing
returns-clause-cancelled c = kept may_answer cancelled_order refl

pub returns-clause-restarted : goal.returns-clause-restarted
unfolding computing
returns-clause-restarted c = kept may_answer restarted_host refl

pub returns-clause-sleeping : goal.returns-clause-sleeping
unfolding computing
returns-clause-sleeping c = kept may_answer sleeping_node refl

pub returns-clause-sealed : goal.returns-clause-sealed
unfolding computing
returns-clause-sealed c = kept may_answer sealed_exchange refl

pub returns-clause-cut : goal.returns-clause-cut
unfolding computing
returns-clause-cut c = kept may_answer long_message refl

pub returns-clause-lost : goal.returns-clause-lost
unfolding computing
returns-clause-lost c = kept may_answer answered_after_lost refl
