use Rattle.std.proofs.Common.{refl}
use Rattle.law_time.specs.Waking.{may_wake}
use Rattle.law_wire.specs.law_transcript.Worked.{cancelled_order, long_message, lossy_exchange, plain_exchange, repeated_exchange, restarted_host, sealed_exchange, sleeping_node}
use Rattle.law_time.proofs.Computing.{computing}
use Rattle.law_wire.proofs.Deciding.{kept}
use Rattle.law_time.proofs.waking.worked_waking.Goals as goal
use Rattle.law_time.specs.WorkedWaking.{awake_after_lost, awake_by_sealed}

pub returns-clause-wakes : goal.returns-clause-wakes
unfolding computing
returns-clause-wakes c = kept may_wake sleeping_node refl

pub returns-clause-plain : goal.returns-clause-plain
unfolding computing
returns-clause-plain c = kept may_wake plain_exchange refl

pub returns-clause-repeated : goal.returns-clause-repeated
unfolding computing
returns-clause-repeated c = kept may_wake repeated_exchange refl

pub returns-clause-lossy : goal.returns-clause-lossy
unfolding computing
returns-clause-lossy c = kept may_wake lossy_exchange refl

pub returns-clause-cancelled : goal.returns-clause-cancelled
unfolding computing
returns-clause-cancelled c = kept may_wake cancelled_order refl

pub returns-clause-restarted : goal.returns-clause-restarted
unfolding computing
returns-clause-restarted c = kept may_wake restarted_host refl

pub returns-clause-sealed : goal.returns-clause-sealed
unfolding computing
returns-clause-sealed c = kept may_wake sealed_exchange refl

pub returns-clause-cut : goal.returns-clause-cut
unfolding computing
returns-clause-cut c = kept may_wake long_message refl

pub returns-clause-lost : goal.returns-clause-lost
unfolding computing
returns-clause-lost c = kept may_wake awake_after_lost refl

pub returns-clause-by_sealed : goal.returns-clause-by_sealed
unfolding computing
returns-clause-by_sealed c = kept may_wake awake_by_sealed refl
