use Rattle.std.proofs.Common.{refl}
use Rattle.law_time.specs.Waking.{may_sleep}
use Rattle.law_time.specs.WorkedWaits.{given_up_asleep}
use Rattle.law_wire.specs.law_transcript.Worked.{cancelled_order, long_message, lossy_exchange, plain_exchange, repeated_exchange, restarted_host, sealed_exchange, sleeping_node}
use Rattle.law_time.proofs.Computing.{computing}
use Rattle.law_wire.proofs.Deciding.{kept}
use Rattle.law_time.proofs.waking.worked_sleeping.Goals as goal
use Rattle.law_time.specs.WorkedEnds.{asleep_after_lost, asleep_given_up, asleep_in_silence, asleep_refused, telling, woken_again}

pub returns-clause-sleeps : goal.returns-clause-sleeps
unfolding computing
returns-clause-sleeps c = record { between = kept may_sleep sleeping_node refl; in_the_end = λ whole. refl }

pub returns-clause-given_up : goal.returns-clause-given_up
unfolding computing
returns-clause-given_up c = record { between = kept may_sleep given_up_asleep refl; in_the_end = λ whole. refl }

pub returns-clause-plain : goal.returns-clause-plain
unfolding computing
returns-clause-plain c = record { between = kept may_sleep plain_exchange refl; in_the_end = λ whole. refl }

pub returns-clause-repeated : goal.returns-clause-repeated
unfolding computing
returns-clause-repeated c = record { between = kept may_sleep repeated_exchange refl; in_the_end = λ whole. refl }

pub returns-clause-lossy : goal.returns-clause-lossy
unfolding computing
returns-clause-lossy c = record { between = kept may_sleep lossy_exchange refl; in_the_end = λ whole. refl }

pub returns-clause-cancelled : goal.returns-clause-cancelled
unfolding computing
returns-clause-cancelled c = record { between = kept may_sleep cancelled_order refl; in_the_end = λ whole. refl }

pub returns-clause-restarted : goal.returns-clause-restarted
unfolding computing
returns-clause-restarted c = record { between = kept may_sleep restarted_host refl; in_the_end = λ whole. refl }

pub returns-clause-sealed : goal.returns-clause-sealed
unfolding computing
returns-clause-sealed c = record { between = kept may_sleep sealed_exchange refl; in_the_end = λ whole. refl }

pub returns-clause-cut : goal.returns-clause-cut
unfolding computing
returns-clause-cut c = record { between = kept may_sleep long_message refl; in_the_end = λ whole. refl }

pub returns-clause-lost : goal.returns-clause-lost
unfolding computing
returns-clause-lost c = record { between = kept may_sleep asleep_after_lost refl; in_the_end = λ whole. refl }

pub returns-clause-silent : goal.returns-clause-silent
unfolding computing
returns-clause-silent c = record { between = kept may_sleep asleep_in_silence refl; in_the_end = λ whole. refl }

pub returns-clause-told_in_vain : goal.returns-clause-told_in_vain
unfolding computing
returns-clause-told_in_vain c = record { between = kept may_sleep asleep_given_up refl; in_the_end = λ whole. refl }

pub returns-clause-refused : goal.returns-clause-refused
unfolding computing
returns-clause-refused c = record { between = kept may_sleep asleep_refused refl; in_the_end = λ whole. refl }

pub returns-clause-woken_again : goal.returns-clause-woken_again
unfolding computing
returns-clause-woken_again c = record { between = kept may_sleep woken_again refl; in_the_end = λ whole. refl }

pub returns-clause-halted : goal.returns-clause-halted
unfolding computing
returns-clause-halted c = record { between = kept may_sleep telling refl; in_the_end = λ whole. cc }
