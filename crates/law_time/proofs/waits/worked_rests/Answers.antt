use Rattle.law_time.specs.Heeds.{heeds_of}
use Rattle.std.proofs.Common.{[], ◌∷◌, refl}
use Rattle.law_time.specs.Rests.{may_rest}
use Rattle.law_time.specs.WorkedBetween.{told_after_restart, told_as_chip_writes}
use Rattle.law_time.specs.WorkedChoice.{attempt_follows}
use Rattle.law_time.specs.WorkedQueue.{resent_segments}
use Rattle.law_time.specs.WorkedWaits.{sent_in_stall, answered_errands, the_keeper, the_other_switch, waited_attempts, woken_before_restart}
use Rattle.law_wire.specs.law_transcript.Worked.{cancelled_order, long_message, lossy_exchange, plain_exchange, repeated_exchange, restarted_host, sealed_exchange, sleeping_node, the_lock, the_plug, the_sensor, the_switch}
use Rattle.law_time.proofs.Computing.{computing}
use Rattle.law_wire.proofs.Deciding.{kept}
use Rattle.law_time.proofs.waits.worked_rests.Goals as goal
use Rattle.law_time.specs.WorkedAttempts.{asked_before_restart, begun_kept, waits_asleep}
use Rattle.law_time.specs.WorkedEnds.{informed, informed_unkept, interview_uninformed, waits_for_line}

pub returns-clause-plain : goal.returns-clause-plain
unfolding computing
returns-clause-plain c = record { between = kept (may_rest (heeds_of (the_switch ∷ []))) plain_exchange refl; in_the_end = λ whole. refl }

pub returns-clause-errands : goal.returns-clause-errands
unfolding computing
returns-clause-errands c = record { between = kept (may_rest (heeds_of (the_switch ∷ []))) answered_errands refl; in_the_end = λ whole. refl }

pub returns-clause-waited : goal.returns-clause-waited
unfolding computing
returns-clause-waited c = record { between = kept (may_rest (heeds_of (the_switch ∷ []))) waited_attempts refl; in_the_end = λ whole. refl }

pub returns-clause-sleeping : goal.returns-clause-sleeping
unfolding computing
returns-clause-sleeping c = record { between = kept (may_rest (heeds_of (the_sensor ∷ []))) sleeping_node refl; in_the_end = λ whole. refl }

pub returns-clause-sealed : goal.returns-clause-sealed
unfolding computing
returns-clause-sealed c = record { between = kept (may_rest (heeds_of (the_lock ∷ []))) sealed_exchange refl; in_the_end = λ whole. refl }

pub returns-clause-resent : goal.returns-clause-resent
unfolding computing
returns-clause-resent c = record { between = kept (may_rest (heeds_of (the_plug ∷ []))) resent_segments refl; in_the_end = λ whole. refl }

pub returns-clause-restarted : goal.returns-clause-restarted
unfolding computing
returns-clause-restarted c = record { between = kept (may_rest (heeds_of (the_sensor ∷ the_other_switch ∷ []))) woken_before_restart refl; in_the_end = λ whole. refl }

pub returns-clause-said_awake : goal.returns-clause-said_awake
unfolding computing
returns-clause-said_awake c = refl

pub returns-clause-not_up : goal.returns-clause-not_up
unfolding computing
returns-clause-not_up c = refl

pub returns-clause-waits : goal.returns-clause-waits
unfolding computing
returns-clause-waits c = refl

pub returns-clause-repeated : goal.returns-clause-repeated
unfolding computing
returns-clause-repeated c = record { between = kept (may_rest (heeds_of (the_switch ∷ []))) repeated_exchange refl; in_the_end = λ whole. refl }

pub returns-clause-lossy : goal.returns-clause-lossy
unfolding computing
returns-clause-lossy c = record { between = kept (may_rest (heeds_of (the_switch ∷ []))) lossy_exchange refl; in_the_end = λ whole. refl }

pub returns-clause-cancelled : goal.returns-clause-cancelled
unfolding computing
returns-clause-cancelled c = record { between = kept (may_rest (heeds_of (the_switch ∷ []))) cancelled_order refl; in_the_end = λ whole. refl }

pub returns-clause-host_restarted : goal.returns-clause-host_restarted
unfolding computing
returns-clause-host_restarted c = record { between = kept (may_rest (heeds_of (the_switch ∷ []))) restarted_host refl; in_the_end = λ whole. refl }

pub returns-clause-cut : goal.returns-clause-cut
unfolding computing
returns-clause-cut c = record { between = kept (may_rest (heeds_of (the_plug ∷ []))) long_message refl; in_the_end = λ whole. refl }

pub returns-clause-kept : goal.returns-clause-kept
unfolding computing
returns-clause-kept c = record { between = kept (may_rest (heeds_of (the_switch ∷ []))) begun_kept refl; in_the_end = λ whole. refl }

pub returns-clause-asleep : goal.returns-clause-asleep
unfolding computing
returns-clause-asleep c = record { between = kept (may_rest (heeds_of (the_switch ∷ []))) waits_asleep refl; in_the_end = λ whole. refl }

pub returns-clause-before_restart : goal.returns-clause-before_restart
unfolding computing
returns-clause-before_restart c = record { between = kept (may_rest (heeds_of (the_switch ∷ []))) asked_before_restart refl; in_the_end = λ whole. refl }

pub returns-clause-informed : goal.returns-clause-informed
unfolding computing
returns-clause-informed c = record { between = kept (may_rest (heeds_of (the_switch ∷ []))) informed refl; in_the_end = λ whole. refl }

pub returns-clause-uninformed : goal.returns-clause-uninformed
unfolding computing
returns-clause-uninformed c = record { between = kept (may_rest (heeds_of (the_switch ∷ []))) interview_uninformed refl; in_the_end = λ whole. refl }

pub returns-clause-unkept : goal.returns-clause-unkept
unfolding computing
returns-clause-unkept c = record { between = kept (may_rest (heeds_of (the_switch ∷ []))) informed_unkept refl; in_the_end = λ whole. refl }

pub returns-clause-for_line : goal.returns-clause-for_line
unfolding computing
returns-clause-for_line c = record { between = kept (may_rest (heeds_of (the_switch ∷ []))) waits_for_line refl; in_the_end = λ whole. refl }

pub returns-clause-as_chip_writes : goal.returns-clause-as_chip_writes
unfolding computing
returns-clause-as_chip_writes c = record { between = kept (may_rest (heeds_of (the_switch ∷ the_sensor ∷ []))) told_as_chip_writes refl; in_the_end = λ whole. refl }

pub returns-clause-after_restart : goal.returns-clause-after_restart
unfolding computing
returns-clause-after_restart c = record { between = kept (may_rest (heeds_of (the_keeper ∷ []))) told_after_restart refl; in_the_end = λ whole. refl }

pub returns-clause-attempt : goal.returns-clause-attempt
unfolding computing
returns-clause-attempt c = record { between = kept (may_rest (heeds_of (the_plug ∷ []))) attempt_follows refl; in_the_end = λ whole. refl }

pub returns-clause-stalled : goal.returns-clause-stalled
unfolding computing
returns-clause-stalled c = record { between = kept (may_rest (heeds_of (the_switch ∷ []))) sent_in_stall refl; in_the_end = λ whole. refl }
