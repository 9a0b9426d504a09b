use Rattle.law_time.specs.Heeds.{heeds_of}
use Rattle.std.proofs.Common.{[], ◌∷◌, refl}
use Rattle.law_time.specs.Unanswered.{may_give_up}
use Rattle.law_time.specs.WorkedQueue.{failed_attempts, resent_segments, silent_attempt}
use Rattle.law_time.specs.WorkedWaits.{given_up_asleep, given_up_lock, given_up_segments, waited_attempts}
use Rattle.law_wire.specs.law_transcript.Worked.{cancelled_order, long_message, lossy_exchange, plain_exchange, repeated_exchange, restarted_host, sealed_exchange, sleeping_node, the_lock, the_plug, the_sensor, the_switch}
use Rattle.law_time.proofs.Computing.{computing}
use Rattle.law_wire.proofs.Deciding.{kept}
use Rattle.law_time.proofs.waits.worked_attempts.Goals as goal
use Rattle.law_time.specs.WorkedAttempts.{given_up_at_segment, given_up_after_lost, given_up_after_frames, given_up_beside_get, given_up_beside_other, given_up_beside_working, given_up_over_refused, given_up_refused, given_up_working, halted_waiting, given_up_after_unit, given_up_unkept}

pub returns-clause-lossy : goal.returns-clause-lossy
unfolding computing
returns-clause-lossy c = record { between = kept (may_give_up (heeds_of (the_switch ∷ []))) lossy_exchange refl; in_the_end = λ whole. refl }

pub returns-clause-waited : goal.returns-clause-waited
unfolding computing
returns-clause-waited c = record { between = kept (may_give_up (heeds_of (the_switch ∷ []))) waited_attempts refl; in_the_end = λ whole. refl }

pub returns-clause-sleeping : goal.returns-clause-sleeping
unfolding computing
returns-clause-sleeping c = record { between = kept (may_give_up (heeds_of (the_sensor ∷ []))) given_up_asleep refl; in_the_end = λ whole. refl }

pub returns-clause-lock : goal.returns-clause-lock
unfolding computing
returns-clause-lock c = record { between = kept (may_give_up (heeds_of (the_lock ∷ []))) given_up_lock refl; in_the_end = λ whole. refl }

pub returns-clause-segments : goal.returns-clause-segments
unfolding computing
returns-clause-segments c = record { between = kept (may_give_up (heeds_of (the_plug ∷ []))) given_up_segments refl; in_the_end = λ whole. refl }

pub returns-clause-resent : goal.returns-clause-resent
unfolding computing
returns-clause-resent c = record { between = kept (may_give_up (heeds_of (the_plug ∷ []))) resent_segments refl; in_the_end = λ whole. refl }

pub returns-clause-failed : goal.returns-clause-failed
unfolding computing
returns-clause-failed c = record { between = kept (may_give_up (heeds_of (the_switch ∷ []))) failed_attempts refl; in_the_end = λ whole. refl }

pub returns-clause-silent : goal.returns-clause-silent
unfolding computing
returns-clause-silent c = record { between = kept (may_give_up (heeds_of (the_switch ∷ []))) silent_attempt refl; in_the_end = λ whole. refl }

pub returns-clause-plain : goal.returns-clause-plain
unfolding computing
returns-clause-plain c = record { between = kept (may_give_up (heeds_of (the_switch ∷ []))) plain_exchange refl; in_the_end = λ whole. refl }

pub returns-clause-repeated : goal.returns-clause-repeated
unfolding computing
returns-clause-repeated c = record { between = kept (may_give_up (heeds_of (the_switch ∷ []))) repeated_exchange refl; in_the_end = λ whole. refl }

pub returns-clause-cancelled : goal.returns-clause-cancelled
unfolding computing
returns-clause-cancelled c = record { between = kept (may_give_up (heeds_of (the_switch ∷ []))) cancelled_order refl; in_the_end = λ whole. refl }

pub returns-clause-restarted : goal.returns-clause-restarted
unfolding computing
returns-clause-restarted c = record { between = kept (may_give_up (heeds_of (the_switch ∷ []))) restarted_host refl; in_the_end = λ whole. refl }

pub returns-clause-sleeps : goal.returns-clause-sleeps
unfolding computing
returns-clause-sleeps c = record { between = kept (may_give_up (heeds_of (the_sensor ∷ []))) sleeping_node refl; in_the_end = λ whole. refl }

pub returns-clause-sealed : goal.returns-clause-sealed
unfolding computing
returns-clause-sealed c = record { between = kept (may_give_up (heeds_of (the_lock ∷ []))) sealed_exchange refl; in_the_end = λ whole. refl }

pub returns-clause-cut : goal.returns-clause-cut
unfolding computing
returns-clause-cut c = record { between = kept (may_give_up (heeds_of (the_plug ∷ []))) long_message refl; in_the_end = λ whole. refl }

pub returns-clause-after_lost : goal.returns-clause-after_lost
unfolding computing
returns-clause-after_lost c = record { between = kept (may_give_up (heeds_of (the_switch ∷ []))) given_up_after_lost refl; in_the_end = λ whole. refl }

pub returns-clause-refused : goal.returns-clause-refused
unfolding computing
returns-clause-refused c = record { between = kept (may_give_up (heeds_of (the_switch ∷ []))) given_up_refused refl; in_the_end = λ whole. refl }

pub returns-clause-working : goal.returns-clause-working
unfolding computing
returns-clause-working c = record { between = kept (may_give_up (heeds_of (the_switch ∷ []))) given_up_working refl; in_the_end = λ whole. refl }

pub returns-clause-beside_working : goal.returns-clause-beside_working
unfolding computing
returns-clause-beside_working c = record { between = kept (may_give_up (heeds_of (the_switch ∷ []))) given_up_beside_working refl; in_the_end = λ whole. refl }

pub returns-clause-beside_get : goal.returns-clause-beside_get
unfolding computing
returns-clause-beside_get c = record { between = kept (may_give_up (heeds_of (the_switch ∷ []))) given_up_beside_get refl; in_the_end = λ whole. refl }

pub returns-clause-beside_other : goal.returns-clause-beside_other
unfolding computing
returns-clause-beside_other c = record { between = kept (may_give_up (heeds_of (the_switch ∷ []))) given_up_beside_other refl; in_the_end = λ whole. refl }

pub returns-clause-over_refused : goal.returns-clause-over_refused
unfolding computing
returns-clause-over_refused c = record { between = kept (may_give_up (heeds_of (the_switch ∷ []))) given_up_over_refused refl; in_the_end = λ whole. refl }

pub returns-clause-at_segment : goal.returns-clause-at_segment
unfolding computing
returns-clause-at_segment c = record { between = kept (may_give_up (heeds_of (the_plug ∷ []))) given_up_at_segment refl; in_the_end = λ whole. refl }

pub returns-clause-halted : goal.returns-clause-halted
unfolding computing
returns-clause-halted c = record { between = kept (may_give_up (heeds_of (the_switch ∷ []))) halted_waiting refl; in_the_end = λ whole. cc }

pub returns-clause-unkept : goal.returns-clause-unkept
unfolding computing
returns-clause-unkept c = record { between = kept (may_give_up (heeds_of (the_switch ∷ []))) given_up_unkept refl; in_the_end = λ whole. refl }

pub returns-clause-after_unit : goal.returns-clause-after_unit
unfolding computing
returns-clause-after_unit c = record { between = kept (may_give_up (heeds_of (the_switch ∷ []))) given_up_after_unit refl; in_the_end = λ whole. refl }

pub returns-clause-after_frames : goal.returns-clause-after_frames
unfolding computing
returns-clause-after_frames c = record { between = kept (may_give_up (heeds_of (the_switch ∷ []))) given_up_after_frames refl; in_the_end = λ whole. refl }
