use Rattle.law_time.specs.Heeds.{heeds_of}
use Rattle.std.proofs.Common.{[], ◌∷◌, codes, refl}
use Rattle.law_time.specs.Choice.{may_send}
use Rattle.law_time.specs.WorkedBetween.{told_after_restart, told_as_chip_writes}
use Rattle.law_time.specs.WorkedQueue.{resent_segments, silent_attempt}
use Rattle.law_time.specs.WorkedWaits.{answered_errands, held_node, the_keeper, the_other_switch, woken_before_restart}
use Rattle.law_wire.specs.law_transcript.Worked.{cancelled_order, long_message, lossy_exchange, plain_exchange, repeated_exchange, restarted_host, sealed_exchange, sleeping_node, the_lock, the_plug, the_sensor, the_switch}
use Rattle.law_time.proofs.Computing.{computing}
use Rattle.law_wire.proofs.Deciding.{kept}
use Rattle.law_time.proofs.queue.worked_turns.Goals as goal
use Rattle.law_time.specs.WorkedEnds.{aborted_at_fourth}
use Rattle.law_time.specs.WorkedTurns.{again_after_cancelled, again_by_command, again_by_restart, again_by_waking, again_in_time, asked_as_heard, asked_at_once, asked_after_abort, asked_after_unkept, asked_over_refused, both_frames, asked_without_abort, discovered, first_resent, nonce_reported, probed, reported_beside_unkept, second_resent, told_after_report, told_again, told_awake, told_by_number, told_by_time, told_held, told_unheld, told_once, told_twice, told_as_numbered, told_by_time_as_numbered, copied_after_overrun, asked_after_interview}

pub returns-clause-lines : goal.returns-clause-lines
unfolding computing
returns-clause-lines c = kept (may_send (heeds_of (the_switch ∷ []))) answered_errands refl

pub returns-clause-interviews : goal.returns-clause-interviews
unfolding computing
returns-clause-interviews c = kept (may_send (heeds_of (the_sensor ∷ the_other_switch ∷ []))) woken_before_restart refl

pub returns-clause-nonces : goal.returns-clause-nonces
unfolding computing
returns-clause-nonces c = kept (may_send (heeds_of (the_lock ∷ []))) sealed_exchange refl

pub returns-clause-segments : goal.returns-clause-segments
unfolding computing
returns-clause-segments c = kept (may_send (heeds_of (the_plug ∷ []))) resent_segments refl

pub returns-clause-no_more : goal.returns-clause-no_more
unfolding computing
returns-clause-no_more c = kept (may_send (heeds_of (the_sensor ∷ []))) sleeping_node refl

pub returns-clause-held : goal.returns-clause-held
unfolding computing
returns-clause-held c = kept (may_send (heeds_of (the_keeper ∷ []))) held_node refl

pub returns-clause-abort : goal.returns-clause-abort
unfolding computing
returns-clause-abort c = kept (may_send (heeds_of (the_switch ∷ []))) silent_attempt refl

pub returns-clause-plain : goal.returns-clause-plain
unfolding computing
returns-clause-plain c = kept (may_send (heeds_of (the_switch ∷ []))) plain_exchange refl

pub returns-clause-repeated : goal.returns-clause-repeated
unfolding computing
returns-clause-repeated c = kept (may_send (heeds_of (the_switch ∷ []))) repeated_exchange refl

pub returns-clause-lossy : goal.returns-clause-lossy
unfolding computing
returns-clause-lossy c = kept (may_send (heeds_of (the_switch ∷ []))) lossy_exchange refl

pub returns-clause-cancelled : goal.returns-clause-cancelled
unfolding computing
returns-clause-cancelled c = kept (may_send (heeds_of (the_switch ∷ []))) cancelled_order refl

pub returns-clause-restarted : goal.returns-clause-restarted
unfolding computing
returns-clause-restarted c = kept (may_send (heeds_of (the_switch ∷ []))) restarted_host refl

pub returns-clause-cut : goal.returns-clause-cut
unfolding computing
returns-clause-cut c = kept (may_send (heeds_of (the_plug ∷ []))) long_message refl

pub returns-clause-aborted : goal.returns-clause-aborted
unfolding computing
returns-clause-aborted c = kept (may_send (heeds_of (the_switch ∷ []))) aborted_at_fourth refl

pub returns-clause-by_command : goal.returns-clause-by_command
unfolding computing
returns-clause-by_command c = kept (may_send (heeds_of (the_switch ∷ []))) again_by_command refl

pub returns-clause-by_waking : goal.returns-clause-by_waking
unfolding computing
returns-clause-by_waking c = kept (may_send (heeds_of (the_switch ∷ []))) again_by_waking refl

pub returns-clause-by_restart : goal.returns-clause-by_restart
unfolding computing
returns-clause-by_restart c = kept (may_send (heeds_of (the_switch ∷ []))) again_by_restart refl

pub returns-clause-in_time : goal.returns-clause-in_time
unfolding computing
returns-clause-in_time c = kept (may_send (heeds_of (the_switch ∷ []))) again_in_time refl

pub returns-clause-cancelled_other : goal.returns-clause-cancelled_other
unfolding computing
returns-clause-cancelled_other c = kept (may_send (heeds_of (the_switch ∷ []))) again_after_cancelled refl

pub returns-clause-discovered : goal.returns-clause-discovered
unfolding computing
returns-clause-discovered c = kept (may_send (heeds_of (the_switch ∷ []))) discovered refl

pub returns-clause-probed : goal.returns-clause-probed
unfolding computing
returns-clause-probed c = kept (may_send (heeds_of (the_switch ∷ []))) probed refl

pub returns-clause-over_refused : goal.returns-clause-over_refused
unfolding computing
returns-clause-over_refused c = kept (may_send (heeds_of (the_switch ∷ []))) asked_over_refused refl

pub returns-clause-after_abort : goal.returns-clause-after_abort
unfolding computing
returns-clause-after_abort c = kept (may_send (heeds_of (the_switch ∷ []))) asked_after_abort refl

pub returns-clause-without_abort : goal.returns-clause-without_abort
unfolding computing
returns-clause-without_abort c = kept (may_send (heeds_of (the_switch ∷ []))) asked_without_abort refl

pub returns-clause-reported : goal.returns-clause-reported
unfolding computing
returns-clause-reported c = kept (may_send (heeds_of (the_switch ∷ []))) nonce_reported refl

pub returns-clause-beside_unkept : goal.returns-clause-beside_unkept
unfolding computing
returns-clause-beside_unkept c = kept (may_send (heeds_of (the_switch ∷ []))) reported_beside_unkept refl

pub returns-clause-after_unkept : goal.returns-clause-after_unkept
unfolding computing
returns-clause-after_unkept c = kept (may_send (heeds_of (the_switch ∷ []))) asked_after_unkept refl

pub returns-clause-told_awake : goal.returns-clause-told_awake
unfolding computing
returns-clause-told_awake c = kept (may_send (heeds_of (the_switch ∷ []))) told_awake refl

pub returns-clause-told_held : goal.returns-clause-told_held
unfolding computing
returns-clause-told_held c = kept (may_send (heeds_of (the_switch ∷ []))) told_held refl

pub returns-clause-told_again : goal.returns-clause-told_again
unfolding computing
returns-clause-told_again c = kept (may_send (heeds_of (the_switch ∷ []))) told_again refl

pub returns-clause-unheld : goal.returns-clause-unheld
unfolding computing
returns-clause-unheld c = kept (may_send (heeds_of (the_switch ∷ []))) told_unheld refl

pub returns-clause-told_by_number : goal.returns-clause-told_by_number
unfolding computing
returns-clause-told_by_number c = kept (may_send (heeds_of (the_switch ∷ []))) told_by_number refl

pub returns-clause-told_by_time : goal.returns-clause-told_by_time
unfolding computing
returns-clause-told_by_time c = kept (may_send (heeds_of (the_switch ∷ []))) told_by_time refl

pub returns-clause-first_resent : goal.returns-clause-first_resent
unfolding computing
returns-clause-first_resent c = kept (may_send (heeds_of (the_plug ∷ []))) first_resent refl

pub returns-clause-second_resent : goal.returns-clause-second_resent
unfolding computing
returns-clause-second_resent c = kept (may_send (heeds_of (the_plug ∷ []))) second_resent refl

pub returns-clause-told_once : goal.returns-clause-told_once
unfolding computing
returns-clause-told_once c = kept (may_send (heeds_of (the_switch ∷ []))) told_once refl

pub returns-clause-told_twice : goal.returns-clause-told_twice
unfolding computing
returns-clause-told_twice c = kept (may_send (heeds_of (the_switch ∷ []))) told_twice refl

pub returns-clause-told_as_numbered : goal.returns-clause-told_as_numbered
unfolding computing
returns-clause-told_as_numbered c = kept (may_send (heeds_of (the_switch ∷ []))) told_as_numbered refl

pub returns-clause-told_by_time_as_numbered : goal.returns-clause-told_by_time_as_numbered
unfolding computing
returns-clause-told_by_time_as_numbered c = kept (may_send (heeds_of (the_switch ∷ []))) told_by_time_as_numbered refl

pub returns-clause-overrun : goal.returns-clause-overrun
unfolding computing
returns-clause-overrun c = kept (may_send (heeds_of (the_switch ∷ []))) copied_after_overrun refl

pub returns-clause-following_interview : goal.returns-clause-following_interview
unfolding computing
returns-clause-following_interview c = kept (may_send (heeds_of (the_switch ∷ []))) asked_after_interview refl

pub returns-clause-as_chip_writes : goal.returns-clause-as_chip_writes
unfolding computing
returns-clause-as_chip_writes c = kept (may_send (heeds_of (the_switch ∷ the_sensor ∷ []))) told_as_chip_writes refl

pub returns-clause-after_restart : goal.returns-clause-after_restart
unfolding computing
returns-clause-after_restart c = kept (may_send (heeds_of (the_keeper ∷ []))) told_after_restart refl

pub returns-clause-in_one_line : goal.returns-clause-in_one_line
unfolding computing
returns-clause-in_one_line c = kept (may_send (heeds_of (the_keeper ∷ []))) (told_after_report (asked_at_once both_frames)) refl

pub returns-clause-in_one_read : goal.returns-clause-in_one_read
unfolding computing
returns-clause-in_one_read c = kept (may_send (heeds_of (the_keeper ∷ []))) (told_after_report (asked_at_once (codes "chip"))) refl

pub returns-clause-as_heard : goal.returns-clause-as_heard
unfolding computing
returns-clause-as_heard c = kept (may_send (heeds_of (the_keeper ∷ []))) (told_after_report (asked_as_heard (codes "chip"))) refl
