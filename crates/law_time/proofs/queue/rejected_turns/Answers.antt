use Rattle.law_time.specs.Heeds.{heeds_of}
use Rattle.std.proofs.Common.{[], ◌∷◌, codes, refl}
use Rattle.law_time.specs.Choice.{may_send}
use Rattle.law_time.specs.WrongBetween.{told_again_as_chip_writes}
use Rattle.law_time.specs.WrongQueue.{aborted_unasked, sent_before_abort, sent_before_report}
use Rattle.law_time.specs.WrongRequests.{sent_out_of_turn, sent_unasked}
use Rattle.law_time.specs.WorkedTurns.{asked_as_heard, asked_at_once}
use Rattle.law_time.specs.WorkedWaits.{the_keeper}
use Rattle.law_time.specs.WrongWaits.{told_while_waiting}
use Rattle.zw_text.specs.declared.entry.Ended.TheVariants as endings
use Rattle.law_wire.specs.law_transcript.Worked.{the_lock, the_sensor, the_switch, the_plug}
use Rattle.law_time.specs.WrongEntries.{sent_after_end}
use Rattle.law_time.proofs.Computing.{computing}
use Rattle.law_wire.proofs.Deciding.{broken}
use Rattle.law_time.proofs.queue.rejected_turns.Goals as goal
use Rattle.law_time.specs.WrongTurns.{asked_over_restart, probed_out_of_turn, reported_before_told, reported_unkept, resent_beyond, resent_inside, resent_of_other, resent_of_plain, resent_when_ended, sent_again, sent_asleep, sent_by_other_command, sent_by_other_waking, sent_by_refused_restart, sent_fifth, sent_for_nothing, sent_in_time, sent_over_restart, sent_refused, sent_to_other, sent_too_soon, sent_when_ended, told_asleep, told_before_report, told_listening, told_out_of_turn, told_though_held, told_unjoined, told_unknown, told_while_held, aborted_early}

pub returns-clause-out_of_turn : goal.returns-clause-out_of_turn
unfolding computing
returns-clause-out_of_turn c = broken (may_send (heeds_of (the_switch ∷ []))) sent_out_of_turn refl

pub returns-clause-unasked : goal.returns-clause-unasked
unfolding computing
returns-clause-unasked c = broken (may_send (heeds_of (the_switch ∷ []))) sent_unasked refl

pub returns-clause-before_report : goal.returns-clause-before_report
unfolding computing
returns-clause-before_report c = broken (may_send (heeds_of (the_lock ∷ []))) sent_before_report refl

pub returns-clause-waiting : goal.returns-clause-waiting
unfolding computing
returns-clause-waiting c = broken (may_send (heeds_of (the_sensor ∷ []))) told_while_waiting refl

pub returns-clause-before_abort : goal.returns-clause-before_abort
unfolding computing
returns-clause-before_abort c = broken (may_send (heeds_of (the_switch ∷ []))) sent_before_abort refl

pub returns-clause-aborted : goal.returns-clause-aborted
unfolding computing
returns-clause-aborted c = broken (may_send (heeds_of (the_switch ∷ []))) aborted_unasked refl

pub returns-clause-following_end : goal.returns-clause-following_end
unfolding computing
returns-clause-following_end c = broken (may_send (heeds_of (the_switch ∷ []))) sent_after_end refl

pub returns-clause-fifth : goal.returns-clause-fifth
unfolding computing
returns-clause-fifth c = broken (may_send (heeds_of (the_switch ∷ []))) sent_fifth refl

pub returns-clause-again : goal.returns-clause-again
unfolding computing
returns-clause-again c = broken (may_send (heeds_of (the_switch ∷ []))) sent_again refl

pub returns-clause-for_nothing : goal.returns-clause-for_nothing
unfolding computing
returns-clause-for_nothing c = broken (may_send (heeds_of (the_switch ∷ []))) sent_for_nothing refl

pub returns-clause-other_command : goal.returns-clause-other_command
unfolding computing
returns-clause-other_command c = broken (may_send (heeds_of (the_switch ∷ []))) sent_by_other_command refl

pub returns-clause-in_time : goal.returns-clause-in_time
unfolding computing
returns-clause-in_time c = broken (may_send (heeds_of (the_switch ∷ []))) sent_in_time refl

pub returns-clause-too_soon : goal.returns-clause-too_soon
unfolding computing
returns-clause-too_soon c = broken (may_send (heeds_of (the_switch ∷ []))) sent_too_soon refl

pub returns-clause-ended : goal.returns-clause-ended
unfolding computing
returns-clause-ended c = broken (may_send (heeds_of (the_switch ∷ []))) (sent_when_ended endings.Success) refl

pub returns-clause-asleep : goal.returns-clause-asleep
unfolding computing
returns-clause-asleep c = broken (may_send (heeds_of (the_switch ∷ []))) sent_asleep refl

pub returns-clause-other_waking : goal.returns-clause-other_waking
unfolding computing
returns-clause-other_waking c = broken (may_send (heeds_of (the_switch ∷ []))) sent_by_other_waking refl

pub returns-clause-refused_restart : goal.returns-clause-refused_restart
unfolding computing
returns-clause-refused_restart c = broken (may_send (heeds_of (the_switch ∷ []))) sent_by_refused_restart refl

pub returns-clause-over_restart : goal.returns-clause-over_restart
unfolding computing
returns-clause-over_restart c = broken (may_send (heeds_of (the_switch ∷ []))) sent_over_restart refl

pub returns-clause-to_other : goal.returns-clause-to_other
unfolding computing
returns-clause-to_other c = broken (may_send (heeds_of (the_switch ∷ []))) sent_to_other refl

pub returns-clause-probed : goal.returns-clause-probed
unfolding computing
returns-clause-probed c = broken (may_send (heeds_of (the_switch ∷ []))) probed_out_of_turn refl

pub returns-clause-refused : goal.returns-clause-refused
unfolding computing
returns-clause-refused c = broken (may_send (heeds_of (the_switch ∷ []))) sent_refused refl

pub returns-clause-asked_over_restart : goal.returns-clause-asked_over_restart
unfolding computing
returns-clause-asked_over_restart c = broken (may_send (heeds_of (the_switch ∷ []))) asked_over_restart refl

pub returns-clause-unkept : goal.returns-clause-unkept
unfolding computing
returns-clause-unkept c = broken (may_send (heeds_of (the_switch ∷ []))) reported_unkept refl

pub returns-clause-unjoined : goal.returns-clause-unjoined
unfolding computing
returns-clause-unjoined c = broken (may_send (heeds_of (the_switch ∷ []))) told_unjoined refl

pub returns-clause-unknown : goal.returns-clause-unknown
unfolding computing
returns-clause-unknown c = broken (may_send (heeds_of (the_switch ∷ []))) told_unknown refl

pub returns-clause-told_asleep : goal.returns-clause-told_asleep
unfolding computing
returns-clause-told_asleep c = broken (may_send (heeds_of (the_switch ∷ []))) told_asleep refl

pub returns-clause-listening : goal.returns-clause-listening
unfolding computing
returns-clause-listening c = broken (may_send (heeds_of (the_switch ∷ []))) told_listening refl

pub returns-clause-held : goal.returns-clause-held
unfolding computing
returns-clause-held c = broken (may_send (heeds_of (the_switch ∷ []))) told_while_held refl

pub returns-clause-though_held : goal.returns-clause-though_held
unfolding computing
returns-clause-though_held c = broken (may_send (heeds_of (the_switch ∷ []))) told_though_held refl

pub returns-clause-told_out_of_turn : goal.returns-clause-told_out_of_turn
unfolding computing
returns-clause-told_out_of_turn c = broken (may_send (heeds_of (the_switch ∷ []))) told_out_of_turn refl

pub returns-clause-other_segment : goal.returns-clause-other_segment
unfolding computing
returns-clause-other_segment c = broken (may_send (heeds_of (the_plug ∷ []))) resent_of_other refl

pub returns-clause-inside_segment : goal.returns-clause-inside_segment
unfolding computing
returns-clause-inside_segment c = broken (may_send (heeds_of (the_plug ∷ []))) resent_inside refl

pub returns-clause-beyond_segment : goal.returns-clause-beyond_segment
unfolding computing
returns-clause-beyond_segment c = broken (may_send (heeds_of (the_plug ∷ []))) resent_beyond refl

pub returns-clause-ended_segment : goal.returns-clause-ended_segment
unfolding computing
returns-clause-ended_segment c = broken (may_send (heeds_of (the_plug ∷ []))) resent_when_ended refl

pub returns-clause-plain_segment : goal.returns-clause-plain_segment
unfolding computing
returns-clause-plain_segment c = broken (may_send (heeds_of (the_switch ∷ []))) resent_of_plain refl

pub returns-clause-failed_session : goal.returns-clause-failed_session
unfolding computing
returns-clause-failed_session c = broken (may_send (heeds_of (the_switch ∷ []))) (sent_when_ended endings.Fail) refl

pub returns-clause-unsupported_session : goal.returns-clause-unsupported_session
unfolding computing
returns-clause-unsupported_session c = broken (may_send (heeds_of (the_switch ∷ []))) (sent_when_ended endings.NoSupport) refl

pub returns-clause-aborted_early : goal.returns-clause-aborted_early
unfolding computing
returns-clause-aborted_early c = broken (may_send (heeds_of (the_switch ∷ []))) aborted_early refl

pub returns-clause-again_as_chip_writes : goal.returns-clause-again_as_chip_writes
unfolding computing
returns-clause-again_as_chip_writes c = broken (may_send (heeds_of (the_switch ∷ the_sensor ∷ []))) told_again_as_chip_writes refl

pub returns-clause-before_nonce : goal.returns-clause-before_nonce
unfolding computing
returns-clause-before_nonce c = broken (may_send (heeds_of (the_keeper ∷ []))) (told_before_report (asked_at_once (codes "chip"))) refl

pub returns-clause-before_nonce_heard : goal.returns-clause-before_nonce_heard
unfolding computing
returns-clause-before_nonce_heard c = broken (may_send (heeds_of (the_keeper ∷ []))) (told_before_report (asked_as_heard (codes "chip"))) refl

pub returns-clause-in_two_lines : goal.returns-clause-in_two_lines
unfolding computing
returns-clause-in_two_lines c = broken (may_send (heeds_of (the_keeper ∷ []))) reported_before_told refl
