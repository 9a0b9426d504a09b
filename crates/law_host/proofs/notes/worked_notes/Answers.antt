use Rattle.law_time.specs.Heeds.{heeds_of}
use Rattle.std.proofs.Common.{[], ◌∷◌, refl}
use Rattle.std.specs.Prelude.{drop}
use Rattle.law_host.specs.Notes.{first_start}
use Rattle.law_host.specs.Worked.{after_begun, after_later_nonce, after_lock_begun, after_sessions, after_sleeper_begun, after_values, after_waking, all_kept, begun_unkept, failure_told, given_up_beside_copy, given_up_in_order, held_at_failure, last_session, other_told, report_refused, told_openly, unread_payload, unread_sealed, unsupported_told, value_heard, value_unstored, woken, work_told}
use Rattle.law_time.specs.WorkedEnds.{asleep_given_up, asleep_in_silence, given_up_at_answer, interview_refused, interview_uninformed}
use Rattle.law_time.specs.WorkedTurns.{dropped_after_report}
use Rattle.law_time.specs.WorkedWaits.{answered_errands, the_other_switch, waited_attempts}
use Rattle.law_time.specs.law_transcript.Worked.{cancelled_order, lossy_exchange, plain_exchange, repeated_exchange, restarted_host, sleeping_node, the_lock, the_sensor, the_switch}
use Rattle.law_time.proofs.Computing.{computing}
use Rattle.law_host.proofs.Noting.{noted}
use Rattle.law_host.proofs.notes.worked_notes.Goals as goal

pub returns-clause-plain : goal.returns-clause-plain
unfolding computing
returns-clause-plain c = noted [] (heeds_of (the_switch ∷ [])) first_start plain_exchange all_kept refl

pub returns-clause-repeated : goal.returns-clause-repeated
unfolding computing
returns-clause-repeated c = noted [] (heeds_of (the_switch ∷ [])) first_start repeated_exchange all_kept refl

pub returns-clause-lossy : goal.returns-clause-lossy
unfolding computing
returns-clause-lossy c = noted [] (heeds_of (the_switch ∷ [])) first_start lossy_exchange all_kept refl

pub returns-clause-cancelled : goal.returns-clause-cancelled
unfolding computing
returns-clause-cancelled c = noted [] (heeds_of (the_switch ∷ [])) first_start cancelled_order all_kept refl

pub returns-clause-restarted : goal.returns-clause-restarted
unfolding computing
returns-clause-restarted c = noted [] (heeds_of (the_switch ∷ [])) first_start restarted_host all_kept refl

pub returns-clause-sleeping : goal.returns-clause-sleeping
unfolding computing
returns-clause-sleeping c = noted [] (heeds_of (the_sensor ∷ [])) first_start sleeping_node all_kept refl

pub returns-clause-answered : goal.returns-clause-answered
unfolding computing
returns-clause-answered c = noted [] (heeds_of (the_switch ∷ [])) first_start answered_errands all_kept refl

pub returns-clause-waited : goal.returns-clause-waited
unfolding computing
returns-clause-waited c = noted [] (heeds_of (the_switch ∷ [])) first_start waited_attempts all_kept refl

pub returns-clause-beside_copy : goal.returns-clause-beside_copy
unfolding computing
returns-clause-beside_copy c = noted [] (heeds_of (the_switch ∷ [])) first_start given_up_beside_copy all_kept refl

pub returns-clause-in_order : goal.returns-clause-in_order
unfolding computing
returns-clause-in_order c = noted [] (heeds_of (the_switch ∷ the_other_switch ∷ [])) first_start given_up_in_order all_kept refl

pub returns-clause-value : goal.returns-clause-value
unfolding computing
returns-clause-value c = noted [] (heeds_of (the_switch ∷ [])) first_start value_heard all_kept refl

pub returns-clause-last : goal.returns-clause-last
unfolding computing
returns-clause-last c = noted [] (heeds_of (the_switch ∷ [])) after_sessions last_session all_kept refl

pub returns-clause-failed : goal.returns-clause-failed
unfolding computing
returns-clause-failed c = noted [] (heeds_of (the_switch ∷ [])) after_begun failure_told all_kept refl

pub returns-clause-unsupported : goal.returns-clause-unsupported
unfolding computing
returns-clause-unsupported c = noted [] (heeds_of (the_switch ∷ [])) after_begun unsupported_told all_kept refl

pub returns-clause-other : goal.returns-clause-other
unfolding computing
returns-clause-other c = noted [] (heeds_of (the_switch ∷ [])) after_begun other_told all_kept refl

pub returns-clause-openly : goal.returns-clause-openly
unfolding computing
returns-clause-openly c = noted [] (heeds_of (the_lock ∷ [])) after_lock_begun told_openly all_kept refl

pub returns-clause-woken : goal.returns-clause-woken
unfolding computing
returns-clause-woken c = noted [] (heeds_of (the_sensor ∷ [])) first_start woken all_kept refl

pub returns-clause-in_silence : goal.returns-clause-in_silence
unfolding computing
returns-clause-in_silence c = noted [] (heeds_of (the_sensor ∷ [])) after_waking (drop 1 asleep_in_silence) all_kept refl

pub returns-clause-given_up : goal.returns-clause-given_up
unfolding computing
returns-clause-given_up c = noted [] (heeds_of (the_sensor ∷ [])) after_waking (drop 1 asleep_given_up) all_kept refl

pub returns-clause-at_answer : goal.returns-clause-at_answer
unfolding computing
returns-clause-at_answer c = noted [] (heeds_of (the_switch ∷ [])) first_start given_up_at_answer all_kept refl

pub returns-clause-held : goal.returns-clause-held
unfolding computing
returns-clause-held c = noted [] (heeds_of (the_sensor ∷ [])) after_sleeper_begun held_at_failure all_kept refl

pub returns-clause-unkept : goal.returns-clause-unkept
unfolding computing
returns-clause-unkept c = noted [] (heeds_of (the_switch ∷ [])) first_start begun_unkept all_kept refl

pub returns-clause-dropped : goal.returns-clause-dropped
unfolding computing
returns-clause-dropped c = noted [] (heeds_of (the_switch ∷ [])) first_start dropped_after_report all_kept refl

pub returns-clause-unstored : goal.returns-clause-unstored
unfolding computing
returns-clause-unstored c = noted [] (heeds_of (the_switch ∷ [])) after_values value_unstored all_kept refl

pub returns-clause-working : goal.returns-clause-working
unfolding computing
returns-clause-working c = noted [] (heeds_of (the_switch ∷ [])) after_begun work_told all_kept refl

pub returns-clause-changed : goal.returns-clause-changed
unfolding computing
returns-clause-changed c = noted [] (heeds_of (the_switch ∷ [])) after_begun report_refused all_kept refl

pub returns-clause-none_live : goal.returns-clause-none_live
unfolding computing
returns-clause-none_live c = noted [] (heeds_of (the_lock ∷ [])) after_lock_begun unread_sealed all_kept refl

pub returns-clause-later_live : goal.returns-clause-later_live
unfolding computing
returns-clause-later_live c = noted [] (heeds_of (the_lock ∷ [])) after_later_nonce unread_sealed all_kept refl

pub returns-clause-unread : goal.returns-clause-unread
unfolding computing
returns-clause-unread c = noted [] (heeds_of (the_switch ∷ [])) first_start unread_payload all_kept refl

pub returns-clause-uninformed : goal.returns-clause-uninformed
unfolding computing
returns-clause-uninformed c = noted [] (heeds_of (the_switch ∷ [])) first_start interview_uninformed all_kept refl

pub returns-clause-refused : goal.returns-clause-refused
unfolding computing
returns-clause-refused c = noted [] (heeds_of (the_switch ∷ [])) first_start interview_refused all_kept refl
