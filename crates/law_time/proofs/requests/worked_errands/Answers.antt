use Rattle.std.proofs.Common.{[], ◌∷◌, refl}
use Rattle.law_time.specs.Errands.{may_say_done}
use Rattle.law_time.specs.WorkedWaits.{answered_errands, not_idle_errand, refused_errand, silent_request, unrouted_errand}
use Rattle.law_wire.specs.law_transcript.Nodes.{listing_of, always}
use Rattle.law_wire.specs.law_transcript.Worked.{cancelled_order, long_message, lossy_exchange, plain_exchange, repeated_exchange, restarted_host, sealed_exchange, sleeping_node, the_lock, the_plug, the_sensor, the_switch}
use Rattle.law_wire.specs.law_transcript.WorkedCases.{the_dimmer}
use Rattle.law_time.proofs.Computing.{computing}
use Rattle.law_wire.proofs.Deciding.{kept}
use Rattle.law_time.proofs.requests.worked_errands.Goals as goal
use Rattle.law_time.specs.WorkedEnds.{acknowledged_after_stray, acknowledged_last, delivered_after_unread, delivered_before_denied, delivered_last, delivered_unanswered, failed_errand, given_up_at_answer, given_up_errand, given_up_in_time, refused_after_others, said_after_changed, said_after_lost, said_after_overrun, said_by_old_list, silent_before_given_up, silent_before_response, silent_after_response, denied_with_response, silent_later, silent_after_late, delivered_after_refused, silent_beside_other}

pub returns-clause-answered : goal.returns-clause-answered
unfolding computing
returns-clause-answered c = kept (may_say_done (always (listing_of (the_switch ∷ [])))) answered_errands refl

pub returns-clause-silent : goal.returns-clause-silent
unfolding computing
returns-clause-silent c = kept (may_say_done (always (listing_of (the_switch ∷ [])))) silent_request refl

pub returns-clause-plain : goal.returns-clause-plain
unfolding computing
returns-clause-plain c = kept (may_say_done (always (listing_of (the_switch ∷ [])))) plain_exchange refl

pub returns-clause-repeated : goal.returns-clause-repeated
unfolding computing
returns-clause-repeated c = kept (may_say_done (always (listing_of (the_switch ∷ [])))) repeated_exchange refl

pub returns-clause-lossy : goal.returns-clause-lossy
unfolding computing
returns-clause-lossy c = kept (may_say_done (always (listing_of (the_switch ∷ [])))) lossy_exchange refl

pub returns-clause-cancelled : goal.returns-clause-cancelled
unfolding computing
returns-clause-cancelled c = kept (may_say_done (always (listing_of (the_switch ∷ [])))) cancelled_order refl

pub returns-clause-restarted : goal.returns-clause-restarted
unfolding computing
returns-clause-restarted c = kept (may_say_done (always (listing_of (the_switch ∷ [])))) restarted_host refl

pub returns-clause-sleeping : goal.returns-clause-sleeping
unfolding computing
returns-clause-sleeping c = kept (may_say_done (always (listing_of (the_sensor ∷ [])))) sleeping_node refl

pub returns-clause-sealed : goal.returns-clause-sealed
unfolding computing
returns-clause-sealed c = kept (may_say_done (always (listing_of (the_lock ∷ [])))) sealed_exchange refl

pub returns-clause-cut : goal.returns-clause-cut
unfolding computing
returns-clause-cut c = kept (may_say_done (always (listing_of (the_plug ∷ [])))) long_message refl

pub returns-clause-unrouted : goal.returns-clause-unrouted
unfolding computing
returns-clause-unrouted c = kept (may_say_done (always (listing_of (the_switch ∷ [])))) unrouted_errand refl

pub returns-clause-not_idle : goal.returns-clause-not_idle
unfolding computing
returns-clause-not_idle c = kept (may_say_done (always (listing_of (the_switch ∷ [])))) not_idle_errand refl

pub returns-clause-refused : goal.returns-clause-refused
unfolding computing
returns-clause-refused c = kept (may_say_done (always (listing_of (the_switch ∷ [])))) refused_errand refl

pub returns-clause-failed : goal.returns-clause-failed
unfolding computing
returns-clause-failed c = kept (may_say_done (always (listing_of (the_switch ∷ [])))) failed_errand refl

pub returns-clause-lost : goal.returns-clause-lost
unfolding computing
returns-clause-lost c = kept (may_say_done (always (listing_of (the_switch ∷ [])))) said_after_lost refl

pub returns-clause-overrun : goal.returns-clause-overrun
unfolding computing
returns-clause-overrun c = kept (may_say_done (always (listing_of (the_switch ∷ [])))) said_after_overrun refl

pub returns-clause-changed : goal.returns-clause-changed
unfolding computing
returns-clause-changed c = kept (may_say_done (always (listing_of (the_switch ∷ [])))) said_after_changed refl

pub returns-clause-others : goal.returns-clause-others
unfolding computing
returns-clause-others c = kept (may_say_done (always (listing_of (the_switch ∷ [])))) refused_after_others refl

pub returns-clause-after_response : goal.returns-clause-after_response
unfolding computing
returns-clause-after_response c = kept (may_say_done (always (listing_of (the_switch ∷ [])))) silent_after_response refl

pub returns-clause-before_response : goal.returns-clause-before_response
unfolding computing
returns-clause-before_response c = kept (may_say_done (always (listing_of (the_switch ∷ [])))) silent_before_response refl

pub returns-clause-last : goal.returns-clause-last
unfolding computing
returns-clause-last c = kept (may_say_done (always (listing_of (the_switch ∷ [])))) delivered_last refl

pub returns-clause-given_up : goal.returns-clause-given_up
unfolding computing
returns-clause-given_up c = kept (may_say_done (always (listing_of (the_switch ∷ [])))) given_up_errand refl

pub returns-clause-denied : goal.returns-clause-denied
unfolding computing
returns-clause-denied c = kept (may_say_done (always (listing_of (the_switch ∷ [])))) given_up_at_answer refl

pub returns-clause-acknowledged_last : goal.returns-clause-acknowledged_last
unfolding computing
returns-clause-acknowledged_last c = kept (may_say_done (always (listing_of (the_switch ∷ [])))) acknowledged_last refl

pub returns-clause-after_stray : goal.returns-clause-after_stray
unfolding computing
returns-clause-after_stray c = kept (may_say_done (always (listing_of (the_switch ∷ [])))) acknowledged_after_stray refl

pub returns-clause-after_unread : goal.returns-clause-after_unread
unfolding computing
returns-clause-after_unread c = kept (may_say_done (always (listing_of (the_switch ∷ [])))) delivered_after_unread refl

pub returns-clause-unanswered : goal.returns-clause-unanswered
unfolding computing
returns-clause-unanswered c = kept (may_say_done (always (listing_of (the_switch ∷ [])))) delivered_unanswered refl

pub returns-clause-before_denied : goal.returns-clause-before_denied
unfolding computing
returns-clause-before_denied c = kept (may_say_done (always (listing_of (the_switch ∷ [])))) delivered_before_denied refl

pub returns-clause-silent_before : goal.returns-clause-silent_before
unfolding computing
returns-clause-silent_before c = kept (may_say_done (always (listing_of (the_switch ∷ [])))) silent_before_given_up refl

pub returns-clause-in_time : goal.returns-clause-in_time
unfolding computing
returns-clause-in_time c = kept (may_say_done (always (listing_of (the_switch ∷ [])))) given_up_in_time refl

pub returns-clause-later : goal.returns-clause-later
unfolding computing
returns-clause-later c = kept (may_say_done (always (listing_of (the_switch ∷ [])))) silent_later refl

pub returns-clause-with_response : goal.returns-clause-with_response
unfolding computing
returns-clause-with_response c = kept (may_say_done (always (listing_of (the_switch ∷ [])))) denied_with_response refl

pub returns-clause-after_late : goal.returns-clause-after_late
unfolding computing
returns-clause-after_late c = kept (may_say_done (always (listing_of (the_switch ∷ [])))) silent_after_late refl

pub returns-clause-silent_beside_other : goal.returns-clause-silent_beside_other
unfolding computing
returns-clause-silent_beside_other c = kept (may_say_done (always (listing_of (the_switch ∷ [])))) silent_beside_other refl

pub returns-clause-delivered_after_refused : goal.returns-clause-delivered_after_refused
unfolding computing
returns-clause-delivered_after_refused c = kept (may_say_done (always (listing_of (the_switch ∷ [])))) delivered_after_refused refl

pub returns-clause-old_list : goal.returns-clause-old_list
unfolding computing
returns-clause-old_list c = kept (may_say_done (always (listing_of (the_dimmer ∷ [])))) said_by_old_list refl
