use Rattle.std.proofs.Common.{[], ◌∷◌, refl}
use Rattle.law_time.specs.Errands.{may_say_done}
use Rattle.law_time.specs.WrongRequests.{left_unsaid, said_early, said_given_up, said_otherwise, said_refused, said_unasked, silent_early, silent_too_soon}
use Rattle.law_wire.specs.law_transcript.Nodes.{listing_of, always}
use Rattle.law_wire.specs.law_transcript.Worked.{the_switch}
use Rattle.law_time.specs.WrongEntries.{said_of_another, said_not_idle, refused_as_not_idle, said_unrouted}
use Rattle.law_wire.specs.law_transcript.WorkedCases.{the_dimmer}
use Rattle.law_time.proofs.Computing.{computing}
use Rattle.law_wire.proofs.Deciding.{broken}
use Rattle.law_time.proofs.requests.rejected_errands.Goals as goal
use Rattle.law_time.specs.WrongEnds.{acknowledged_late, delivered_after_silence, delivered_after_denied, delivered_given_up, given_up_though_delivered, given_up_though_silent, refused_by_later, said_after_unit, said_by_new_list, said_failed, said_of_other, said_to_another, said_twice, silent_given_up, silent_over_restart, silent_though_delivered, unsaid, unsaid_refused, unsaid_after_changed, unsaid_after_lost, unsaid_after_overrun}
use Rattle.law_time.specs.WorkedUnits.{failed, not_acknowledged, not_idle, without_route}

pub returns-clause-early : goal.returns-clause-early
unfolding computing
returns-clause-early c = broken (may_say_done (always (listing_of (the_switch ∷ [])))) said_early refl

pub returns-clause-otherwise : goal.returns-clause-otherwise
unfolding computing
returns-clause-otherwise c = broken (may_say_done (always (listing_of (the_switch ∷ [])))) said_otherwise refl

pub returns-clause-unsaid : goal.returns-clause-unsaid
unfolding computing
returns-clause-unsaid c = broken (may_say_done (always (listing_of (the_switch ∷ [])))) left_unsaid refl

pub returns-clause-unasked : goal.returns-clause-unasked
unfolding computing
returns-clause-unasked c = broken (may_say_done (always (listing_of (the_switch ∷ [])))) said_unasked refl

pub returns-clause-silent : goal.returns-clause-silent
unfolding computing
returns-clause-silent c = broken (may_say_done (always (listing_of (the_switch ∷ [])))) silent_early refl

pub returns-clause-refused : goal.returns-clause-refused
unfolding computing
returns-clause-refused c = broken (may_say_done (always (listing_of (the_switch ∷ [])))) said_refused refl

pub returns-clause-given_up : goal.returns-clause-given_up
unfolding computing
returns-clause-given_up c = broken (may_say_done (always (listing_of (the_switch ∷ [])))) said_given_up refl

pub returns-clause-too_soon : goal.returns-clause-too_soon
unfolding computing
returns-clause-too_soon c = broken (may_say_done (always (listing_of (the_switch ∷ [])))) silent_too_soon refl

pub returns-clause-said_of_another : goal.returns-clause-said_of_another
unfolding computing
returns-clause-said_of_another c = broken (may_say_done (always (listing_of (the_switch ∷ [])))) said_of_another refl

pub returns-clause-said_not_idle : goal.returns-clause-said_not_idle
unfolding computing
returns-clause-said_not_idle c = broken (may_say_done (always (listing_of (the_switch ∷ [])))) said_not_idle refl

pub returns-clause-refused_as_not_idle : goal.returns-clause-refused_as_not_idle
unfolding computing
returns-clause-refused_as_not_idle c = broken (may_say_done (always (listing_of (the_switch ∷ [])))) refused_as_not_idle refl

pub returns-clause-said_unrouted : goal.returns-clause-said_unrouted
unfolding computing
returns-clause-said_unrouted c = broken (may_say_done (always (listing_of (the_switch ∷ [])))) said_unrouted refl

pub returns-clause-said_failed : goal.returns-clause-said_failed
unfolding computing
returns-clause-said_failed c = broken (may_say_done (always (listing_of (the_switch ∷ [])))) said_failed refl

pub returns-clause-unsaid_unacknowledged : goal.returns-clause-unsaid_unacknowledged
unfolding computing
returns-clause-unsaid_unacknowledged c = broken (may_say_done (always (listing_of (the_switch ∷ [])))) (unsaid not_acknowledged) refl

pub returns-clause-unsaid_failed : goal.returns-clause-unsaid_failed
unfolding computing
returns-clause-unsaid_failed c = broken (may_say_done (always (listing_of (the_switch ∷ [])))) (unsaid failed) refl

pub returns-clause-unsaid_not_idle : goal.returns-clause-unsaid_not_idle
unfolding computing
returns-clause-unsaid_not_idle c = broken (may_say_done (always (listing_of (the_switch ∷ [])))) (unsaid not_idle) refl

pub returns-clause-unsaid_unrouted : goal.returns-clause-unsaid_unrouted
unfolding computing
returns-clause-unsaid_unrouted c = broken (may_say_done (always (listing_of (the_switch ∷ [])))) (unsaid without_route) refl

pub returns-clause-unsaid_refused : goal.returns-clause-unsaid_refused
unfolding computing
returns-clause-unsaid_refused c = broken (may_say_done (always (listing_of (the_switch ∷ [])))) unsaid_refused refl

pub returns-clause-after_unit : goal.returns-clause-after_unit
unfolding computing
returns-clause-after_unit c = broken (may_say_done (always (listing_of (the_switch ∷ [])))) said_after_unit refl

pub returns-clause-twice : goal.returns-clause-twice
unfolding computing
returns-clause-twice c = broken (may_say_done (always (listing_of (the_switch ∷ [])))) said_twice refl

pub returns-clause-by_later : goal.returns-clause-by_later
unfolding computing
returns-clause-by_later c = broken (may_say_done (always (listing_of (the_switch ∷ [])))) refused_by_later refl

pub returns-clause-to_another : goal.returns-clause-to_another
unfolding computing
returns-clause-to_another c = broken (may_say_done (always (listing_of (the_switch ∷ [])))) said_to_another refl

pub returns-clause-of_other : goal.returns-clause-of_other
unfolding computing
returns-clause-of_other c = broken (may_say_done (always (listing_of (the_switch ∷ [])))) said_of_other refl

pub returns-clause-though_delivered : goal.returns-clause-though_delivered
unfolding computing
returns-clause-though_delivered c = broken (may_say_done (always (listing_of (the_switch ∷ [])))) silent_though_delivered refl

pub returns-clause-after_silence : goal.returns-clause-after_silence
unfolding computing
returns-clause-after_silence c = broken (may_say_done (always (listing_of (the_switch ∷ [])))) delivered_after_silence refl

pub returns-clause-delivered_given_up : goal.returns-clause-delivered_given_up
unfolding computing
returns-clause-delivered_given_up c = broken (may_say_done (always (listing_of (the_switch ∷ [])))) delivered_given_up refl

pub returns-clause-after_denied : goal.returns-clause-after_denied
unfolding computing
returns-clause-after_denied c = broken (may_say_done (always (listing_of (the_switch ∷ [])))) delivered_after_denied refl

pub returns-clause-acknowledged_late : goal.returns-clause-acknowledged_late
unfolding computing
returns-clause-acknowledged_late c = broken (may_say_done (always (listing_of (the_switch ∷ [])))) acknowledged_late refl

pub returns-clause-given_up_delivered : goal.returns-clause-given_up_delivered
unfolding computing
returns-clause-given_up_delivered c = broken (may_say_done (always (listing_of (the_switch ∷ [])))) given_up_though_delivered refl

pub returns-clause-given_up_silent : goal.returns-clause-given_up_silent
unfolding computing
returns-clause-given_up_silent c = broken (may_say_done (always (listing_of (the_switch ∷ [])))) given_up_though_silent refl

pub returns-clause-silent_given_up : goal.returns-clause-silent_given_up
unfolding computing
returns-clause-silent_given_up c = broken (may_say_done (always (listing_of (the_switch ∷ [])))) silent_given_up refl

pub returns-clause-over_restart : goal.returns-clause-over_restart
unfolding computing
returns-clause-over_restart c = broken (may_say_done (always (listing_of (the_switch ∷ [])))) silent_over_restart refl

pub returns-clause-unsaid_after_lost : goal.returns-clause-unsaid_after_lost
unfolding computing
returns-clause-unsaid_after_lost c = broken (may_say_done (always (listing_of (the_switch ∷ [])))) unsaid_after_lost refl

pub returns-clause-unsaid_after_overrun : goal.returns-clause-unsaid_after_overrun
unfolding computing
returns-clause-unsaid_after_overrun c = broken (may_say_done (always (listing_of (the_switch ∷ [])))) unsaid_after_overrun refl

pub returns-clause-unsaid_after_changed : goal.returns-clause-unsaid_after_changed
unfolding computing
returns-clause-unsaid_after_changed c = broken (may_say_done (always (listing_of (the_switch ∷ [])))) unsaid_after_changed refl

pub returns-clause-new_list : goal.returns-clause-new_list
unfolding computing
returns-clause-new_list c = broken (may_say_done (always (listing_of (the_dimmer ∷ [])))) said_by_new_list refl
