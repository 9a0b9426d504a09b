use Rattle.law_time.specs.Heeds.{heeds_of}
use Rattle.std.proofs.Common.{[], ◌∷◌, refl}
use Rattle.law_time.specs.Rests.{may_rest}
use Rattle.law_time.specs.WrongBetween.{held_over_restart}
use Rattle.law_time.specs.WrongChoice.{left_due, left_sealed, left_segment}
use Rattle.law_time.specs.WorkedWaits.{the_keeper}
use Rattle.law_time.specs.WrongQueue.{left_unaborted, left_unreported, left_unresent}
use Rattle.law_time.specs.WrongWaits.{left_awake, left_in_stall, left_overdue, left_unasked, left_unbegun, left_unheard, left_unsent, left_waiting}
use Rattle.law_wire.specs.law_transcript.Worked.{the_lock, the_plug, the_sensor, the_switch}
use Rattle.law_time.proofs.Computing.{computing}
use Rattle.law_wire.proofs.Deciding.{broken, not_true}
use Rattle.law_time.proofs.waits.rejected_rests.Goals as goal
use Rattle.law_time.specs.WrongAttempts.{left_beside_unkept, left_over_restart, left_uninterviewed, left_unkept, left_a_tick, left_after_abort, left_after_line, left_given_up}

pub returns-clause-waiting : goal.returns-clause-waiting
unfolding computing
returns-clause-waiting c = λ law. broken (may_rest (heeds_of (the_switch ∷ []))) left_waiting refl law.between

pub returns-clause-unsent : goal.returns-clause-unsent
unfolding computing
returns-clause-unsent c = λ law. broken (may_rest (heeds_of (the_switch ∷ []))) left_unsent refl law.between

pub returns-clause-unbegun : goal.returns-clause-unbegun
unfolding computing
returns-clause-unbegun c = λ law. broken (may_rest (heeds_of (the_sensor ∷ []))) left_unbegun refl law.between

pub returns-clause-overdue : goal.returns-clause-overdue
unfolding computing
returns-clause-overdue c = λ law. broken (may_rest (heeds_of (the_switch ∷ []))) left_overdue refl law.between

pub returns-clause-awake : goal.returns-clause-awake
unfolding computing
returns-clause-awake c = λ law. broken (may_rest (heeds_of (the_sensor ∷ []))) left_awake refl law.between

pub returns-clause-unreported : goal.returns-clause-unreported
unfolding computing
returns-clause-unreported c = λ law. broken (may_rest (heeds_of (the_lock ∷ []))) left_unreported refl law.between

pub returns-clause-unresent : goal.returns-clause-unresent
unfolding computing
returns-clause-unresent c = λ law. broken (may_rest (heeds_of (the_plug ∷ []))) left_unresent refl law.between

pub returns-clause-unaborted : goal.returns-clause-unaborted
unfolding computing
returns-clause-unaborted c = λ law. broken (may_rest (heeds_of (the_switch ∷ []))) left_unaborted refl law.between

pub returns-clause-unsaid : goal.returns-clause-unsaid
unfolding computing
returns-clause-unsaid c = λ law. not_true (law.in_the_end refl)

pub returns-clause-unended : goal.returns-clause-unended
unfolding computing
returns-clause-unended c = λ law. not_true (law.in_the_end refl)

pub returns-clause-unkept : goal.returns-clause-unkept
unfolding computing
returns-clause-unkept c = λ law. broken (may_rest (heeds_of (the_switch ∷ []))) left_unkept refl law.between

pub returns-clause-beside_unkept : goal.returns-clause-beside_unkept
unfolding computing
returns-clause-beside_unkept c = λ law. broken (may_rest (heeds_of (the_switch ∷ []))) left_beside_unkept refl law.between

pub returns-clause-over_restart : goal.returns-clause-over_restart
unfolding computing
returns-clause-over_restart c = λ law. broken (may_rest (heeds_of (the_switch ∷ []))) left_over_restart refl law.between

pub returns-clause-uninterviewed : goal.returns-clause-uninterviewed
unfolding computing
returns-clause-uninterviewed c = λ law. broken (may_rest (heeds_of (the_switch ∷ []))) left_uninterviewed refl law.between

pub returns-clause-after_abort : goal.returns-clause-after_abort
unfolding computing
returns-clause-after_abort c = λ law. broken (may_rest (heeds_of (the_switch ∷ []))) left_after_abort refl law.between

pub returns-clause-following_line : goal.returns-clause-following_line
unfolding computing
returns-clause-following_line c = λ law. broken (may_rest (heeds_of (the_switch ∷ []))) left_after_line refl law.between

pub returns-clause-a_tick : goal.returns-clause-a_tick
unfolding computing
returns-clause-a_tick c = λ law. broken (may_rest (heeds_of (the_switch ∷ []))) left_a_tick refl law.between

pub returns-clause-given_up : goal.returns-clause-given_up
unfolding computing
returns-clause-given_up c = λ law. broken (may_rest (heeds_of (the_switch ∷ []))) left_given_up refl law.between

pub returns-clause-held : goal.returns-clause-held
unfolding computing
returns-clause-held c = λ law. broken (may_rest (heeds_of (the_keeper ∷ []))) held_over_restart refl law.between

pub returns-clause-segment : goal.returns-clause-segment
unfolding computing
returns-clause-segment c = λ law. broken (may_rest (heeds_of (the_plug ∷ []))) left_segment refl law.between

pub returns-clause-nonce : goal.returns-clause-nonce
unfolding computing
returns-clause-nonce c = λ law. broken (may_rest (heeds_of (the_lock ∷ []))) left_sealed refl law.between

pub returns-clause-due : goal.returns-clause-due
unfolding computing
returns-clause-due c = λ law. broken (may_rest (heeds_of (the_plug ∷ []))) left_due refl law.between

pub returns-clause-stalled : goal.returns-clause-stalled
unfolding computing
returns-clause-stalled c = λ law. broken (may_rest (heeds_of (the_switch ∷ []))) left_in_stall refl law.between

pub returns-clause-unheard : goal.returns-clause-unheard
unfolding computing
returns-clause-unheard c = λ law. broken (may_rest (heeds_of (the_switch ∷ []))) left_unheard refl law.between

pub returns-clause-unasked : goal.returns-clause-unasked
unfolding computing
returns-clause-unasked c = λ law. broken (may_rest (heeds_of (the_switch ∷ []))) left_unasked refl law.between
