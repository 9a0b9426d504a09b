use Rattle.law_time.specs.Heeds.{heeds_of}
use Rattle.std.proofs.Common.{[], ◌∷◌, refl}
use Rattle.law_time.specs.Choice.{may_send}
use Rattle.law_time.specs.WorkedChoice.{the_near_lock}
use Rattle.law_time.specs.WrongChoice.{begun_asleep, begun_before_abort, begun_before_request, begun_out_of_order, begun_unkept, begun_while_open, first_sent_twice, first_served_twice, nonce_asked_plainly, sealed_after_late, sealed_after_plain, sealed_again, sealed_for_none, sealed_for_other, sealed_for_skipped, sealed_for_uncounted, sealed_for_unkept, sealed_for_unkept_lost, sealed_though_denied, sealed_twice, sealed_when_over, second_after_restart, second_sent_first, second_sent_twice, second_served_first, second_served_twice, sent_after_get, sent_after_third, sent_before_wait, sent_beyond, sent_for_nonce, sent_fourth, sent_though_working, sent_unsealed, sent_while_under_way, set_repeated}
use Rattle.law_wire.specs.law_transcript.Worked.{the_lock, the_plug, the_switch}
use Rattle.law_time.proofs.Computing.{computing}
use Rattle.law_wire.proofs.Deciding.{broken}
use Rattle.law_time.proofs.choice.rejected_choice.Goals as goal

pub returns-clause-set : goal.returns-clause-set
unfolding computing
returns-clause-set c = broken (may_send (heeds_of (the_switch ∷ []))) set_repeated refl

pub returns-clause-nonce_get : goal.returns-clause-nonce_get
unfolding computing
returns-clause-nonce_get c = broken (may_send (heeds_of (the_switch ∷ []))) nonce_asked_plainly refl

pub returns-clause-unsealed : goal.returns-clause-unsealed
unfolding computing
returns-clause-unsealed c = broken (may_send (heeds_of (the_lock ∷ []))) sent_unsealed refl

pub returns-clause-under_way : goal.returns-clause-under_way
unfolding computing
returns-clause-under_way c = broken (may_send (heeds_of (the_switch ∷ []))) sent_while_under_way refl

pub returns-clause-too_early : goal.returns-clause-too_early
unfolding computing
returns-clause-too_early c = broken (may_send (heeds_of (the_switch ∷ []))) sent_before_wait refl

pub returns-clause-working : goal.returns-clause-working
unfolding computing
returns-clause-working c = broken (may_send (heeds_of (the_switch ∷ []))) sent_though_working refl

pub returns-clause-get_failed : goal.returns-clause-get_failed
unfolding computing
returns-clause-get_failed c = broken (may_send (heeds_of (the_switch ∷ []))) sent_after_get refl

pub returns-clause-fourth : goal.returns-clause-fourth
unfolding computing
returns-clause-fourth c = broken (may_send (heeds_of (the_switch ∷ []))) sent_fourth refl

pub returns-clause-second_first : goal.returns-clause-second_first
unfolding computing
returns-clause-second_first c = broken (may_send (heeds_of (the_plug ∷ []))) second_sent_first refl

pub returns-clause-first_twice : goal.returns-clause-first_twice
unfolding computing
returns-clause-first_twice c = broken (may_send (heeds_of (the_plug ∷ []))) first_sent_twice refl

pub returns-clause-second_twice : goal.returns-clause-second_twice
unfolding computing
returns-clause-second_twice c = broken (may_send (heeds_of (the_plug ∷ []))) second_sent_twice refl

pub returns-clause-beyond : goal.returns-clause-beyond
unfolding computing
returns-clause-beyond c = broken (may_send (heeds_of (the_plug ∷ []))) sent_beyond refl

pub returns-clause-third : goal.returns-clause-third
unfolding computing
returns-clause-third c = broken (may_send (heeds_of (the_plug ∷ []))) sent_after_third refl

pub returns-clause-for_nonce : goal.returns-clause-for_nonce
unfolding computing
returns-clause-for_nonce c = broken (may_send (heeds_of (the_lock ∷ []))) sent_for_nonce refl

pub returns-clause-none : goal.returns-clause-none
unfolding computing
returns-clause-none c = broken (may_send (heeds_of (the_lock ∷ []))) sealed_for_none refl

pub returns-clause-other : goal.returns-clause-other
unfolding computing
returns-clause-other c = broken (may_send (heeds_of (the_lock ∷ []))) sealed_for_other refl

pub returns-clause-unkept : goal.returns-clause-unkept
unfolding computing
returns-clause-unkept c = broken (may_send (heeds_of (the_lock ∷ []))) sealed_for_unkept refl

pub returns-clause-unkept_lost : goal.returns-clause-unkept_lost
unfolding computing
returns-clause-unkept_lost c = broken (may_send (heeds_of (the_lock ∷ []))) sealed_for_unkept_lost refl

pub returns-clause-twice : goal.returns-clause-twice
unfolding computing
returns-clause-twice c = broken (may_send (heeds_of (the_lock ∷ []))) sealed_twice refl

pub returns-clause-over : goal.returns-clause-over
unfolding computing
returns-clause-over c = broken (may_send (heeds_of (the_lock ∷ []))) sealed_when_over refl

pub returns-clause-skipped : goal.returns-clause-skipped
unfolding computing
returns-clause-skipped c = broken (may_send (heeds_of (the_lock ∷ []))) sealed_for_skipped refl

pub returns-clause-uncounted : goal.returns-clause-uncounted
unfolding computing
returns-clause-uncounted c = broken (may_send (heeds_of (the_lock ∷ []))) sealed_for_uncounted refl

pub returns-clause-second_nonce : goal.returns-clause-second_nonce
unfolding computing
returns-clause-second_nonce c = broken (may_send (heeds_of (the_lock ∷ []))) sealed_again refl

pub returns-clause-denied_nonce : goal.returns-clause-denied_nonce
unfolding computing
returns-clause-denied_nonce c = broken (may_send (heeds_of (the_lock ∷ []))) sealed_though_denied refl

pub returns-clause-late_nonce : goal.returns-clause-late_nonce
unfolding computing
returns-clause-late_nonce c = broken (may_send (heeds_of (the_lock ∷ []))) sealed_after_late refl

pub returns-clause-plain_nonce : goal.returns-clause-plain_nonce
unfolding computing
returns-clause-plain_nonce c = broken (may_send (heeds_of (the_near_lock ∷ []))) sealed_after_plain refl

pub returns-clause-lower_twice : goal.returns-clause-lower_twice
unfolding computing
returns-clause-lower_twice c = broken (may_send (heeds_of (the_switch ∷ []))) first_served_twice refl

pub returns-clause-greater_twice : goal.returns-clause-greater_twice
unfolding computing
returns-clause-greater_twice c = broken (may_send (heeds_of (the_switch ∷ []))) second_served_twice refl

pub returns-clause-greater_first : goal.returns-clause-greater_first
unfolding computing
returns-clause-greater_first c = broken (may_send (heeds_of (the_switch ∷ []))) second_served_first refl

pub returns-clause-greater_after_restart : goal.returns-clause-greater_after_restart
unfolding computing
returns-clause-greater_after_restart c = broken (may_send (heeds_of (the_switch ∷ []))) second_after_restart refl

pub returns-clause-order : goal.returns-clause-order
unfolding computing
returns-clause-order c = broken (may_send (heeds_of (the_switch ∷ []))) begun_out_of_order refl

pub returns-clause-request : goal.returns-clause-request
unfolding computing
returns-clause-request c = broken (may_send (heeds_of (the_switch ∷ []))) begun_before_request refl

pub returns-clause-asleep : goal.returns-clause-asleep
unfolding computing
returns-clause-asleep c = broken (may_send (heeds_of (the_switch ∷ []))) begun_asleep refl

pub returns-clause-while_open : goal.returns-clause-while_open
unfolding computing
returns-clause-while_open c = broken (may_send (heeds_of (the_switch ∷ []))) begun_while_open refl

pub returns-clause-before_abort : goal.returns-clause-before_abort
unfolding computing
returns-clause-before_abort c = broken (may_send (heeds_of (the_switch ∷ []))) begun_before_abort refl

pub returns-clause-not_kept : goal.returns-clause-not_kept
unfolding computing
returns-clause-not_kept c = broken (may_send (heeds_of (the_switch ∷ []))) begun_unkept refl
