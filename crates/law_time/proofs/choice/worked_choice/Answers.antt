use Rattle.law_time.specs.Heeds.{heeds_of}
use Rattle.std.proofs.Common.{[], ◌∷◌, refl}
use Rattle.law_time.specs.Choice.{may_send}
use Rattle.law_time.specs.WorkedAttempts.{begun_kept}
use Rattle.law_time.specs.WorkedChoice.{again_after_get, again_after_set, again_after_wait, again_though_working, begun_after_abort, begun_after_restart, begun_after_unkept, begun_beside_unkept, first_after_restart, first_again, sealed_after_denial, sealed_beside_unkept, sealed_for_next, sealed_for_same, sealed_over_restart, segment_after_failed, segment_after_lost}
use Rattle.law_wire.specs.law_transcript.Worked.{the_lock, the_plug, the_switch}
use Rattle.law_time.proofs.Computing.{computing}
use Rattle.law_wire.proofs.Deciding.{kept}
use Rattle.law_time.proofs.choice.worked_choice.Goals as goal

pub returns-clause-again : goal.returns-clause-again
unfolding computing
returns-clause-again c = kept (may_send (heeds_of (the_switch ∷ []))) again_after_set refl

pub returns-clause-following_get : goal.returns-clause-following_get
unfolding computing
returns-clause-following_get c = kept (may_send (heeds_of (the_switch ∷ []))) again_after_get refl

pub returns-clause-following_wait : goal.returns-clause-following_wait
unfolding computing
returns-clause-following_wait c = kept (may_send (heeds_of (the_switch ∷ []))) again_after_wait refl

pub returns-clause-late : goal.returns-clause-late
unfolding computing
returns-clause-late c = kept (may_send (heeds_of (the_switch ∷ []))) again_though_working refl

pub returns-clause-segment : goal.returns-clause-segment
unfolding computing
returns-clause-segment c = kept (may_send (heeds_of (the_plug ∷ []))) segment_after_lost refl

pub returns-clause-segment_failed : goal.returns-clause-segment_failed
unfolding computing
returns-clause-segment_failed c = kept (may_send (heeds_of (the_plug ∷ []))) segment_after_failed refl

pub returns-clause-same_nonce : goal.returns-clause-same_nonce
unfolding computing
returns-clause-same_nonce c = kept (may_send (heeds_of (the_lock ∷ []))) sealed_for_same refl

pub returns-clause-next_nonce : goal.returns-clause-next_nonce
unfolding computing
returns-clause-next_nonce c = kept (may_send (heeds_of (the_lock ∷ []))) sealed_for_next refl

pub returns-clause-following_denial : goal.returns-clause-following_denial
unfolding computing
returns-clause-following_denial c = kept (may_send (heeds_of (the_lock ∷ []))) sealed_after_denial refl

pub returns-clause-over_restart : goal.returns-clause-over_restart
unfolding computing
returns-clause-over_restart c = kept (may_send (heeds_of (the_lock ∷ []))) sealed_over_restart refl

pub returns-clause-beside_unkept : goal.returns-clause-beside_unkept
unfolding computing
returns-clause-beside_unkept c = kept (may_send (heeds_of (the_lock ∷ []))) sealed_beside_unkept refl

pub returns-clause-in_turn : goal.returns-clause-in_turn
unfolding computing
returns-clause-in_turn c = kept (may_send (heeds_of (the_switch ∷ []))) first_again refl

pub returns-clause-restarted : goal.returns-clause-restarted
unfolding computing
returns-clause-restarted c = kept (may_send (heeds_of (the_switch ∷ []))) first_after_restart refl

pub returns-clause-beside_unbegun : goal.returns-clause-beside_unbegun
unfolding computing
returns-clause-beside_unbegun c = kept (may_send (heeds_of (the_switch ∷ []))) begun_beside_unkept refl

pub returns-clause-following_unkept : goal.returns-clause-following_unkept
unfolding computing
returns-clause-following_unkept c = kept (may_send (heeds_of (the_lock ∷ []))) begun_after_unkept refl

pub returns-clause-kept : goal.returns-clause-kept
unfolding computing
returns-clause-kept c = kept (may_send (heeds_of (the_switch ∷ []))) begun_kept refl

pub returns-clause-restart_unblocks : goal.returns-clause-restart_unblocks
unfolding computing
returns-clause-restart_unblocks c = kept (may_send (heeds_of (the_switch ∷ []))) begun_after_restart refl

pub returns-clause-following_abort : goal.returns-clause-following_abort
unfolding computing
returns-clause-following_abort c = kept (may_send (heeds_of (the_switch ∷ []))) begun_after_abort refl
