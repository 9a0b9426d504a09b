use Rattle.std.proofs.Common.{refl}
use Rattle.law_time.specs.Holds.{may_hold}
use Rattle.law_time.specs.Waking.{may_sleep, may_wake}
use Rattle.law_time.specs.WrongWaits.{asleep_untold, asleep_unwoken, awake_untold, given_up_awake, held_unasked, not_held, sleep_passed_over, waking_passed_over}
use Rattle.law_time.specs.WrongEntries.{asleep_though_listening, held_though_listening}
use Rattle.law_time.proofs.Computing.{computing}
use Rattle.law_wire.proofs.Deciding.{broken, not_true}
use Rattle.law_time.proofs.waking.rejected_waking.Goals as goal
use Rattle.law_time.specs.WrongEnds.{asleep_again, asleep_before_end, asleep_by_other, awake_after_link, awake_after_refusal, awake_as_it_asks, awake_in_next_line, awake_in_next_tick}
use Rattle.law_time.specs.WrongWaking.{awake_by_unread, held_by_other, held_by_unread, held_by_work, held_unanswered, not_held_by_both, not_held_failing, not_held_unsupported, awake_after_accepted, awake_after_change, awake_after_cleared, awake_after_forgotten, awake_after_frame, awake_after_full, awake_after_hearing, awake_after_line, awake_after_loss, awake_after_refused, awake_after_session, awake_after_tick, awake_after_unhearing, awake_after_unit, awake_after_note}

pub returns-clause-untold : goal.returns-clause-untold
unfolding computing
returns-clause-untold c = broken may_wake awake_untold refl

pub returns-clause-passed : goal.returns-clause-passed
unfolding computing
returns-clause-passed c = broken may_wake waking_passed_over refl

pub returns-clause-unwoken : goal.returns-clause-unwoken
unfolding computing
returns-clause-unwoken c = λ law. broken may_sleep asleep_unwoken refl law.between

pub returns-clause-sleeps_untold : goal.returns-clause-sleeps_untold
unfolding computing
returns-clause-sleeps_untold c = λ law. broken may_sleep asleep_untold refl law.between

pub returns-clause-sleep_passed : goal.returns-clause-sleep_passed
unfolding computing
returns-clause-sleep_passed c = λ law. broken may_sleep sleep_passed_over refl law.between

pub returns-clause-given_up : goal.returns-clause-given_up
unfolding computing
returns-clause-given_up c = λ law. broken may_sleep given_up_awake refl law.between

pub returns-clause-unasked : goal.returns-clause-unasked
unfolding computing
returns-clause-unasked c = broken may_hold held_unasked refl

pub returns-clause-not_held : goal.returns-clause-not_held
unfolding computing
returns-clause-not_held c = broken may_hold not_held refl

pub returns-clause-listening : goal.returns-clause-listening
unfolding computing
returns-clause-listening c = λ law. broken may_sleep asleep_though_listening refl law.between

pub returns-clause-held_listening : goal.returns-clause-held_listening
unfolding computing
returns-clause-held_listening c = broken may_hold held_though_listening refl

pub returns-clause-again : goal.returns-clause-again
unfolding computing
returns-clause-again c = λ law. broken may_sleep asleep_again refl law.between

pub returns-clause-before_end : goal.returns-clause-before_end
unfolding computing
returns-clause-before_end c = λ law. broken may_sleep asleep_before_end refl law.between

pub returns-clause-by_other : goal.returns-clause-by_other
unfolding computing
returns-clause-by_other c = λ law. broken may_sleep asleep_by_other refl law.between

pub returns-clause-unread : goal.returns-clause-unread
unfolding computing
returns-clause-unread c = broken may_wake awake_by_unread refl

pub returns-clause-failing : goal.returns-clause-failing
unfolding computing
returns-clause-failing c = broken may_hold not_held_failing refl

pub returns-clause-unsupported : goal.returns-clause-unsupported
unfolding computing
returns-clause-unsupported c = broken may_hold not_held_unsupported refl

pub returns-clause-by_other_session : goal.returns-clause-by_other_session
unfolding computing
returns-clause-by_other_session c = broken may_hold held_by_other refl

pub returns-clause-unanswered : goal.returns-clause-unanswered
unfolding computing
returns-clause-unanswered c = broken may_hold held_unanswered refl

pub returns-clause-following_line : goal.returns-clause-following_line
unfolding computing
returns-clause-following_line c = broken may_wake awake_after_line refl

pub returns-clause-after_accepted : goal.returns-clause-after_accepted
unfolding computing
returns-clause-after_accepted c = broken may_wake awake_after_accepted refl

pub returns-clause-after_refused : goal.returns-clause-after_refused
unfolding computing
returns-clause-after_refused c = broken may_wake awake_after_refused refl

pub returns-clause-following_tick : goal.returns-clause-following_tick
unfolding computing
returns-clause-following_tick c = broken may_wake awake_after_tick refl

pub returns-clause-after_frame : goal.returns-clause-after_frame
unfolding computing
returns-clause-after_frame c = broken may_wake awake_after_frame refl

pub returns-clause-after_hearing : goal.returns-clause-after_hearing
unfolding computing
returns-clause-after_hearing c = broken may_wake awake_after_hearing refl

pub returns-clause-after_loss : goal.returns-clause-after_loss
unfolding computing
returns-clause-after_loss c = broken may_wake awake_after_loss refl

pub returns-clause-after_unhearing : goal.returns-clause-after_unhearing
unfolding computing
returns-clause-after_unhearing c = broken may_wake awake_after_unhearing refl

pub returns-clause-following_change : goal.returns-clause-following_change
unfolding computing
returns-clause-following_change c = broken may_wake awake_after_change refl

pub returns-clause-after_unit : goal.returns-clause-after_unit
unfolding computing
returns-clause-after_unit c = broken may_wake awake_after_unit refl

pub returns-clause-after_forgotten : goal.returns-clause-after_forgotten
unfolding computing
returns-clause-after_forgotten c = broken may_wake awake_after_forgotten refl

pub returns-clause-after_full : goal.returns-clause-after_full
unfolding computing
returns-clause-after_full c = broken may_wake awake_after_full refl

pub returns-clause-after_cleared : goal.returns-clause-after_cleared
unfolding computing
returns-clause-after_cleared c = broken may_wake awake_after_cleared refl

pub returns-clause-after_session : goal.returns-clause-after_session
unfolding computing
returns-clause-after_session c = broken may_wake awake_after_session refl

pub returns-clause-after_note : goal.returns-clause-after_note
unfolding computing
returns-clause-after_note c = broken may_wake awake_after_note refl

pub returns-clause-next_tick : goal.returns-clause-next_tick
unfolding computing
returns-clause-next_tick c = λ law. broken may_sleep awake_in_next_tick refl law.between

pub returns-clause-next_line : goal.returns-clause-next_line
unfolding computing
returns-clause-next_line c = λ law. broken may_sleep awake_in_next_line refl law.between

pub returns-clause-as_it_asks : goal.returns-clause-as_it_asks
unfolding computing
returns-clause-as_it_asks c = λ law. broken may_sleep awake_as_it_asks refl law.between

pub returns-clause-after_link : goal.returns-clause-after_link
unfolding computing
returns-clause-after_link c = λ law. broken may_sleep awake_after_link refl law.between

pub returns-clause-after_refusal : goal.returns-clause-after_refusal
unfolding computing
returns-clause-after_refusal c = λ law. broken may_sleep awake_after_refusal refl law.between

pub returns-clause-in_the_end : goal.returns-clause-in_the_end
unfolding computing
returns-clause-in_the_end c = λ law. not_true (law.in_the_end refl)

pub returns-clause-by_both : goal.returns-clause-by_both
unfolding computing
returns-clause-by_both c = broken may_hold not_held_by_both refl

pub returns-clause-by_work : goal.returns-clause-by_work
unfolding computing
returns-clause-by_work c = broken may_hold held_by_work refl

pub returns-clause-by_unread : goal.returns-clause-by_unread
unfolding computing
returns-clause-by_unread c = broken may_hold held_by_unread refl
