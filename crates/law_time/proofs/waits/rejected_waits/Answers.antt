use Rattle.law_time.specs.Heeds.{heeds_of}
use Rattle.std.proofs.Common.{[], ◌∷◌, refl}
use Rattle.law_time.specs.Unanswered.{may_give_up}
use Rattle.law_time.specs.WrongQueue.{given_up_before_failing, given_up_before_silence, given_up_by_resend, gone_on_after_failing, gone_on_after_silence, gone_on_after_waiting, gone_on_after_segments}
use Rattle.law_time.specs.WrongWaits.{given_up_after_two, given_up_before_time, given_up_inside, given_up_under_way, gone_on_after_three}
use Rattle.law_wire.specs.law_transcript.Worked.{the_plug, the_switch, the_lock}
use Rattle.law_time.specs.WrongEntries.{given_up_unbegun}
use Rattle.law_time.proofs.Computing.{computing}
use Rattle.law_wire.proofs.Deciding.{broken, not_true}
use Rattle.law_time.proofs.waits.rejected_waits.Goals as goal
use Rattle.law_time.specs.WrongAttempts.{given_up_at_work, given_up_by_get, given_up_counting_earlier, given_up_counting_get, given_up_counting_other, given_up_counting_sealed, given_up_delivered, given_up_early, given_up_over_restart, given_up_succeeded, given_up_twice, given_up_late, given_up_after_line, given_up_long_denied}

pub returns-clause-two : goal.returns-clause-two
unfolding computing
returns-clause-two c = λ law. broken (may_give_up (heeds_of (the_switch ∷ []))) given_up_after_two refl law.between

pub returns-clause-under_way : goal.returns-clause-under_way
unfolding computing
returns-clause-under_way c = λ law. broken (may_give_up (heeds_of (the_switch ∷ []))) given_up_under_way refl law.between

pub returns-clause-before : goal.returns-clause-before
unfolding computing
returns-clause-before c = λ law. broken (may_give_up (heeds_of (the_switch ∷ []))) given_up_before_time refl law.between

pub returns-clause-gone_on : goal.returns-clause-gone_on
unfolding computing
returns-clause-gone_on c = λ law. broken (may_give_up (heeds_of (the_switch ∷ []))) gone_on_after_three refl law.between

pub returns-clause-inside : goal.returns-clause-inside
unfolding computing
returns-clause-inside c = λ law. broken (may_give_up (heeds_of (the_plug ∷ []))) given_up_inside refl law.between

pub returns-clause-resent : goal.returns-clause-resent
unfolding computing
returns-clause-resent c = λ law. broken (may_give_up (heeds_of (the_plug ∷ []))) given_up_by_resend refl law.between

pub returns-clause-segments : goal.returns-clause-segments
unfolding computing
returns-clause-segments c = λ law. broken (may_give_up (heeds_of (the_plug ∷ []))) gone_on_after_segments refl law.between

pub returns-clause-failed : goal.returns-clause-failed
unfolding computing
returns-clause-failed c = λ law. broken (may_give_up (heeds_of (the_switch ∷ []))) gone_on_after_failing refl law.between

pub returns-clause-waited : goal.returns-clause-waited
unfolding computing
returns-clause-waited c = λ law. broken (may_give_up (heeds_of (the_switch ∷ []))) gone_on_after_waiting refl law.between

pub returns-clause-silent : goal.returns-clause-silent
unfolding computing
returns-clause-silent c = λ law. broken (may_give_up (heeds_of (the_switch ∷ []))) gone_on_after_silence refl law.between

pub returns-clause-before_failing : goal.returns-clause-before_failing
unfolding computing
returns-clause-before_failing c = λ law. broken (may_give_up (heeds_of (the_switch ∷ []))) given_up_before_failing refl law.between

pub returns-clause-before_silence : goal.returns-clause-before_silence
unfolding computing
returns-clause-before_silence c = λ law. broken (may_give_up (heeds_of (the_switch ∷ []))) given_up_before_silence refl law.between

pub returns-clause-unbegun : goal.returns-clause-unbegun
unfolding computing
returns-clause-unbegun c = λ law. broken (may_give_up (heeds_of (the_switch ∷ []))) given_up_unbegun refl law.between

pub returns-clause-delivered : goal.returns-clause-delivered
unfolding computing
returns-clause-delivered c = λ law. broken (may_give_up (heeds_of (the_switch ∷ []))) given_up_delivered refl law.between

pub returns-clause-early : goal.returns-clause-early
unfolding computing
returns-clause-early c = λ law. broken (may_give_up (heeds_of (the_switch ∷ []))) given_up_early refl law.between

pub returns-clause-at_work : goal.returns-clause-at_work
unfolding computing
returns-clause-at_work c = λ law. broken (may_give_up (heeds_of (the_switch ∷ []))) given_up_at_work refl law.between

pub returns-clause-in_time : goal.returns-clause-in_time
unfolding computing
returns-clause-in_time c = λ law. broken (may_give_up (heeds_of (the_switch ∷ []))) given_up_late refl law.between

pub returns-clause-by_get : goal.returns-clause-by_get
unfolding computing
returns-clause-by_get c = λ law. broken (may_give_up (heeds_of (the_switch ∷ []))) given_up_by_get refl law.between

pub returns-clause-counting_get : goal.returns-clause-counting_get
unfolding computing
returns-clause-counting_get c = λ law. broken (may_give_up (heeds_of (the_switch ∷ []))) given_up_counting_get refl law.between

pub returns-clause-counting_other : goal.returns-clause-counting_other
unfolding computing
returns-clause-counting_other c = λ law. broken (may_give_up (heeds_of (the_switch ∷ []))) given_up_counting_other refl law.between

pub returns-clause-counting_sealed : goal.returns-clause-counting_sealed
unfolding computing
returns-clause-counting_sealed c = λ law. broken (may_give_up (heeds_of (the_lock ∷ []))) given_up_counting_sealed refl law.between

pub returns-clause-counting_earlier : goal.returns-clause-counting_earlier
unfolding computing
returns-clause-counting_earlier c = λ law. broken (may_give_up (heeds_of (the_switch ∷ []))) given_up_counting_earlier refl law.between

pub returns-clause-over_restart : goal.returns-clause-over_restart
unfolding computing
returns-clause-over_restart c = λ law. broken (may_give_up (heeds_of (the_switch ∷ []))) given_up_over_restart refl law.between

pub returns-clause-succeeded : goal.returns-clause-succeeded
unfolding computing
returns-clause-succeeded c = λ law. broken (may_give_up (heeds_of (the_switch ∷ []))) given_up_succeeded refl law.between

pub returns-clause-twice : goal.returns-clause-twice
unfolding computing
returns-clause-twice c = λ law. broken (may_give_up (heeds_of (the_switch ∷ []))) given_up_twice refl law.between

pub returns-clause-in_the_end : goal.returns-clause-in_the_end
unfolding computing
returns-clause-in_the_end c = λ law. not_true (law.in_the_end refl)

pub returns-clause-following_line : goal.returns-clause-following_line
unfolding computing
returns-clause-following_line c = λ law. broken (may_give_up (heeds_of (the_switch ∷ []))) given_up_after_line refl law.between

pub returns-clause-long_denied : goal.returns-clause-long_denied
unfolding computing
returns-clause-long_denied c = λ law. broken (may_give_up (heeds_of (the_switch ∷ []))) given_up_long_denied refl law.between
