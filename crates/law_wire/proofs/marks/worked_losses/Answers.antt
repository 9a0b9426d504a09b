use Rattle.std.proofs.Common.{refl}
use Rattle.law_wire.proofs.Computing.{reckoning}
use Rattle.law_wire.proofs.marks.worked_losses.Goals as goal

pub returns-clause-other_drop : goal.returns-clause-other_drop
unfolding reckoning
returns-clause-other_drop c = tt

pub returns-clause-two : goal.returns-clause-two
unfolding reckoning
returns-clause-two c = refl

pub returns-clause-drop_stays : goal.returns-clause-drop_stays
unfolding reckoning
returns-clause-drop_stays c = refl

pub returns-clause-change_stays : goal.returns-clause-change_stays
unfolding reckoning
returns-clause-change_stays c = refl

pub returns-clause-drop_first : goal.returns-clause-drop_first
unfolding reckoning
returns-clause-drop_first c = refl

pub returns-clause-change_next : goal.returns-clause-change_next
unfolding reckoning
returns-clause-change_next c = refl

pub returns-clause-answer_kept : goal.returns-clause-answer_kept
unfolding reckoning
returns-clause-answer_kept c = tt

pub returns-clause-answer_lost : goal.returns-clause-answer_lost
unfolding reckoning
returns-clause-answer_lost c = refl

pub returns-clause-sum : goal.returns-clause-sum
unfolding reckoning
returns-clause-sum c = refl
