use Rattle.std.proofs.Common.{refl}
use Rattle.law_wire.proofs.Computing.{reckoning}
use Rattle.law_wire.proofs.pipes.worked_bytes.Goals as goal

pub returns-clause-frame : goal.returns-clause-frame
unfolding reckoning
returns-clause-frame c = refl

pub returns-clause-lost : goal.returns-clause-lost
unfolding reckoning
returns-clause-lost c = refl

pub returns-clause-overrun : goal.returns-clause-overrun
unfolding reckoning
returns-clause-overrun c = refl

pub returns-clause-changed : goal.returns-clause-changed
unfolding reckoning
returns-clause-changed c = refl

pub returns-clause-changed_overrun : goal.returns-clause-changed_overrun
unfolding reckoning
returns-clause-changed_overrun c = refl

pub returns-clause-other_lost : goal.returns-clause-other_lost
unfolding reckoning
returns-clause-other_lost c = refl

pub returns-clause-other_overrun : goal.returns-clause-other_overrun
unfolding reckoning
returns-clause-other_overrun c = refl

pub returns-clause-answered : goal.returns-clause-answered
unfolding reckoning
returns-clause-answered c = refl

pub returns-clause-oldest : goal.returns-clause-oldest
unfolding reckoning
returns-clause-oldest c = refl

pub returns-clause-not_answered : goal.returns-clause-not_answered
unfolding reckoning
returns-clause-not_answered c = refl

pub returns-clause-answer : goal.returns-clause-answer
unfolding reckoning
returns-clause-answer c = refl

pub returns-clause-gone_on : goal.returns-clause-gone_on
unfolding reckoning
returns-clause-gone_on c = refl

pub returns-clause-turn : goal.returns-clause-turn
unfolding reckoning
returns-clause-turn c = refl

pub returns-clause-older : goal.returns-clause-older
unfolding reckoning
returns-clause-older c = refl

pub returns-clause-older_tick : goal.returns-clause-older_tick
unfolding reckoning
returns-clause-older_tick c = refl

pub returns-clause-older_still : goal.returns-clause-older_still
unfolding reckoning
returns-clause-older_still c = refl

pub returns-clause-older_gone : goal.returns-clause-older_gone
unfolding reckoning
returns-clause-older_gone c = refl

pub returns-clause-frame_stays : goal.returns-clause-frame_stays
unfolding reckoning
returns-clause-frame_stays c = refl

pub returns-clause-chip_answer : goal.returns-clause-chip_answer
unfolding reckoning
returns-clause-chip_answer c = refl

pub returns-clause-chip_turn : goal.returns-clause-chip_turn
unfolding reckoning
returns-clause-chip_turn c = refl

pub returns-clause-restarted : goal.returns-clause-restarted
unfolding reckoning
returns-clause-restarted c = refl

pub returns-clause-not_restarted : goal.returns-clause-not_restarted
unfolding reckoning
returns-clause-not_restarted c = refl

pub returns-clause-older_gone_too : goal.returns-clause-older_gone_too
unfolding reckoning
returns-clause-older_gone_too c = refl

pub returns-clause-older_twice : goal.returns-clause-older_twice
unfolding reckoning
returns-clause-older_twice c = refl
