use Rattle.std.proofs.Common.{refl}
use Rattle.law_wire.proofs.Computing.{reckoning}
use Rattle.law_wire.proofs.fates.worked_fates.Goals as goal

pub returns-clause-cut : goal.returns-clause-cut
unfolding reckoning
returns-clause-cut c = refl

pub returns-clause-home_before : goal.returns-clause-home_before
unfolding reckoning
returns-clause-home_before c = refl

pub returns-clause-home_after : goal.returns-clause-home_after
unfolding reckoning
returns-clause-home_after c = refl

pub returns-clause-nobody : goal.returns-clause-nobody
unfolding reckoning
returns-clause-nobody c = refl

pub returns-clause-unmarked : goal.returns-clause-unmarked
unfolding reckoning
returns-clause-unmarked c = refl

pub returns-clause-woken : goal.returns-clause-woken
unfolding reckoning
returns-clause-woken c = refl

pub returns-clause-asleep : goal.returns-clause-asleep
unfolding reckoning
returns-clause-asleep c = refl

pub returns-clause-rested : goal.returns-clause-rested
unfolding reckoning
returns-clause-rested c = refl

pub returns-clause-tired : goal.returns-clause-tired
unfolding reckoning
returns-clause-tired c = refl

pub returns-clause-first : goal.returns-clause-first
unfolding reckoning
returns-clause-first c = refl
