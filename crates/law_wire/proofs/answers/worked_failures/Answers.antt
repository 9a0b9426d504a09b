use Rattle.std.proofs.Common.{refl}
use Rattle.law_wire.proofs.Computing.{reckoning}
use Rattle.law_wire.proofs.answers.worked_failures.Goals as goal

pub returns-clause-none : goal.returns-clause-none
unfolding reckoning
returns-clause-none c = refl

pub returns-clause-unheard : goal.returns-clause-unheard
unfolding reckoning
returns-clause-unheard c = refl

pub returns-clause-nowhere : goal.returns-clause-nowhere
unfolding reckoning
returns-clause-nowhere c = refl

pub returns-clause-heard : goal.returns-clause-heard
unfolding reckoning
returns-clause-heard c = refl

pub returns-clause-aborted : goal.returns-clause-aborted
unfolding reckoning
returns-clause-aborted c = refl

pub returns-clause-other : goal.returns-clause-other
unfolding reckoning
returns-clause-other c = refl

pub returns-clause-last : goal.returns-clause-last
unfolding reckoning
returns-clause-last c = refl
