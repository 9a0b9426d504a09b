use Rattle.std.proofs.Common.{refl}
use Rattle.law_wire.proofs.Computing.{reckoning}
use Rattle.law_wire.proofs.answers.worked_callbacks.Goals as goal

pub returns-clause-heard : goal.returns-clause-heard
unfolding reckoning
returns-clause-heard c = (refl, (refl, tt))

pub returns-clause-unacknowledged : goal.returns-clause-unacknowledged
unfolding reckoning
returns-clause-unacknowledged c = (refl, (refl, tt))

pub returns-clause-lost : goal.returns-clause-lost
unfolding reckoning
returns-clause-lost c = (refl, (refl, tt))

pub returns-clause-unheard : goal.returns-clause-unheard
unfolding reckoning
returns-clause-unheard c = (refl, (refl, tt))

pub returns-clause-aborted : goal.returns-clause-aborted
unfolding reckoning
returns-clause-aborted c = (refl, (refl, tt))

pub returns-clause-own : goal.returns-clause-own
unfolding reckoning
returns-clause-own c = (refl, (refl, (refl, (refl, tt))))

pub returns-clause-nowhere : goal.returns-clause-nowhere
unfolding reckoning
returns-clause-nowhere c = (refl, (refl, (refl, tt)))
