use Rattle.std.proofs.Common.{refl}
use Rattle.law_wire.proofs.Computing.{reckoning}
use Rattle.law_wire.proofs.answers.worked_responses.Goals as goal

pub returns-clause-nodes : goal.returns-clause-nodes
unfolding reckoning
returns-clause-nodes c = (refl, tt)

pub returns-clause-functions : goal.returns-clause-functions
unfolding reckoning
returns-clause-functions c = (refl, tt)

pub returns-clause-version : goal.returns-clause-version
unfolding reckoning
returns-clause-version c = (refl, tt)

pub returns-clause-home : goal.returns-clause-home
unfolding reckoning
returns-clause-home c = (refl, tt)

pub returns-clause-listens : goal.returns-clause-listens
unfolding reckoning
returns-clause-listens c = (refl, tt)

pub returns-clause-asks : goal.returns-clause-asks
unfolding reckoning
returns-clause-asks c = (refl, tt)

pub returns-clause-failed : goal.returns-clause-failed
unfolding reckoning
returns-clause-failed c = (refl, (refl, (refl, tt)))

pub returns-clause-neighbours : goal.returns-clause-neighbours
unfolding reckoning
returns-clause-neighbours c = (refl, tt)
