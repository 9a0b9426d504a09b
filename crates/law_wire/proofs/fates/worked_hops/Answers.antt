use Rattle.std.proofs.Common.{refl}
use Rattle.law_wire.proofs.Computing.{reckoning}
use Rattle.law_wire.proofs.fates.worked_hops.Goals as goal

pub returns-clause-dead : goal.returns-clause-dead
unfolding reckoning
returns-clause-dead c = refl

pub returns-clause-first : goal.returns-clause-first
unfolding reckoning
returns-clause-first c = refl

pub returns-clause-learned : goal.returns-clause-learned
unfolding reckoning
returns-clause-learned c = tt

pub returns-clause-second : goal.returns-clause-second
unfolding reckoning
returns-clause-second c = tt

pub returns-clause-home : goal.returns-clause-home
unfolding reckoning
returns-clause-home c = tt
