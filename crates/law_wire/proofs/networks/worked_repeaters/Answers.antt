use Rattle.std.proofs.Common.{refl}
use Rattle.law_wire.proofs.Computing.{reckoning}
use Rattle.law_wire.proofs.networks.worked_repeaters.Goals as goal

pub returns-clause-first : goal.returns-clause-first
unfolding reckoning
returns-clause-first c = refl

pub returns-clause-joins : goal.returns-clause-joins
unfolding reckoning
returns-clause-joins c = refl

pub returns-clause-sensor : goal.returns-clause-sensor
unfolding reckoning
returns-clause-sensor c = refl

pub returns-clause-nobody : goal.returns-clause-nobody
unfolding reckoning
returns-clause-nobody c = refl

pub returns-clause-first_sensor : goal.returns-clause-first_sensor
unfolding reckoning
returns-clause-first_sensor c = refl
