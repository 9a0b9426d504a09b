use Rattle.std.proofs.Common.{refl}
use Rattle.law_wire.proofs.Computing.{reckoning}
use Rattle.law_wire.proofs.answers.worked_capabilities.Goals as goal

pub returns-clause-controller : goal.returns-clause-controller
unfolding reckoning
returns-clause-controller c = refl

pub returns-clause-switch : goal.returns-clause-switch
unfolding reckoning
returns-clause-switch c = refl

pub returns-clause-stranger : goal.returns-clause-stranger
unfolding reckoning
returns-clause-stranger c = refl

pub returns-clause-sensor : goal.returns-clause-sensor
unfolding reckoning
returns-clause-sensor c = refl
