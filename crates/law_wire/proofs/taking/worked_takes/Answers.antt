use Rattle.std.proofs.Common.{refl}
use Rattle.law_wire.proofs.Computing.{reckoning}
use Rattle.law_wire.proofs.taking.worked_takes.Goals as goal

pub returns-clause-idle : goal.returns-clause-idle
unfolding reckoning
returns-clause-idle c = refl

pub returns-clause-busy : goal.returns-clause-busy
unfolding reckoning
returns-clause-busy c = refl

pub returns-clause-stranger : goal.returns-clause-stranger
unfolding reckoning
returns-clause-stranger c = refl

pub returns-clause-joined : goal.returns-clause-joined
unfolding reckoning
returns-clause-joined c = refl

pub returns-clause-fits : goal.returns-clause-fits
unfolding reckoning
returns-clause-fits c = refl

pub returns-clause-long : goal.returns-clause-long
unfolding reckoning
returns-clause-long c = refl
