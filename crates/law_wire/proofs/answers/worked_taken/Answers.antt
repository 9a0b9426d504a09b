use Rattle.std.proofs.Common.{refl}
use Rattle.law_wire.proofs.Computing.{reckoning}
use Rattle.law_wire.proofs.answers.worked_taken.Goals as goal

pub returns-clause-stranger : goal.returns-clause-stranger
unfolding reckoning
returns-clause-stranger c = (refl, tt)

pub returns-clause-fits : goal.returns-clause-fits
unfolding reckoning
returns-clause-fits c = (refl, tt)

pub returns-clause-aborted : goal.returns-clause-aborted
unfolding reckoning
returns-clause-aborted c = (refl, (refl, (refl, tt)))

pub returns-clause-later : goal.returns-clause-later
unfolding reckoning
returns-clause-later c = (refl, (refl, (refl, tt)))
