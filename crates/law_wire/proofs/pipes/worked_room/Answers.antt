use Rattle.std.proofs.Common.{refl}
use Rattle.law_wire.proofs.Computing.{reckoning}
use Rattle.law_wire.proofs.pipes.worked_room.Goals as goal

pub returns-clause-overrun : goal.returns-clause-overrun
unfolding reckoning
returns-clause-overrun c = refl

pub returns-clause-fits : goal.returns-clause-fits
unfolding reckoning
returns-clause-fits c = refl

pub returns-clause-answers : goal.returns-clause-answers
unfolding reckoning
returns-clause-answers c = refl
