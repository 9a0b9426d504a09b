use Rattle.std.proofs.Common.{refl}
use Rattle.law_wire.proofs.Computing.{reckoning}
use Rattle.law_wire.proofs.taking.worked_course.Goals as goal

pub returns-clause-copied : goal.returns-clause-copied
unfolding reckoning
returns-clause-copied c = refl

pub returns-clause-collided : goal.returns-clause-collided
unfolding reckoning
returns-clause-collided c = refl
