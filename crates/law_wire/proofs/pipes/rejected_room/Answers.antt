use Rattle.std.proofs.Common.{refl}
use Rattle.law_wire.proofs.Computing.{reckoning}
use Rattle.law_wire.proofs.pipes.rejected_room.Goals as goal

pub returns-clause-side : goal.returns-clause-side
unfolding reckoning
returns-clause-side c = refl

pub returns-clause-answers : goal.returns-clause-answers
unfolding reckoning
returns-clause-answers c = refl
