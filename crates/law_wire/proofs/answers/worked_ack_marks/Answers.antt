use Rattle.std.proofs.Common.{refl}
use Rattle.law_wire.proofs.Computing.{reckoning}
use Rattle.law_wire.proofs.answers.worked_ack_marks.Goals as goal

pub returns-clause-asked : goal.returns-clause-asked
unfolding reckoning
returns-clause-asked c = refl

pub returns-clause-used : goal.returns-clause-used
unfolding reckoning
returns-clause-used c = refl

pub returns-clause-lost : goal.returns-clause-lost
unfolding reckoning
returns-clause-lost c = refl

pub returns-clause-home : goal.returns-clause-home
unfolding reckoning
returns-clause-home c = refl

pub returns-clause-repeated : goal.returns-clause-repeated
unfolding reckoning
returns-clause-repeated c = refl
