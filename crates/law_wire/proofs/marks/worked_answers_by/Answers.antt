use Rattle.std.proofs.Common.{refl, arith}
use Rattle.law_wire.proofs.Computing.{reckoning}
use Rattle.law_wire.proofs.marks.worked_answers_by.Goals as goal

pub returns-clause-two : goal.returns-clause-two
unfolding reckoning
returns-clause-two c = omega arith

pub returns-clause-used : goal.returns-clause-used
unfolding reckoning
returns-clause-used c = refl

pub returns-clause-nak : goal.returns-clause-nak
unfolding reckoning
returns-clause-nak c = tt

pub returns-clause-frame : goal.returns-clause-frame
unfolding reckoning
returns-clause-frame c = tt

pub returns-clause-host : goal.returns-clause-host
unfolding reckoning
returns-clause-host c = tt
