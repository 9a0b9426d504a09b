use Rattle.std.proofs.Common.{refl, arith}
use Rattle.law_wire.proofs.Computing.{reckoning}
use Rattle.law_wire.proofs.Differing.{unlike}
use Rattle.law_wire.proofs.marks.rejected_answers_by.Goals as goal

pub returns-clause-twice : goal.returns-clause-twice
unfolding reckoning
returns-clause-twice c = λ law. omega (arith, law)

pub returns-clause-second : goal.returns-clause-second
unfolding reckoning
returns-clause-second c = λ law. unlike _ _ law refl
