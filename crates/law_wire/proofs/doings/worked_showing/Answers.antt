use Rattle.std.proofs.Common.{refl}
use Rattle.law_wire.proofs.Computing.{reckoning}
use Rattle.law_wire.proofs.doings.worked_showing.Goals as goal

pub returns-clause-plain : goal.returns-clause-plain
unfolding reckoning
returns-clause-plain c = (tt, (tt, (tt, (tt, (tt, (tt, (tt, (tt, (tt, (tt, (tt, (tt, (tt, (tt, (tt, (tt, (tt, (tt, (tt, (tt, (tt, (tt, tt))))))))))))))))))))))

pub returns-clause-twice : goal.returns-clause-twice
unfolding reckoning
returns-clause-twice c = (tt, (refl, (tt, (tt, (tt, (tt, (refl, (tt, tt))))))))
