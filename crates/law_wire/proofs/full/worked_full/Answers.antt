use Rattle.std.proofs.Common.{refl, arith}
use Rattle.law_wire.proofs.Computing.{reckoning}
use Rattle.law_wire.proofs.Crowds.{many_wait, as_many_wait}
use Rattle.law_wire.proofs.Differing.{differ_at}
use Rattle.law_wire.proofs.full.worked_full.Goals as goal

pub returns-clause-full : goal.returns-clause-full
returns-clause-full c = omega (arith, many_wait)

pub returns-clause-late : goal.returns-clause-late
returns-clause-late c = λ law. omega (arith, many_wait, law)

pub returns-clause-early : goal.returns-clause-early
returns-clause-early c = λ law. omega (arith, as_many_wait, law)

pub returns-clause-room : goal.returns-clause-room
returns-clause-room c = omega (arith, as_many_wait)

pub returns-clause-next : goal.returns-clause-next
unfolding reckoning
returns-clause-next c = (refl, (refl, tt))

pub returns-clause-first_dropped : goal.returns-clause-first_dropped
unfolding reckoning
returns-clause-first_dropped c = λ law. differ_at 9 _ _ law.1.0 refl
