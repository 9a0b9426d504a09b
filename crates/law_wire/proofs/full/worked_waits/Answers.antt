use Rattle.std.proofs.Common.{arith}
use Rattle.law_wire.proofs.Crowds.{as_many_wait, one_dropped}
use Rattle.law_wire.proofs.Computing.{reckoning}
use Rattle.law_wire.proofs.full.worked_waits.Goals as goal

pub returns-clause-line : goal.returns-clause-line
returns-clause-line c = omega (arith, as_many_wait)

pub returns-clause-dropped : goal.returns-clause-dropped
returns-clause-dropped c = omega (arith, one_dropped)

pub returns-clause-between : goal.returns-clause-between
unfolding reckoning
returns-clause-between c = tt
