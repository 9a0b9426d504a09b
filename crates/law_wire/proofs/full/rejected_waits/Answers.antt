use Rattle.std.proofs.Common.{arith}
use Rattle.law_wire.proofs.Crowds.{many_wait, one_dropped}
use Rattle.law_wire.proofs.full.rejected_waits.Goals as goal

pub returns-clause-line : goal.returns-clause-line
returns-clause-line c = λ law. omega (arith, many_wait, law)

pub returns-clause-heard : goal.returns-clause-heard
returns-clause-heard c = λ law. omega (arith, many_wait, law)

pub returns-clause-lost : goal.returns-clause-lost
returns-clause-lost c = λ law. omega (arith, many_wait, law)

pub returns-clause-unheard : goal.returns-clause-unheard
returns-clause-unheard c = λ law. omega (arith, many_wait, law)

pub returns-clause-answered : goal.returns-clause-answered
returns-clause-answered c = λ law. omega (arith, many_wait, law)

pub returns-clause-twice : goal.returns-clause-twice
returns-clause-twice c = λ law. omega (arith, one_dropped, law)
