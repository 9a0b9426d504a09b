use Rattle.std.proofs.Common.{refl, arith}
use Rattle.law_wire.proofs.moments.worked_asking.Goals as goal

pub returns-clause-asked : goal.returns-clause-asked
returns-clause-asked c = refl

pub returns-clause-host : goal.returns-clause-host
returns-clause-host c = refl

pub returns-clause-left_out : goal.returns-clause-left_out
returns-clause-left_out c = λ law. omega (arith, law)

pub returns-clause-unasked : goal.returns-clause-unasked
returns-clause-unasked c = λ law. omega (arith, law)

pub returns-clause-of_host : goal.returns-clause-of_host
returns-clause-of_host c = λ law. omega (arith, law)
