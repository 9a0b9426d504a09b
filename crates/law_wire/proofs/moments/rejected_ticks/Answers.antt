use Rattle.std.proofs.Common.{◌≡◌, true, false, arith}
use Rattle.law_wire.proofs.Silence.{not_empty}
use Rattle.law_wire.proofs.moments.rejected_ticks.Goals as goal

true_false : true ≡ false → ⊥
true_false same = cc

pub returns-clause-none : goal.returns-clause-none
returns-clause-none c = λ law. omega (arith, law.1)

pub returns-clause-two : goal.returns-clause-two
returns-clause-two c = λ law. omega (arith, law.0.1.0)

pub returns-clause-line : goal.returns-clause-line
returns-clause-line c = λ law. law.0.0

pub returns-clause-hears : goal.returns-clause-hears
returns-clause-hears c = λ law. omega (arith, law.0.0)

pub returns-clause-submits : goal.returns-clause-submits
returns-clause-submits c = λ law. omega (arith, law.0.0)

pub returns-clause-chip_submits : goal.returns-clause-chip_submits
returns-clause-chip_submits c = λ law. true_false law.0.1.0

pub returns-clause-collides : goal.returns-clause-collides
returns-clause-collides c = λ law. law.0.1.0

pub returns-clause-later : goal.returns-clause-later
returns-clause-later c = λ law. not_empty _ _ law.0.1.0
