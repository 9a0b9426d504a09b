use Rattle.std.proofs.Common.{refl, arith}
use Rattle.std.specs.Prelude.{◌≤◌}
use Rattle.law_wire.proofs.Differing.{differ_at}
use Rattle.law_wire.proofs.moments.rejected_hearing.Goals as goal

one_zero : 1 ≤ 0 → ⊥
one_zero few = omega (arith, few)

pub returns-clause-stalled : goal.returns-clause-stalled
returns-clause-stalled c = λ law. law.0

pub returns-clause-unsaid : goal.returns-clause-unsaid
returns-clause-unsaid c = λ law. law.0

pub returns-clause-otherwise : goal.returns-clause-otherwise
returns-clause-otherwise c = λ law. differ_at 0 _ _ law.0.0.1 refl

pub returns-clause-left : goal.returns-clause-left
returns-clause-left c = λ law. one_zero law.1

pub returns-clause-passes : goal.returns-clause-passes
returns-clause-passes c = λ law. one_zero law.1
