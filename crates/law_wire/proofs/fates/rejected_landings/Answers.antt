use Rattle.std.proofs.Common.{◌≡◌, ℕ, arith}
use Rattle.law_wire.proofs.Computing.{reckoning}
use Rattle.law_wire.proofs.fates.rejected_landings.Goals as goal

zero_one : ◌≡◌ {A = ℕ} 0 1 → ⊥
zero_one e = omega (arith, e)

pub returns-clause-never : goal.returns-clause-never
unfolding reckoning
returns-clause-never c = λ law. zero_one law.1.1.1.1.1.1.1.1.1.0

pub returns-clause-late : goal.returns-clause-late
unfolding reckoning
returns-clause-late c = λ law. zero_one law.1.1.1.1.1.1.1.1.1.0
