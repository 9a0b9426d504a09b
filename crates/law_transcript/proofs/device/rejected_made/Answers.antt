use Rattle.std.proofs.Common.{◌≡◌, ℕ, length, ap, arith}
use Rattle.device_sim.specs.device_stack.State.{State}
use Rattle.law_transcript.proofs.Computing.{computing}
use Rattle.law_transcript.proofs.device.rejected_made.Goals as goal

one_zero : ◌≡◌ {A = ℕ} 1 0 → ⊥
one_zero e = omega (arith, e)

none_sixteen : ◌≡◌ {A = ℕ} 0 16 → ⊥
none_sixteen e = omega (arith, e)

pub returns-clause-first : goal.returns-clause-first
returns-clause-first c = λ made. omega (arith, made.from_two)

pub returns-clause-beyond : goal.returns-clause-beyond
returns-clause-beyond c = λ made. omega (arith, made.to_max)

pub returns-clause-changed : goal.returns-clause-changed
returns-clause-changed c = λ made. one_zero (ap (λ (device : State). length device.journal) made.made)

pub returns-clause-key : goal.returns-clause-key
unfolding computing
returns-clause-key c = λ made. none_sixteen (ap (λ (device : State). length device.key) made.made)
