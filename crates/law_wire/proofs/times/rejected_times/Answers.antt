use Rattle.std.proofs.Common.{◌≡◌, true, false, arith}
use Rattle.law_wire.proofs.Computing.{reckoning}
use Rattle.law_wire.proofs.times.rejected_times.Goals as goal

true_false : true ≡ false → ⊥
true_false same = cc

pub returns-clause-left_out : goal.returns-clause-left_out
unfolding reckoning
returns-clause-left_out c = λ law. omega (arith, law)

pub returns-clause-twice : goal.returns-clause-twice
unfolding reckoning
returns-clause-twice c = λ law. omega (arith, law.later)

pub returns-clause-again : goal.returns-clause-again
unfolding reckoning
returns-clause-again c = λ law. omega (arith, law.later)

pub returns-clause-unasked : goal.returns-clause-unasked
unfolding reckoning
returns-clause-unasked c = λ law. omega (arith, law.asked)

pub returns-clause-empty : goal.returns-clause-empty
unfolding reckoning
returns-clause-empty c = λ law. true_false law.filled

pub returns-clause-line : goal.returns-clause-line
unfolding reckoning
returns-clause-line c = λ law. true_false law
