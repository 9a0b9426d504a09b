use Rattle.std.proofs.Common.{refl}
use Rattle.law_wire.proofs.Computing.{reckoning}
use Rattle.law_wire.proofs.Differing.{differ_at}
use Rattle.law_wire.proofs.answers.rejected_callbacks.Goals as goal

pub returns-clause-unacknowledged : goal.returns-clause-unacknowledged
unfolding reckoning
returns-clause-unacknowledged c = λ law. differ_at 5 _ _ law.1.0 refl

pub returns-clause-lost : goal.returns-clause-lost
unfolding reckoning
returns-clause-lost c = λ law. differ_at 5 _ _ law.1.0 refl

pub returns-clause-unheard : goal.returns-clause-unheard
unfolding reckoning
returns-clause-unheard c = λ law. differ_at 5 _ _ law.1.0 refl

pub returns-clause-aborted : goal.returns-clause-aborted
unfolding reckoning
returns-clause-aborted c = λ law. differ_at 5 _ _ law.1.0 refl

pub returns-clause-number : goal.returns-clause-number
unfolding reckoning
returns-clause-number c = λ law. differ_at 4 _ _ law.1.0 refl

pub returns-clause-another : goal.returns-clause-another
unfolding reckoning
returns-clause-another c = λ law. law.1.1.1

pub returns-clause-device : goal.returns-clause-device
unfolding reckoning
returns-clause-device c = λ law. differ_at 5 _ _ law.1.1.0 refl

pub returns-clause-repeated : goal.returns-clause-repeated
unfolding reckoning
returns-clause-repeated c = λ law. law.1.1

pub returns-clause-response : goal.returns-clause-response
unfolding reckoning
returns-clause-response c = λ law. differ_at 2 _ _ law.1.0 refl

pub returns-clause-nothing : goal.returns-clause-nothing
unfolding reckoning
returns-clause-nothing c = λ law. law

pub returns-clause-over : goal.returns-clause-over
unfolding reckoning
returns-clause-over c = λ law. law.1.1

pub returns-clause-early : goal.returns-clause-early
unfolding reckoning
returns-clause-early c = λ law. law.1

pub returns-clause-before : goal.returns-clause-before
unfolding reckoning
returns-clause-before c = λ law. law.1

pub returns-clause-twice : goal.returns-clause-twice
unfolding reckoning
returns-clause-twice c = λ law. law.1.1.1

pub returns-clause-refused : goal.returns-clause-refused
unfolding reckoning
returns-clause-refused c = λ law. law.1.1.1

pub returns-clause-sent : goal.returns-clause-sent
unfolding reckoning
returns-clause-sent c = λ law. law.1.1

pub returns-clause-withdrawn : goal.returns-clause-withdrawn
unfolding reckoning
returns-clause-withdrawn c = λ law. law.1.1

pub returns-clause-later : goal.returns-clause-later
unfolding reckoning
returns-clause-later c = λ law. law.1.1
