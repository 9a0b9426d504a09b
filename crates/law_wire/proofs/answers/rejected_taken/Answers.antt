use Rattle.std.proofs.Common.{refl}
use Rattle.law_wire.proofs.Computing.{reckoning}
use Rattle.law_wire.proofs.Differing.{differ_at}
use Rattle.law_wire.proofs.answers.rejected_taken.Goals as goal

pub returns-clause-nak : goal.returns-clause-nak
unfolding reckoning
returns-clause-nak c = λ law. law

pub returns-clause-response : goal.returns-clause-response
unfolding reckoning
returns-clause-response c = λ law. law

pub returns-clause-unread : goal.returns-clause-unread
unfolding reckoning
returns-clause-unread c = λ law. law

pub returns-clause-stranger : goal.returns-clause-stranger
unfolding reckoning
returns-clause-stranger c = λ law. differ_at 4 _ _ law.0 refl

pub returns-clause-long : goal.returns-clause-long
unfolding reckoning
returns-clause-long c = λ law. differ_at 4 _ _ law.0 refl

pub returns-clause-busy : goal.returns-clause-busy
unfolding reckoning
returns-clause-busy c = λ law. differ_at 4 _ _ law.1.1.0 refl

pub returns-clause-aborted : goal.returns-clause-aborted
unfolding reckoning
returns-clause-aborted c = λ law. differ_at 4 _ _ law.1.1.0 refl

pub returns-clause-later : goal.returns-clause-later
unfolding reckoning
returns-clause-later c = λ law. differ_at 4 _ _ law.1.1.0 refl
