use Rattle.std.proofs.Common.{refl}
use Rattle.law_wire.proofs.Computing.{reckoning}
use Rattle.law_wire.proofs.Differing.{differ_at}
use Rattle.law_wire.proofs.answers.rejected_responses.Goals as goal

pub returns-clause-stranger : goal.returns-clause-stranger
unfolding reckoning
returns-clause-stranger c = λ law. differ_at 7 _ _ law.0 refl

pub returns-clause-missing : goal.returns-clause-missing
unfolding reckoning
returns-clause-missing c = λ law. differ_at 7 _ _ law.0 refl

pub returns-clause-controller : goal.returns-clause-controller
unfolding reckoning
returns-clause-controller c = λ law. differ_at 7 _ _ law.0 refl

pub returns-clause-functions : goal.returns-clause-functions
unfolding reckoning
returns-clause-functions c = λ law. differ_at 12 _ _ law.0 refl

pub returns-clause-version : goal.returns-clause-version
unfolding reckoning
returns-clause-version c = λ law. differ_at 14 _ _ law.0 refl

pub returns-clause-home : goal.returns-clause-home
unfolding reckoning
returns-clause-home c = λ law. differ_at 7 _ _ law.0 refl

pub returns-clause-listens : goal.returns-clause-listens
unfolding reckoning
returns-clause-listens c = λ law. differ_at 4 _ _ law.0 refl

pub returns-clause-asks : goal.returns-clause-asks
unfolding reckoning
returns-clause-asks c = λ law. differ_at 4 _ _ law.0 refl

pub returns-clause-failed : goal.returns-clause-failed
unfolding reckoning
returns-clause-failed c = λ law. differ_at 4 _ _ law.1.1.0 refl

pub returns-clause-neighbours : goal.returns-clause-neighbours
unfolding reckoning
returns-clause-neighbours c = λ law. differ_at 4 _ _ law.0 refl
