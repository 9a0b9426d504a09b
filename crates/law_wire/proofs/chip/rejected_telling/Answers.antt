use Rattle.std.proofs.Common.{◌≡◌, true, false}
use Rattle.law_wire.proofs.Computing.{reckoning}
use Rattle.law_wire.proofs.Walks.{cannot_tell}
use Rattle.law_wire.proofs.chip.rejected_telling.Goals as goal

not_true : false ≡ true → ⊥
not_true e = cc

pub returns-clause-apart : goal.returns-clause-apart
unfolding reckoning
returns-clause-apart c = λ law. cannot_tell _ law.way law.route

pub returns-clause-stranger : goal.returns-clause-stranger
unfolding reckoning
returns-clause-stranger c = λ law. not_true law.joined

pub returns-clause-asleep : goal.returns-clause-asleep
unfolding reckoning
returns-clause-asleep c = λ law. not_true law.awake

pub returns-clause-nobody : goal.returns-clause-nobody
unfolding reckoning
returns-clause-nobody c = λ law. law.awake

pub returns-clause-tired : goal.returns-clause-tired
unfolding reckoning
returns-clause-tired c = λ law. not_true law.awake
