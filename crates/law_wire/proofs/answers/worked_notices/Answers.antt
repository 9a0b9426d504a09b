use Rattle.std.proofs.Common.{[], refl, inl}
use Rattle.law_wire.proofs.Computing.{reckoning}
use Rattle.law_wire.proofs.Walks.{direct}
use Rattle.law_wire.proofs.answers.worked_notices.Goals as goal

pub returns-clause-brings : goal.returns-clause-brings
unfolding reckoning
returns-clause-brings c = (refl, tt)

pub returns-clause-informs : goal.returns-clause-informs
unfolding reckoning
returns-clause-informs c = (refl, (inl (record { joined = refl; way = []; route = (direct _ _ 5 refl).walk; awake = refl }, refl), tt))

pub returns-clause-informs_still : goal.returns-clause-informs_still
unfolding reckoning
returns-clause-informs_still c = (refl, (inl (record { joined = refl; way = []; route = (direct _ _ 5 refl).walk; awake = refl }, refl), tt))

pub returns-clause-brings_again : goal.returns-clause-brings_again
unfolding reckoning
returns-clause-brings_again c = (refl, (refl, tt))
