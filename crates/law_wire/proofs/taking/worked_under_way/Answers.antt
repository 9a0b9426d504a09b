use Rattle.std.proofs.Common.{refl}
use Rattle.law_wire.proofs.Computing.{reckoning}
use Rattle.law_wire.proofs.taking.worked_under_way.Goals as goal

pub returns-clause-taken : goal.returns-clause-taken
unfolding reckoning
returns-clause-taken c = refl

pub returns-clause-refused : goal.returns-clause-refused
unfolding reckoning
returns-clause-refused c = refl

pub returns-clause-response : goal.returns-clause-response
unfolding reckoning
returns-clause-response c = refl

pub returns-clause-unread : goal.returns-clause-unread
unfolding reckoning
returns-clause-unread c = refl

pub returns-clause-aborted : goal.returns-clause-aborted
unfolding reckoning
returns-clause-aborted c = refl

pub returns-clause-asked : goal.returns-clause-asked
unfolding reckoning
returns-clause-asked c = refl

pub returns-clause-next : goal.returns-clause-next
unfolding reckoning
returns-clause-next c = refl

pub returns-clause-same : goal.returns-clause-same
unfolding reckoning
returns-clause-same c = refl

pub returns-clause-quiet : goal.returns-clause-quiet
unfolding reckoning
returns-clause-quiet c = refl

pub returns-clause-first : goal.returns-clause-first
unfolding reckoning
returns-clause-first c = refl
