use Rattle.std.proofs.Common.{refl}
use Rattle.law_wire.proofs.Computing.{reckoning}
use Rattle.law_wire.proofs.pipes.rejected_pipes.Goals as goal

pub returns-clause-room : goal.returns-clause-room
unfolding reckoning
returns-clause-room c = refl

pub returns-clause-taken : goal.returns-clause-taken
unfolding reckoning
returns-clause-taken c = refl

pub returns-clause-unsaid : goal.returns-clause-unsaid
unfolding reckoning
returns-clause-unsaid c = refl

pub returns-clause-changed : goal.returns-clause-changed
unfolding reckoning
returns-clause-changed c = refl

pub returns-clause-unwritten : goal.returns-clause-unwritten
unfolding reckoning
returns-clause-unwritten c = refl
