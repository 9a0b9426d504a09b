use Rattle.std.proofs.Common.{refl}
use Rattle.law_time.proofs.Computing.{computing}
use Rattle.law_host.proofs.heeds.worked_heedings.Goals as goal

pub returns-clause-first : goal.returns-clause-first
unfolding computing
returns-clause-first c = refl

pub returns-clause-second : goal.returns-clause-second
unfolding computing
returns-clause-second c = refl

pub returns-clause-working : goal.returns-clause-working
unfolding computing
returns-clause-working c = refl

pub returns-clause-other : goal.returns-clause-other
unfolding computing
returns-clause-other c = refl

pub returns-clause-openly : goal.returns-clause-openly
unfolding computing
returns-clause-openly c = refl

pub returns-clause-segment : goal.returns-clause-segment
unfolding computing
returns-clause-segment c = refl

pub returns-clause-sealed : goal.returns-clause-sealed
unfolding computing
returns-clause-sealed c = refl

pub returns-clause-unopened : goal.returns-clause-unopened
unfolding computing
returns-clause-unopened c = refl
