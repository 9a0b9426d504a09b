use Rattle.std.proofs.Common.{refl}
use Rattle.law_time.proofs.Computing.{computing}
use Rattle.law_host.proofs.heard.worked_heard.Goals as goal

pub returns-clause-plain : goal.returns-clause-plain
unfolding computing
returns-clause-plain c = refl

pub returns-clause-mixed : goal.returns-clause-mixed
unfolding computing
returns-clause-mixed c = refl

pub returns-clause-sensor : goal.returns-clause-sensor
unfolding computing
returns-clause-sensor c = refl

pub returns-clause-lock : goal.returns-clause-lock
unfolding computing
returns-clause-lock c = refl

pub returns-clause-before : goal.returns-clause-before
unfolding computing
returns-clause-before c = refl

pub returns-clause-later : goal.returns-clause-later
unfolding computing
returns-clause-later c = refl
