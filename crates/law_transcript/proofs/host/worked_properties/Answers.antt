use Rattle.std.proofs.Common.{refl}
use Rattle.law_transcript.proofs.Computing.{computing}
use Rattle.law_transcript.proofs.host.worked_properties.Goals as goal

pub returns-clause-accepted : goal.returns-clause-accepted
unfolding computing
returns-clause-accepted c = refl

pub returns-clause-again : goal.returns-clause-again
unfolding computing
returns-clause-again c = refl

pub returns-clause-reported : goal.returns-clause-reported
unfolding computing
returns-clause-reported c = refl

pub returns-clause-restarted : goal.returns-clause-restarted
unfolding computing
returns-clause-restarted c = refl
