use Rattle.std.proofs.Common.{refl}
use Rattle.law_transcript.proofs.Computing.{computing}
use Rattle.law_transcript.proofs.host.worked_heard.Goals as goal

pub returns-clause-last : goal.returns-clause-last
unfolding computing
returns-clause-last c = refl

pub returns-clause-other : goal.returns-clause-other
unfolding computing
returns-clause-other c = refl

pub returns-clause-node : goal.returns-clause-node
unfolding computing
returns-clause-node c = refl

pub returns-clause-restarted : goal.returns-clause-restarted
unfolding computing
returns-clause-restarted c = refl

pub returns-clause-refused : goal.returns-clause-refused
unfolding computing
returns-clause-refused c = refl
