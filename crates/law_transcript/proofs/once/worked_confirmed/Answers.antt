use Rattle.std.proofs.Common.{refl}
use Rattle.law_transcript.proofs.Computing.{computing}
use Rattle.law_transcript.proofs.once.worked_confirmed.Goals as goal

pub returns-clause-last : goal.returns-clause-last
unfolding computing
returns-clause-last c = refl

pub returns-clause-failed : goal.returns-clause-failed
unfolding computing
returns-clause-failed c = refl

pub returns-clause-other : goal.returns-clause-other
unfolding computing
returns-clause-other c = refl

pub returns-clause-node : goal.returns-clause-node
unfolding computing
returns-clause-node c = refl
