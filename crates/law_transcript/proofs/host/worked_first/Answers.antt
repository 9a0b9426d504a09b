use Rattle.std.proofs.Common.{refl}
use Rattle.law_transcript.proofs.Computing.{computing}
use Rattle.law_transcript.proofs.host.worked_first.Goals as goal

pub returns-clause-unlisted : goal.returns-clause-unlisted
unfolding computing
returns-clause-unlisted c = refl

pub returns-clause-value : goal.returns-clause-value
unfolding computing
returns-clause-value c = refl

pub returns-clause-supervision : goal.returns-clause-supervision
unfolding computing
returns-clause-supervision c = refl

pub returns-clause-long : goal.returns-clause-long
unfolding computing
returns-clause-long c = refl

pub returns-clause-mailbox : goal.returns-clause-mailbox
unfolding computing
returns-clause-mailbox c = refl
