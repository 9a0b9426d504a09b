use Rattle.std.proofs.Common.{refl}
use Rattle.law_time.specs.Choice.{may_follow}
use Rattle.law_time.specs.WrongChoice.{asked_before_end, asked_before_free, asked_before_silence, begun_before_end}
use Rattle.law_time.proofs.Computing.{computing}
use Rattle.law_wire.proofs.Deciding.{broken}
use Rattle.law_time.proofs.choice.rejected_one_by_one.Goals as goal

pub returns-clause-response : goal.returns-clause-response
unfolding computing
returns-clause-response c = broken may_follow asked_before_end refl

pub returns-clause-silence : goal.returns-clause-silence
unfolding computing
returns-clause-silence c = broken may_follow asked_before_silence refl

pub returns-clause-acknowledgement : goal.returns-clause-acknowledgement
unfolding computing
returns-clause-acknowledgement c = broken may_follow asked_before_free refl

pub returns-clause-session : goal.returns-clause-session
unfolding computing
returns-clause-session c = broken may_follow begun_before_end refl
