use Rattle.std.proofs.Common.{refl}
use Rattle.law_time.specs.Choice.{may_number}
use Rattle.law_time.specs.WorkedTurns.{copied_after_overrun}
use Rattle.law_wire.specs.law_transcript.Worked.{long_message, plain_exchange, repeated_exchange, restarted_host}
use Rattle.law_time.proofs.Computing.{computing}
use Rattle.law_wire.proofs.Deciding.{kept}
use Rattle.law_time.proofs.choice.worked_callbacks.Goals as goal

pub returns-clause-plain : goal.returns-clause-plain
unfolding computing
returns-clause-plain c = kept may_number plain_exchange refl

pub returns-clause-counted : goal.returns-clause-counted
unfolding computing
returns-clause-counted c = kept may_number repeated_exchange refl

pub returns-clause-restarted : goal.returns-clause-restarted
unfolding computing
returns-clause-restarted c = kept may_number restarted_host refl

pub returns-clause-copied : goal.returns-clause-copied
unfolding computing
returns-clause-copied c = kept may_number copied_after_overrun refl

pub returns-clause-cut : goal.returns-clause-cut
unfolding computing
returns-clause-cut c = kept may_number long_message refl

pub returns-clause-last : goal.returns-clause-last
unfolding computing
returns-clause-last c = refl
