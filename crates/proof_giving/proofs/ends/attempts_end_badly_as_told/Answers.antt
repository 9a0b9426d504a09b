-- By the way in which it ends.
use Rattle.proof_giving.proofs.EndsSo.{frame_badly, given_up_badly, silent_badly}
use Rattle.proof_giving.proofs.ends.attempts_end_badly_as_told.Goals as goal

pub returns-clause-frame : goal.returns-clause-frame
returns-clause-frame c = λ past marks f rest now n id more payload how marked frames was unended time e.
    frame_badly past marks f rest marked frames was unended now n id more payload how time e

pub returns-clause-silent : goal.returns-clause-silent
returns-clause-silent c = λ inner past now id purpose time e. silent_badly inner past now time e.so

pub returns-clause-given_up : goal.returns-clause-given_up
returns-clause-given_up c = λ inner past now id purpose time e. given_up_badly inner past now time e.so
