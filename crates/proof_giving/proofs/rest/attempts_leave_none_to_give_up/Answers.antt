-- By whether one is due or runs.
use Rattle.proof_giving.proofs.AtRest.{none_is_over, over_is}
use Rattle.proof_giving.proofs.rest.attempts_leave_none_to_give_up.Goals as goal

pub returns-clause-over : goal.returns-clause-over
returns-clause-over c = over_is

pub returns-clause-none : goal.returns-clause-none
returns-clause-none c = none_is_over
