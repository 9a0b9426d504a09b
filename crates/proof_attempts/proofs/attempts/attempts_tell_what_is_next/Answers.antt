-- By whether the last one is over, and how many have begun.
use Rattle.proof_attempts.specs.Attempts.{has_ended_badly}
use Rattle.proof_attempts.proofs.AttemptsGo.{next_first, next_further, running_not_over, unended_well}
use Rattle.proof_attempts.proofs.attempts.attempts_tell_what_is_next.Goals as goal

pub returns-clause-over : goal.returns-clause-over
returns-clause-over c = λ heeds past last now told node are is. running_not_over told node now (has_ended_badly heeds past last now told.node) are is

pub returns-clause-due : goal.returns-clause-due
returns-clause-due c = next_first

pub returns-clause-running : goal.returns-clause-running
returns-clause-running c = next_further

pub returns-clause-before : goal.returns-clause-before
returns-clause-before c = unended_well
