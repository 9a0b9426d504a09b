-- Each step of a node, with what is told of it.
use Rattle.proof_attempts.proofs.AttemptsGo.{begins, gives_sign, goes_further, is_kept_late, is_next_due, none_yet, other_asked, ticks}
use Rattle.proof_attempts.proofs.attempts.attempts_go_with_nodes.Goals as goal

pub returns-clause-begins : goal.returns-clause-begins
returns-clause-begins c = begins

pub returns-clause-goes_on : goal.returns-clause-goes_on
returns-clause-goes_on c = λ told node now badly over unit are is more. goes_further told node now badly are is over unit more

pub returns-clause-other : goal.returns-clause-other
returns-clause-other c = other_asked

pub returns-clause-sign : goal.returns-clause-sign
returns-clause-sign c = gives_sign

pub returns-clause-late : goal.returns-clause-late
returns-clause-late c = is_kept_late

pub returns-clause-ticks : goal.returns-clause-ticks
returns-clause-ticks c = ticks

pub returns-clause-ends : goal.returns-clause-ends
returns-clause-ends c = is_next_due

pub returns-clause-anew : goal.returns-clause-anew
returns-clause-anew c = none_yet
