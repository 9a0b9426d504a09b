use Rattle.proof_work.proofs.Pumping.{none_wants, next_leaves, tended}
use Rattle.proof_work.proofs.work.turns_of_a_pump_leave_nothing.Goals as goal

pub returns-clause-told : goal.returns-clause-told
returns-clause-told c = none_wants

pub returns-clause-submits : goal.returns-clause-submits
returns-clause-submits c = next_leaves

pub returns-clause-ends : goal.returns-clause-ends
returns-clause-ends c = tended
