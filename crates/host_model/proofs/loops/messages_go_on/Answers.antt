-- One more message or value.
use Rattle.host_model.proofs.Rounds.{taken_one, taken-append, values-append}
use Rattle.host_model.proofs.loops.messages_go_on.Goals as goal

pub returns-clause-one : goal.returns-clause-one
returns-clause-one c = taken_one

pub returns-clause-both : goal.returns-clause-both
returns-clause-both c = taken-append

pub returns-clause-values : goal.returns-clause-values
returns-clause-values c = values-append
