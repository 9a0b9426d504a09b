-- Entry by entry.
use Rattle.proof_giving.proofs.Told.{attempts_again, attempts_in_vain, attempts_left, attempts_one, attempts_said, attempts_start, each_is, node_is, requests_are}
use Rattle.proof_giving.proofs.Over.{along_goes}
use Rattle.proof_giving.proofs.attempts.attempts_grow_by_entries.Goals as goal

pub returns-clause-each : goal.returns-clause-each
returns-clause-each c = each_is

pub returns-clause-requests : goal.returns-clause-requests
returns-clause-requests c = requests_are

pub returns-clause-node : goal.returns-clause-node
returns-clause-node c = node_is

pub returns-clause-one : goal.returns-clause-one
returns-clause-one c = attempts_one

pub returns-clause-said : goal.returns-clause-said
returns-clause-said c = attempts_said

pub returns-clause-starts : goal.returns-clause-starts
returns-clause-starts c = attempts_start

pub returns-clause-in_vain : goal.returns-clause-in_vain
returns-clause-in_vain c = attempts_in_vain

pub returns-clause-left : goal.returns-clause-left
returns-clause-left c = attempts_left

pub returns-clause-again : goal.returns-clause-again
returns-clause-again c = attempts_again

pub returns-clause-along : goal.returns-clause-along
returns-clause-along c = along_goes
