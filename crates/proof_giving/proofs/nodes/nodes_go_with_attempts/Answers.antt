-- Event by event.
use Rattle.proof_giving.proofs.NodesGo.{attempt_tick_so, badly_so, begin_so, end_so, final_so, nonce_so, occasion_so, restart_so, sign_so, sleep_so, waits_tick_so}
use Rattle.proof_giving.proofs.nodes.nodes_go_with_attempts.Goals as goal

pub returns-clause-occasion : goal.returns-clause-occasion
returns-clause-occasion c = occasion_so

pub returns-clause-sleep : goal.returns-clause-sleep
returns-clause-sleep c = sleep_so

pub returns-clause-sign : goal.returns-clause-sign
returns-clause-sign c = sign_so

pub returns-clause-known : goal.returns-clause-known
returns-clause-known c = badly_so

pub returns-clause-ends : goal.returns-clause-ends
returns-clause-ends c = end_so

pub returns-clause-waits : goal.returns-clause-waits
returns-clause-waits c = waits_tick_so

pub returns-clause-ticks : goal.returns-clause-ticks
returns-clause-ticks c = attempt_tick_so

pub returns-clause-nonce : goal.returns-clause-nonce
returns-clause-nonce c = nonce_so

pub returns-clause-finishes : goal.returns-clause-finishes
returns-clause-finishes c = final_so

pub returns-clause-begins : goal.returns-clause-begins
returns-clause-begins c = begin_so

pub returns-clause-starts : goal.returns-clause-starts
returns-clause-starts c = restart_so
