-- By the facts of tables.
use Rattle.proof_attempts.proofs.Opening.{last_told, node_told, open_told, waiting_told}
use Rattle.proof_attempts.proofs.series.hosts_show_open_sessions.Goals as goal

pub returns-clause-last : goal.returns-clause-last
returns-clause-last c = last_told

pub returns-clause-opened : goal.returns-clause-opened
returns-clause-opened c = open_told

pub returns-clause-waits : goal.returns-clause-waits
returns-clause-waits c = waiting_told

pub returns-clause-told : goal.returns-clause-told
returns-clause-told c = node_told
