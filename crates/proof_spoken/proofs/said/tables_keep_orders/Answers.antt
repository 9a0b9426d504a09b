use Rattle.proof_spoken.proofs.KeptCommands.{event_keeps, machine_keeps}
use Rattle.proof_spoken.proofs.said.tables_keep_orders.Goals as goal

pub returns-clause-host : goal.returns-clause-host
returns-clause-host c = event_keeps

pub returns-clause-each : goal.returns-clause-each
returns-clause-each c = machine_keeps
