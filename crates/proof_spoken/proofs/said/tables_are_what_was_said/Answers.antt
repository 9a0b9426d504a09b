use Rattle.proof_spoken.proofs.ReadOrders.{table_is}
use Rattle.proof_spoken.proofs.said.tables_are_what_was_said.Goals as goal

pub returns : goal.returns
returns c = table_is
