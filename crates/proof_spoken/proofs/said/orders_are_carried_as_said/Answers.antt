use Rattle.proof_spoken.proofs.ReadOrders.{carried_is}
use Rattle.proof_spoken.proofs.said.orders_are_carried_as_said.Goals as goal

pub returns : goal.returns
returns c = λ listing past h node number taken facts said has at. carried_is listing past h node facts said number taken has at
