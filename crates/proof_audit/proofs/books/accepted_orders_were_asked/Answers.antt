use Rattle.proof_audit.proofs.AnsweredOrders.{are-asked}
use Rattle.proof_audit.proofs.books.accepted_orders_were_asked.Goals as goal

pub returns : goal.returns
returns c = λ whole devices transcript kinds answers. are-asked devices kinds whole transcript answers
