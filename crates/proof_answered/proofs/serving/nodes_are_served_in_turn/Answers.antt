-- What a host does next, and the cyclic order.
use Rattle.proof_calm.proofs.Serving.{next_member}
use Rattle.proof_answered.specs.Workers.{IsStill}
use Rattle.proof_answered.proofs.Staffing.{still_rests}
use Rattle.proof_answered.proofs.TurnOrder.{comes_nearer, next_in_turn, request_over, turn_most}
use Rattle.proof_answered.proofs.serving.nodes_are_served_in_turn.Goals as goal

pub returns-clause-over : goal.returns-clause-over
returns-clause-over c = request_over

pub returns-clause-next : goal.returns-clause-next
returns-clause-next c = next_in_turn

pub returns-clause-nearer : goal.returns-clause-nearer
returns-clause-nearer c = λ these nodes served k n next marked at_work works from to other. comes_nearer these nodes served k n marked at_work works from to other next

pub returns-clause-workers : goal.returns-clause-workers
returns-clause-workers c = λ these h k knows next. (next_member IsStill still_rests these h knows k next).is_joined

pub returns-clause-most : goal.returns-clause-most
returns-clause-most c = turn_most
