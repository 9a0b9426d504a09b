use Rattle.proof_traffic.specs.Requests.{no_traffic, after_all}
use Rattle.proof_traffic.proofs.FactsKept.{first_facts, all_kept, two_by_facts, room_by_facts}
use Rattle.proof_traffic.proofs.request_steps.two_at_most.Goals as goal

pub returns-clause-always : goal.returns-clause-always
returns-clause-always c = λ steps may. two_by_facts (after_all no_traffic steps) (all_kept no_traffic steps first_facts may)

pub returns-clause-room : goal.returns-clause-room
returns-clause-room c = room_by_facts
