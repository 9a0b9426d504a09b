-- At first node 2 has joined, by chip and air.
use Rattle.proof_chip.proofs.Members.{members_first, members_walk}
use Rattle.proof_chip.proofs.nodes.nodes_go_on.Goals as goal

pub returns-clause-walk : goal.returns-clause-walk
returns-clause-walk c = members_walk

pub returns-clause-first : goal.returns-clause-first
returns-clause-first c = members_first

pub returns-clause-same : goal.returns-clause-same
returns-clause-same c = λ past m known. known.0
