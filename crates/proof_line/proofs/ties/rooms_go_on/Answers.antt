-- At first nothing is on its way, and no unit stands last.
use Rattle.proof_line.proofs.Rooming.{room_walk, rooms_first}
use Rattle.proof_line.proofs.ties.rooms_go_on.Goals as goal

pub returns-clause-walk : goal.returns-clause-walk
returns-clause-walk c = room_walk

pub returns-clause-first : goal.returns-clause-first
returns-clause-first c = λ keys devices. rooms_first keys devices
