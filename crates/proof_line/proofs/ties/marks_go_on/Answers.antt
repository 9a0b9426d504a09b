-- No mark waits at first.
use Rattle.proof_walk.specs.world_model.State.{first_machine}
use Rattle.proof_line.proofs.Marking.{mark_walk, marks_first, none_wait}
use Rattle.proof_line.proofs.ties.marks_go_on.Goals as goal

pub returns-clause-walk : goal.returns-clause-walk
returns-clause-walk c = mark_walk

pub returns-clause-first : goal.returns-clause-first
returns-clause-first c = λ keys records devices. marks_first (first_machine keys records devices) none_wait
