-- At first nothing is on its way.
use Rattle.std.proofs.Common.{refl}
use Rattle.proof_walk.specs.world_model.State.{first_machine}
use Rattle.proof_line.proofs.Piping.{pipe_walk, pipes_first}
use Rattle.proof_line.proofs.ties.pipes_go_on.Goals as goal

pub returns-clause-walk : goal.returns-clause-walk
returns-clause-walk c = pipe_walk

pub returns-clause-first : goal.returns-clause-first
returns-clause-first c = λ keys records devices. pipes_first (first_machine keys records devices) refl
