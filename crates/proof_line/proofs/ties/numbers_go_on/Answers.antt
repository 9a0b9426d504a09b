-- At first nothing was entered, and no line has asked for a tick.
use Rattle.std.proofs.Common.{refl}
use Rattle.proof_walk.specs.world_model.State.{first_machine}
use Rattle.proof_line.proofs.Telling.{number_walk, numbers_first}
use Rattle.proof_line.proofs.ties.numbers_go_on.Goals as goal

pub returns-clause-walk : goal.returns-clause-walk
returns-clause-walk c = number_walk

pub returns-clause-first : goal.returns-clause-first
returns-clause-first c = λ keys records devices. numbers_first (first_machine keys records devices) refl
