-- The walk of time, and its beginning.
use Rattle.std.proofs.Common.{refl}
use Rattle.proof_device.specs.world_model.State.{first_machine}
use Rattle.proof_walk.proofs.Clock.{time_walk, first_time}
use Rattle.proof_walk.proofs.time.time_goes_on.Goals as goal

pub returns-clause-walk : goal.returns-clause-walk
returns-clause-walk c = time_walk

pub returns-clause-first : goal.returns-clause-first
returns-clause-first c = λ keys records devices. first_time (first_machine keys records devices) refl
