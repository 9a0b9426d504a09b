-- At first no mark is asked for.
use Rattle.std.proofs.Common.{refl}
use Rattle.world_model.specs.State.{first_machine}
use Rattle.proof_devices.proofs.AcksWalk.{acks_walk, first_acks}
use Rattle.proof_devices.proofs.fates.acks_go_on.Goals as goal

pub returns-clause-walk : goal.returns-clause-walk
returns-clause-walk c = λ devices. acks_walk devices

pub returns-clause-first : goal.returns-clause-first
returns-clause-first c = λ keys records devices. first_acks (first_machine keys records devices) refl
