-- At first the chip has no frame for the host.
use Rattle.std.proofs.Common.{refl}
use Rattle.proof_walk.specs.world_model.State.{first_machine}
use Rattle.proof_air.proofs.Handling.{handler_walk, handlers_first}
use Rattle.proof_air.proofs.carrying.handlers_go_on.Goals as goal

pub returns-clause-walk : goal.returns-clause-walk
returns-clause-walk c = handler_walk c.rules_of_events.ensures.starts

pub returns-clause-first : goal.returns-clause-first
returns-clause-first c = λ keys records devices. handlers_first (first_machine keys records devices) refl
