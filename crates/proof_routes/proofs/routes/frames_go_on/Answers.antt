-- At first nothing was sent, and no frame is marked.
use Rattle.std.proofs.Common.{Some, refl}
use Rattle.proof_walk.specs.world_model.State.{first_machine}
use Rattle.proof_routes.proofs.Forgetting.{forgetting_walk, first_passages}
use Rattle.proof_routes.proofs.routes.frames_go_on.Goals as goal

pub returns-clause-walk : goal.returns-clause-walk
returns-clause-walk c = λ devices. forgetting_walk devices c.rules_of_events.ensures.starts

pub returns-clause-first : goal.returns-clause-first
returns-clause-first c = λ keys texts devices. first_passages (first_machine keys (Some texts) devices) refl
