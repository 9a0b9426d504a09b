-- The chip's link has no collision to make at first.
use Rattle.std.proofs.Common.{refl}
use Rattle.proof_walk.specs.outside_model.State.{first_outer}
use Rattle.proof_walk.specs.world_model.State.{first_machine}
use Rattle.proof_line.proofs.Asking.{collision_walk, collisions_first}
use Rattle.proof_line.proofs.ties.collisions_go_on.Goals as goal

pub returns-clause-walk : goal.returns-clause-walk
returns-clause-walk c = collision_walk

pub returns-clause-first : goal.returns-clause-first
unfolding first_outer
returns-clause-first c = λ keys records devices. collisions_first (first_machine keys records devices) refl
