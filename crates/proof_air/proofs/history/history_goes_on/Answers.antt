-- At first nothing was sent and no session began, so the tie holds.
use Rattle.std.proofs.Common.{[], refl}
use Rattle.air_frames.proofs.Counted.{IsOf-first}
use Rattle.chip_sim.specs.Nodes.{none_marked}
use Rattle.proof_walk.specs.outside_model.State.{first_outer}
use Rattle.proof_walk.specs.world_model.State.{first_machine}
use Rattle.proof_air.proofs.Hearing.{air_walk, nothing_said}
use Rattle.proof_air.proofs.history.history_goes_on.Goals as goal

pub returns-clause-walk : goal.returns-clause-walk
returns-clause-walk c = air_walk c.rules_of_events.ensures.starts

pub returns-clause-first : goal.returns-clause-first
unfolding first_outer none_marked
returns-clause-first c = λ keys records devices.
    nothing_said (first_machine keys records devices) (record { log = []; kept = IsOf-first; shown = refl; apart = tt; chip = refl; air = refl; home = refl })
