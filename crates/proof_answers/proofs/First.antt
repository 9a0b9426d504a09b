-- At first the chip has nothing for its host.
use Rattle.std.proofs.Common.{ℕ, false, List, [], refl}
use Rattle.std.proofs.lemmas.List.{length-replicate}
use Rattle.std.specs.Prelude.{Option}
use Rattle.serial_link.specs.Rules.{SideObeys}
use Rattle.s0_crypto.specs.declared.key_pair.Keys.{Keys}
use Rattle.chip_sim.specs.Nodes.{none_marked}
use Rattle.chip_sim.specs.Waiting.{no_port}
use Rattle.outside_model.specs.Devices.{State}
use Rattle.outside_model.specs.State.{first_outer}
use Rattle.world_model.specs.State.{first_machine}
use Rattle.proof_devices.specs.proof_air.proof_walk.Phases.{Between}
use Rattle.proof_chip.proofs.Growing.{serves_none}
use Rattle.proof_answers.specs.Telling.{KnowTells}
use Rattle.proof_devices.proofs.First.{none_are}

pub tells_first : (keys : Keys) (records : Option (List (List ℕ))) (devices : List State) → SideObeys [] no_port.port.side → KnowTells devices [] Between [] (first_machine keys records devices)
unfolding first_outer none_marked
tells_first keys records devices obeys = (
  [],
  serves_none (first_machine keys records devices).outside.outer.chip.state.port refl obeys,
  λ later goes. record { turns = tt; tells = tt; owes = refl; under = tt; failing = record { places = length-replicate 233 false; same = none_are } },
)
