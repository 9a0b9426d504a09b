-- At first nothing is on its way, and nothing is unfinished.
use Rattle.std.proofs.Common.{ℕ, List, [], refl}
use Rattle.std.specs.Prelude.{Option}
use Rattle.s0_crypto.specs.declared.key_pair.Keys.{Keys}
use Rattle.world_model.specs.device_sim.State.{State}
use Rattle.world_model.specs.outside_model.State.{first_outer}
use Rattle.world_model.specs.State.{first_machine}
use Rattle.proof_serial.specs.Chip.{HasFrames}
use Rattle.proof_serial.specs.Line.{Carried, IsWhole, AreAtRest}

pub first_carried : (keys : Keys) (records : Option (List (List ℕ))) (devices : List State) → Carried (first_machine keys records devices) [] []
unfolding first_outer
first_carried keys records devices = record {
  to_chip = record { reads = (tt, refl); ticks = refl };
  to_host = record { reads = (tt, refl); ticks = refl };
}

pub first_frames : (keys : Keys) (records : Option (List (List ℕ))) (devices : List State) → HasFrames (first_machine keys records devices).outside.outer.chip.state.port
unfolding first_outer
first_frames keys records devices = record { turn = tt; waiting = tt }

pub first_whole : (keys : Keys) (records : Option (List (List ℕ))) (devices : List State) → IsWhole (first_machine keys records devices)
first_whole keys records devices = record { up = []; down = []; carried = first_carried keys records devices; frames = first_frames keys records devices }

pub first_at_rest : (keys : Keys) (records : Option (List (List ℕ))) (devices : List State) → AreAtRest (first_machine keys records devices)
unfolding first_outer
first_at_rest keys records devices = record { host = refl; chip = refl }
