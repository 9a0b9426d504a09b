-- The world as a machine: what it has of its own, beside the devices and the keeper that are handed in (this project's own).
use Rattle.std.specs.Prelude.{ℕ, List, Option}
use Rattle.serial_frame.specs.Stream.{no_rest}
use Rattle.s0_crypto.specs.declared.key_pair.Keys.{Keys}
use Rattle.device_sim.specs.State.{State}
use Rattle.zw_text.specs.declared.entry.Entry.{Entry}
use Rattle.s0_crypto.specs.Sealing.{keys_of}
use Rattle.host_model.specs.State.{HostParts, first_host}
use Rattle.outside_model.specs.State.{OuterState, first_outer}
use Rattle.world_model.specs.State.{Machine, machine}
use Rattle.world_model.specs.Did.{Scene}
use Rattle.host_keep.specs.Keeping.{Shelf}

-- the keys of the network, the host, and what is outside it but for the devices
pub record WorldState : Type 0 where
  pub keys : Keys
  pub host : HostParts
  pub outer : OuterState

-- at first, with the key of the network
abbrev pub first_world : List ℕ → WorldState
first_world key = record { keys = keys_of key; host = record { decoder = no_rest; state = first_host (keys_of key) }; outer = first_outer }

-- with devices, and with the records of a keeper
abbrev pub machine_of : WorldState → List State → Option (List (List ℕ)) → Machine
machine_of w devices records = machine w.keys w.host w.outer records devices

-- with devices, what a keeper holds, and the entries so far
abbrev pub scene : WorldState → List State → Shelf → List Entry → Scene
scene w devices shelf entries = record { machine = machine_of w devices shelf.records; entries = entries; faults = shelf.faults }
