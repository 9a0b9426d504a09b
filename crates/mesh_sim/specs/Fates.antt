-- What becomes of a frame that arrives (this project's own rule, docs/AIR.md).
use Rattle.std.specs.Prelude.{ℕ, ◌<◌, ◌==◌, if◌then◌else◌, Bool, false, Option, Some, None, List, [], ◌∷◌, slice_get, suc, option_map}
use Rattle.route_table.specs.Network.{Network, linked}
use Rattle.route_table.specs.Route.{via}
use Rattle.device_sim.specs.State.{State}
use Rattle.air_frames.specs.declared.frame.Heading.{Heading}
use Rattle.air_frames.specs.declared.frame.Heading.TheVariants.{Outward, Homeward}
use Rattle.air_frames.specs.Flown.{Flown}
use Rattle.mesh_sim.specs.declared.fate.Fate.{Fate}
use Rattle.mesh_sim.specs.declared.fate.Fate.TheVariants.{Lost, Dead, Missed, AtChip, AtDevice}
use Rattle.mesh_sim.specs.Air.{AirState}

-- the air and the devices
pub record Mesh : Type 0 where
  pub air : AirState
  pub devices : List State

-- where the first device of a node stands
abbrev pub place_of : ℕ → List State → Option ℕ
place_of node [] = None
place_of node (device ∷ devices) = if device.node == node then Some 0 else option_map suc (place_of node devices)

abbrev pub is_awake : Option State → Bool
is_awake None = false
is_awake (Some device) = device.awake

abbrev pub awake_at : List State → Option ℕ → Option ℕ
awake_at devices None = None
awake_at devices (Some place) = if is_awake (slice_get devices place) then Some place else None

-- the same, where it is awake
abbrev pub listener_of : ℕ → List State → Option ℕ
listener_of node devices = awake_at devices (place_of node devices)

-- the first hop from a node over repeaters to another that is no link
abbrev pub dead_hop : Network → ℕ → List ℕ → ℕ → Option (ℕ × ℕ)
dead_hop net from [] to = if linked net from to then None else Some (from, to)
dead_hop net from (next ∷ more) to = if linked net from next then dead_hop net next more to else Some (from, next)

-- the same on the way of a frame
abbrev pub dead_hop_by : Heading → Network → ℕ → List ℕ → Option (ℕ × ℕ)
dead_hop_by Outward net node repeaters = dead_hop net 1 repeaters node
dead_hop_by Homeward net node repeaters = dead_hop net node repeaters 1

abbrev pub dead_hop_of : Network → Flown → Option (ℕ × ℕ)
dead_hop_of net frame = dead_hop_by frame.heading net frame.node (via frame.route)

-- a frame that is not lost
abbrev pub fate_by : Option (ℕ × ℕ) → Heading → Option ℕ → Fate
fate_by (Some hop) heading listener = Dead hop.0 hop.1
fate_by None Homeward listener = AtChip
fate_by None Outward (Some place) = AtDevice place
fate_by None Outward None = Missed

-- what becomes of a frame
abbrev pub fate_of : Network → List State → Flown → Fate
fate_of net devices frame =
    if frame.lost then Lost else fate_by (dead_hop_of net frame) frame.heading (listener_of frame.node devices)

-- a device that hears it is one of so many
abbrev pub HearsWithin : Fate → ℕ → Type 0
HearsWithin Lost count = Unit {0}
HearsWithin (Dead from to) count = Unit {0}
HearsWithin Missed count = Unit {0}
HearsWithin AtChip count = Unit {0}
HearsWithin (AtDevice place) count = place < count
