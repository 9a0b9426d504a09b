-- Each event moves at most one device, by one event of that device.
use Rattle.std.proofs.Common.{◌≡◌, ℕ, inl, inr, List, Option, Some, None, refl}
use Rattle.std.specs.Prelude.{slice_get}
use Rattle.route_table.specs.declared.route.Route.{Route}
use Rattle.law_transcript.specs.device_sim.State.{State}
use Rattle.law_transcript.specs.device_sim.Event.{DeviceEvent, Hears, Ticks, Wakes, Sets}
use Rattle.air_frames.specs.declared.frame.Heading.{Heading}
use Rattle.air_frames.specs.declared.frame.Heading.TheVariants.{Outward, Homeward}
use Rattle.air_frames.specs.Flown.{Flown}
use Rattle.air_frames.specs.Frames.{next_of, remembered}
use Rattle.air_frames.specs.Ages.{refusal_of}
use Rattle.air_frames.specs.declared.ages.Refusal.{Refusal}
use Rattle.world_model.specs.mesh_sim.declared.fate.Fate.{Fate}
use Rattle.world_model.specs.mesh_sim.declared.fate.Fate.TheVariants.{Lost, Dead, Missed, AtChip, AtDevice}
use Rattle.world_model.specs.mesh_sim.Fates.{Mesh, place_of, listener_of, fate_of}
use Rattle.world_model.specs.mesh_sim.Steps.{heard_at, heard_again, landed, acknowledged, arriving_as, arriving, repeating_by, repeating, mesh_after}
use Rattle.world_model.specs.mesh_sim.Steps as mesh
use Rattle.world_model.specs.outside_model.State.{Outside}
use Rattle.world_model.specs.outside_model.Devices.{device_set, set_by_hand}
use Rattle.world_model.specs.outside_model.Events.{OuterEvent, Arrives, Device_ticks, Repeats, Wakes_device, Sets_device, mesh_of, devices_repeated, devices_after}
use Rattle.proof_device.specs.GoingOn.{MovesOne}

stays : (devices : List State) → MovesOne devices devices
stays devices = inl refl

-- the device at a place, where there is one
set_moves : (devices : List State) (place : ℕ) (found : Option State) (event : DeviceEvent) → slice_get devices place ≡ found → MovesOne devices (device_set devices place found event)
set_moves devices place None event e = stays devices
set_moves devices place (Some device) event e = inr (record { place = place; device = device; event = event; stood = e; stands = refl })

hand_moves : (devices : List State) (place : Option ℕ) (event : DeviceEvent) → MovesOne devices (set_by_hand devices place event)
hand_moves devices None event = stays devices
hand_moves devices (Some place) event = set_moves devices place (slice_get devices place) event refl

-- a frame
heard_moves : (m : Mesh) (place : ℕ) (found : Option State) (node : ℕ) (route : Option Route) (event : DeviceEvent) → slice_get m.devices place ≡ found
    → MovesOne m.devices (heard_at m place found node route event).devices
heard_moves m place None node route event e = stays m.devices
heard_moves m place (Some device) node route event e = inr (record { place = place; device = device; event = event; stood = e; stands = refl })

fate_moves : (m : Mesh) (frame : Flown) (fate : Fate) (drawn : List ℕ) (route : Option Route) → MovesOne m.devices (arriving_as m frame fate drawn route).devices
fate_moves m frame Lost drawn route = stays m.devices
fate_moves m frame (Dead from to) drawn route = stays m.devices
fate_moves m frame Missed drawn route = stays m.devices
fate_moves m frame AtChip drawn route = stays m.devices
fate_moves m frame (AtDevice place) drawn route =
    heard_moves (record m { air = landed (acknowledged m.air) }) place (slice_get m.devices place) frame.node route (Hears frame.payload drawn) refl

arrives_moves : (m : Mesh) (frame : Option Flown) (drawn : List ℕ) (route : Option Route) → MovesOne m.devices (arriving m frame drawn route).devices
arrives_moves m None drawn route = stays m.devices
arrives_moves m (Some frame) drawn route = fate_moves m frame (fate_of m.air.network m.devices frame) drawn route

again_moves : (m : Mesh) (place : Option ℕ) (node : ℕ) (route : Option Route) (event : DeviceEvent) → MovesOne m.devices (heard_again m place node route event).devices
again_moves m None node route event = stays m.devices
again_moves m (Some place) node route event = heard_moves m place (slice_get m.devices place) node route event refl

heading_moves : (heading : Heading) (m : Mesh) (frame : Flown) (drawn : List ℕ) (route : Option Route) → MovesOne m.devices (repeating_by heading m frame drawn route).devices
heading_moves Homeward m frame drawn route = stays m.devices
heading_moves Outward m frame drawn route = again_moves m (listener_of frame.node m.devices) frame.node route (Hears frame.payload drawn)

repeated_moves : (m : Mesh) (frame : Option Flown) (drawn : List ℕ) (route : Option Route) → MovesOne m.devices (repeating m frame drawn route).devices
repeated_moves m None drawn route = stays m.devices
repeated_moves m (Some frame) drawn route = heading_moves frame.heading m frame drawn route

repeats_moves : (w : Outside) (refused : Option Refusal) (number : ℕ) (drawn : List ℕ) (route : Option Route) → MovesOne w.devices (devices_repeated w refused (mesh.Repeats number drawn route))
unfolding mesh_after
repeats_moves w (Some refused) number drawn route = stays w.devices
repeats_moves w None number drawn route = repeated_moves (mesh_of w) (remembered w.outer.air.frames number) drawn route

-- an event outside the host
pub one_moves : (w : Outside) (event : OuterEvent) → MovesOne w.devices (devices_after w event)
unfolding devices_after mesh_after
one_moves w (Arrives drawn route) = arrives_moves (mesh_of w) (next_of w.outer.air.frames) drawn route
one_moves w (Repeats number drawn route) = repeats_moves w (refusal_of w.outer.air.frames number) number drawn route
one_moves w (Device_ticks place drawn route) = set_moves w.devices place (slice_get w.devices place) (Ticks drawn) refl
one_moves w (Wakes_device node route) = hand_moves w.devices (place_of node w.devices) Wakes
one_moves w (Sets_device node value route) = hand_moves w.devices (place_of node w.devices) (Sets value)
one_moves w event = stays w.devices
