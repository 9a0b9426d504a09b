-- What is so of the air stays so where frames are heard, if it does where a joined node's device answers, where a frame lands and where it is acknowledged.
use Rattle.std.proofs.Common.{◌≡◌, ℕ, Bool, true, false, List, [], ◌∷◌, refl}
use Rattle.std.specs.Prelude.{Option, Some, None, option_map, slice_get}
use Rattle.route_table.specs.declared.route.Route.{Route}
use Rattle.air_frames.specs.declared.frame.Heading.{Heading}
use Rattle.air_frames.specs.declared.frame.Heading.TheVariants.{Outward, Homeward}
use Rattle.air_frames.specs.Flown.{Flown}
use Rattle.air_frames.specs.Frames.{next_of, remembered}
use Rattle.device_sim.specs.State.{State}
use Rattle.device_sim.specs.Event.{DeviceEvent, Hears, device_replies}
use Rattle.mesh_sim.specs.declared.fate.Fate.{Fate}
use Rattle.mesh_sim.specs.declared.fate.Fate.TheVariants.{Lost, Dead, Missed, AtChip, AtDevice}
use Rattle.mesh_sim.specs.Air.{AirState, departing, is_joined}
use Rattle.mesh_sim.specs.Fates.{Mesh, fate_of, listener_of}
use Rattle.mesh_sim.specs.Routes.{backwards}
use Rattle.mesh_sim.specs.Steps.{AirStep, answered, answered_if, heard_at, heard_again, arriving_as, arriving, repeating_by, repeating, landed, acknowledged, mesh_after}
use Rattle.mesh_sim.specs.Steps as mesh
use Rattle.proof_work.specs.proof_walk.Outside.{IsHearing}

-- P stays so, of nodes that may speak; and joined nodes may
pub record Keeps (P : AirState → Type 0) (MaySpeak : ℕ → Type 0) : Type 0 where
  pub departs : (air : AirState) (node : ℕ) (way : Option Route) (reply : List ℕ) → MaySpeak node → P air → P (departing air node Homeward way reply)
  pub joined : (air : AirState) (node : ℕ) → is_joined air node ≡ true → P air → MaySpeak node
  pub lands : (air : AirState) → P air → P (landed air)
  pub acknowledges : (air : AirState) → P air → P (acknowledged air)

module _ (P : AirState → Type 0) (MaySpeak : ℕ → Type 0) (keeps : Keeps P MaySpeak) where
  replied : (air : AirState) (node : ℕ) (way : Option Route) (replies : List (List ℕ)) → MaySpeak node → P air → P (answered air node way replies)
  replied air node way [] may is = is
  replied air node way (reply ∷ replies) may is = replied (departing air node Homeward way reply) node way replies may (keeps.departs air node way reply may is)

  pub replied_if : (b : Bool) (air : AirState) (node : ℕ) (way : Option Route) (replies : List (List ℕ)) → is_joined air node ≡ b → P air → P (answered_if b air node way replies)
  replied_if true air node way replies joined is = replied air node way replies (keeps.joined air node joined is) is
  replied_if false air node way replies joined is = is

  heard_keeps : (at : Mesh) (place : ℕ) (device : Option State) (node : ℕ) (route : Option Route) (event : DeviceEvent) → P at.air → P (heard_at at place device node route event).air
  heard_keeps at place None node route event is = is
  heard_keeps at place (Some device) node route event is = replied_if (is_joined at.air node) at.air node (option_map backwards route) (device_replies device event) refl is

  arrives_keeps : (at : Mesh) (frame : Flown) (fate : Fate) (drawn : List ℕ) (route : Option Route) → P at.air → P (arriving_as at frame fate drawn route).air
  arrives_keeps at frame Lost drawn route is = keeps.lands at.air is
  arrives_keeps at frame (Dead from to) drawn route is = keeps.lands at.air is
  arrives_keeps at frame Missed drawn route is = keeps.lands at.air is
  arrives_keeps at frame AtChip drawn route is = keeps.lands at.air is
  arrives_keeps at frame (AtDevice place) drawn route is =
      heard_keeps (record at { air = landed (acknowledged at.air) }) place (slice_get at.devices place) frame.node route (Hears frame.payload drawn)
      (keeps.lands (acknowledged at.air) (keeps.acknowledges at.air is))

  next_keeps : (at : Mesh) (frame : Option Flown) (drawn : List ℕ) (route : Option Route) → P at.air → P (arriving at frame drawn route).air
  next_keeps at None drawn route is = is
  next_keeps at (Some frame) drawn route is = arrives_keeps at frame (fate_of at.air.network at.devices frame) drawn route is

  again_keeps : (at : Mesh) (place : Option ℕ) (node : ℕ) (route : Option Route) (event : DeviceEvent) → P at.air → P (heard_again at place node route event).air
  again_keeps at None node route event is = is
  again_keeps at (Some place) node route event is = heard_keeps at place (slice_get at.devices place) node route event is

  repeats_keeps : (heading : Heading) (at : Mesh) (frame : Flown) (drawn : List ℕ) (route : Option Route) → P at.air → P (repeating_by heading at frame drawn route).air
  repeats_keeps Homeward at frame drawn route is = is
  repeats_keeps Outward at frame drawn route is = again_keeps at (listener_of frame.node at.devices) frame.node route (Hears frame.payload drawn) is

  repeated_keeps : (at : Mesh) (frame : Option Flown) (drawn : List ℕ) (route : Option Route) → P at.air → P (repeating at frame drawn route).air
  repeated_keeps at None drawn route is = is
  repeated_keeps at (Some frame) drawn route is = repeats_keeps frame.heading at frame drawn route is

  pub steps_keep : (at : Mesh) (step : AirStep) → IsHearing step → P at.air → P (mesh_after at step).air
  unfolding mesh_after
  steps_keep at (mesh.Arrives drawn route) hearing is = next_keeps at (next_of at.air.frames) drawn route is
  steps_keep at (mesh.Repeats number drawn route) hearing is = repeated_keeps at (remembered at.air.frames number) drawn route is
  steps_keep at step hearing is = absurd hearing
