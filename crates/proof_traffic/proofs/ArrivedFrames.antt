-- The next frame on the air arrives: it is there no longer, and only frames of devices come after the others.
use Rattle.std.proofs.Common.{◌≡◌, ℕ, Option, Some, None, List, ◌∷◌, refl, sym, subst}
use Rattle.std.specs.Prelude.{option_map, slice_get}
use Rattle.route_table.specs.declared.route.Route.{Route}
use Rattle.air_frames.specs.Flown.{Flown}
use Rattle.air_frames.specs.Frames.{FramesState, landing}
use Rattle.air_frames.specs.History.{Mark}
use Rattle.proof_traffic.specs.Flights.{Fly}
use Rattle.proof_device.specs.device_sim.State.{State}
use Rattle.proof_device.specs.device_sim.Event.{DeviceEvent, Hears, device_replies}
use Rattle.proof_device.specs.mesh_sim.Air.{AirState, is_joined}
use Rattle.proof_device.specs.mesh_sim.Fates.{Mesh, fate_of}
use Rattle.proof_device.specs.mesh_sim.Routes.{backwards}
use Rattle.proof_device.specs.mesh_sim.declared.fate.Fate.{Fate}
use Rattle.proof_device.specs.mesh_sim.declared.fate.Fate.TheVariants as fate
use Rattle.proof_device.specs.mesh_sim.Steps as mesh
use Rattle.proof_device.specs.mesh_sim.Steps.{landed, acknowledged, heard_at, arriving_as, mesh_after}
use Rattle.proof_device.specs.outside_model.State.{Outside}
use Rattle.proof_device.specs.outside_model.Events.{Arrives, mesh_of, happens}
pub use Rattle.proof_traffic.proofs.Arrivals.{Homes}
use Rattle.proof_traffic.proofs.Arrivals.{answered_if_homes, flight_within, none_home}
use Rattle.proof_traffic.proofs.Parts.{Airs}
use Rattle.proof_traffic.proofs.ChipNotices.{arrived_air}

-- ---- each frame is of a node that has a place

module _ (air : Airs) where
  -- ---- a device answers

  -- ---- one frame arrives

  module _ (log : List Mark) (flight : Flown) (later : List Flown) (m : Mesh) (fly : Fly log (flight ∷ later) m.air.frames) where
    lands_home : (a : AirState) → a.frames ≡ landing m.air.frames → Homes log later a.frames
    lands_home a is = none_home log later a.frames (subst (λ (fs : FramesState). Fly log later fs) (sym is) (air.lands log flight later m.air.frames fly))

    hears_home : (place : ℕ) (found : Option State) (event : DeviceEvent) (route : Option Route)
        → Homes log later (heard_at (record { air = landed (acknowledged m.air); devices = m.devices }) place found flight.node route event).air.frames
    hears_home place None event route = lands_home (landed (acknowledged m.air)) refl
    hears_home place (Some device) event route =
        let before : AirState = landed (acknowledged m.air) in
        answered_if_homes air.goes log later (is_joined before flight.node) before flight.node (option_map backwards route) (device_replies device event) (flight_within log flight later m.air.frames fly)
        (air.lands log flight later m.air.frames fly)

    by_fate : (x : Fate) (drawn : List ℕ) (route : Option Route) → Homes log later (arriving_as m flight x drawn route).air.frames
    by_fate fate.Lost drawn route = lands_home (landed m.air) refl
    by_fate (fate.Dead from to) drawn route = lands_home (landed m.air) refl
    by_fate fate.Missed drawn route = lands_home (landed m.air) refl
    by_fate fate.AtChip drawn route = lands_home (landed m.air) refl
    by_fate (fate.AtDevice place) drawn route = hears_home place (slice_get m.devices place) (Hears flight.payload drawn) route

    arrives : (drawn : List ℕ) (route : Option Route) → Homes log later (mesh_after m (mesh.Arrives drawn route)).air.frames
    unfolding mesh_after
    arrives drawn route = rw (air.next log flight later m.air.frames fly) (by_fate (fate_of m.air.network m.devices flight) drawn route)

  pub arrives_home : (log : List Mark) (flight : Flown) (later : List Flown) (w : Outside) (drawn : List ℕ) (route : Option Route) → Fly log (flight ∷ later) w.outer.air.frames
      → Homes log later (happens w (Arrives drawn route)).outer.air.frames
  arrives_home log flight later w drawn route fly =
      subst (λ (a : AirState). Homes log later a.frames) (sym (arrived_air w drawn route)) (arrives log flight later (mesh_of w) fly drawn route)
