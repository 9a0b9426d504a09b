-- What the air tells at a step is of no payload for the chip, or that a frame of a device is heard, and then its payload.
use Rattle.std.proofs.Common.{◌≡◌, ◌⊎◌, ℕ, ◌+◌, List, [], ◌∷◌, ◌++◌, inl, inr, refl}
use Rattle.std.specs.Prelude.{Option, Some, None, slice_get}
use Rattle.std.specs.List.{AllByRecursion}
use Rattle.zw_base.proofs.Each.{all-append}
use Rattle.route_table.specs.declared.route.Route.{Route}
use Rattle.device_sim.specs.State.{State}
use Rattle.device_sim.specs.Event.{DeviceEvent, Hears}
use Rattle.air_frames.specs.declared.frame.Heading.{Heading}
use Rattle.air_frames.specs.declared.frame.Heading.TheVariants.{Outward, Homeward}
use Rattle.air_frames.specs.Flown.{Flown}
use Rattle.air_frames.specs.Frames.{next_of, remembered}
use Rattle.mesh_sim.specs.declared.event.AirEvent.{AirEvent}
use Rattle.mesh_sim.specs.declared.event.AirEvent.TheVariants as tells
use Rattle.mesh_sim.specs.declared.fate.Fate.{Fate}
use Rattle.mesh_sim.specs.declared.fate.Fate.TheVariants.{Lost, Dead, Missed, AtChip, AtDevice}
use Rattle.mesh_sim.specs.Fates.{Mesh, dead_hop_of, fate_of, listener_of}
use Rattle.mesh_sim.specs.Steps.{AirStep, acknowledged, arrival_outs, arrival_outs_as, done_of, landed, mesh_outs, outs_at, repeat_outs, repeat_outs_by, status_of}
use Rattle.mesh_sim.specs.Steps as mesh
use Rattle.zw_text.specs.declared.entry.Entry.{Entry}
use Rattle.zw_text.specs.Transcript.{heard}
use Rattle.law_transcript.proofs.Having.{has_right}
use Rattle.outside_model.specs.State.{Outside}
use Rattle.outside_model.specs.Events.{mesh_of}
use Rattle.proof_air.proofs.ChangesOutside.{fate_home}
use Rattle.proof_air.proofs.Entering.{outs_again_are, outs_at_are}
use Rattle.proof_air.specs.proof_walk.Outside.{IsHearing, nothing}
use Rattle.proof_air.specs.Carrying.{IsHome}
use Rattle.proof_air.specs.Logs.{Tie}
use Rattle.proof_air.proofs.Homes.{again_home, come_after, next_home}
use Rattle.proof_line.proofs.ChipAccounts.{IsNoPayload}

abbrev NoPayloads : List AirEvent → Type 0
NoPayloads events = AllByRecursion IsNoPayload events

-- a frame that heads for the controller is heard, and its payload comes to the chip
pub record HearsOne (past : List Entry) (events : List AirEvent) : Type 0 where
  pub number : ℕ
  pub from : ℕ
  pub payload : List ℕ
  pub are : events ≡ tells.Heard number ∷ tells.ToChip number from payload ∷ []
  pub home : IsHome past number from payload

abbrev pub IsBrought : List Entry → List AirEvent → Type 0
IsBrought past events = NoPayloads events ⊎ HearsOne past events

pub brought_on : (past told : List Entry) (events : List AirEvent) → IsBrought past events → IsBrought (past ++ told) events
brought_on past told events (inl none) = inl none
brought_on past told events (inr one) =
    let come = come_after past told (tells.Heard one.number ∷ tells.ToChip one.number one.from one.payload ∷ [])
    ((has_right (heard past) (one.number ∷ []) one.number (inl refl), one.home), tt) in
    inr (record { number = one.number; from = one.from; payload = one.payload; are = one.are; home = come.0.1 })

-- ---- each step

done_none : (heading : Heading) (number status : ℕ) (dead : Option (ℕ × ℕ)) → NoPayloads (done_of heading number status dead)
done_none Outward number status dead = (tt, tt)
done_none Homeward number status dead = tt

device_none : (base : Mesh) (found : Option State) (number node : ℕ) (route : Option Route) (event : DeviceEvent) → NoPayloads (outs_at base found number node route event)
device_none base found number node route event = outs_at_are IsNoPayload node (λ at. tt) (λ frame over payload. tt) number tt base found route event

module _ (past : List Entry) (w : Outside) (tie : Tie nothing past w) where
  arrives_so : (frame : Flown) (x : Fate) (drawn : List ℕ) (route : Option Route) → next_of w.outer.air.frames ≡ Some frame → fate_of w.outer.air.network w.devices frame ≡ x
      → IsBrought past (arrival_outs_as (mesh_of w) (w.outer.air.frames.landed + 1) frame x drawn route)
  arrives_so frame Lost drawn route next is = inl (tt, done_none frame.heading (w.outer.air.frames.landed + 1) 1 None)
  arrives_so frame (Dead from to) drawn route next is = inl (tt, done_none frame.heading (w.outer.air.frames.landed + 1) 1 (Some (from, to)))
  arrives_so frame Missed drawn route next is = inl (tt, done_none frame.heading (w.outer.air.frames.landed + 1) 1 None)
  arrives_so frame AtChip drawn route next is =
      let heads = fate_home frame.lost (dead_hop_of w.outer.air.network frame) frame.heading (listener_of frame.node w.devices) is in
      inr (record { number = w.outer.air.frames.landed + 1; from = frame.node; payload = frame.payload; are = refl; home = next_home past w tie frame next heads })
  arrives_so frame (AtDevice place) drawn route next is =
      let number : ℕ = w.outer.air.frames.landed + 1 in
      let base : Mesh = record { air = landed (acknowledged w.outer.air); devices = w.devices } in
      let told : List AirEvent = outs_at base (slice_get w.devices place) number frame.node route (Hears frame.payload drawn) in
      inl (all-append IsNoPayload told (tells.Done number (status_of w.outer.air) None ∷ []) (device_none base (slice_get w.devices place) number frame.node route (Hears frame.payload drawn)) (tt, tt))

  arrives_if : (found : Option Flown) (drawn : List ℕ) (route : Option Route) → next_of w.outer.air.frames ≡ found → IsBrought past (arrival_outs (mesh_of w) found drawn route)
  arrives_if None drawn route next = inl tt
  arrives_if (Some frame) drawn route next = arrives_so frame (fate_of w.outer.air.network w.devices frame) drawn route next refl

  again_so : (heading : Heading) (number : ℕ) (frame : Flown) (drawn : List ℕ) (route : Option Route) → remembered w.outer.air.frames number ≡ Some frame → frame.heading ≡ heading
      → IsBrought past (repeat_outs_by heading (mesh_of w) number frame drawn route)
  again_so Homeward number frame drawn route found heads =
      inr (record { number = number; from = frame.node; payload = frame.payload; are = refl; home = again_home past w tie number frame found heads })
  again_so Outward number frame drawn route found heads =
      inl (outs_again_are IsNoPayload frame.node (λ at. tt) (λ frame over payload. tt) number tt (mesh_of w) (listener_of frame.node w.devices) route (Hears frame.payload drawn))

  again_if : (number : ℕ) (found : Option Flown) (drawn : List ℕ) (route : Option Route) → remembered w.outer.air.frames number ≡ found
      → IsBrought past (repeat_outs (mesh_of w) number found drawn route)
  again_if number None drawn route is = inl tt
  again_if number (Some frame) drawn route is = again_so frame.heading number frame drawn route is refl

  pub step_so : (step : AirStep) → IsHearing step → IsBrought past (mesh_outs (mesh_of w) step)
  unfolding mesh_outs
  step_so (mesh.Arrives drawn route) hearing = arrives_if (next_of w.outer.air.frames) drawn route refl
  step_so (mesh.Repeats number drawn route) hearing = again_if number (remembered w.outer.air.frames number) drawn route refl
  step_so step hearing = absurd hearing
