-- A frame that is repeated is heard first, where somebody is there to hear it by the transcript, and else nothing is told.
use Rattle.std.proofs.Common.{◌≡◌, ◌≢◌, ℕ, ◌==◌, ◌||◌, Bool, true, false, if◌then◌else◌, List, [], ◌∷◌, ◌++◌, refl, sym, ap, subst, ◌∙◌}
use Rattle.std.proofs.lemmas.Bool.{eqb-false}
use Rattle.std.specs.Prelude.{Option, Some, None, slice_get, is_some}
use Rattle.std.specs.List.{list_any}
use Rattle.route_table.specs.declared.route.Route.{Route}
use Rattle.device_sim.specs.State.{State}
use Rattle.device_sim.specs.Event.{Hears}
use Rattle.air_frames.specs.declared.frame.Heading.{Heading}
use Rattle.air_frames.specs.declared.frame.Heading.TheVariants.{Outward, Homeward}
use Rattle.air_frames.specs.Ages.{refusal_of}
use Rattle.air_frames.specs.Flown.{Flown}
use Rattle.air_frames.specs.Frames.{remembered}
use Rattle.air_frames.specs.declared.ages.Refusal.{Refusal}
use Rattle.mesh_sim.specs.declared.event.AirEvent.{AirEvent}
use Rattle.mesh_sim.specs.declared.event.AirEvent.TheVariants as air_event
use Rattle.mesh_sim.specs.Fates.{listener_of}
use Rattle.mesh_sim.specs.Steps.{outs_at, outs_again, repeat_outs, repeat_outs_by, MayRepeat, MayHappen, mesh_outs, mesh_after}
use Rattle.mesh_sim.specs.Steps as mesh
use Rattle.zw_text.specs.declared.entry.Entry.{Entry}
use Rattle.zw_text.specs.declared.entry.Entry.TheVariants as entry
use Rattle.zw_text.specs.Transcript.{AirFrame}
use Rattle.law_transcript.specs.Lists.{listed}
use Rattle.law_transcript.specs.Nodes.{controller, device_of}
use Rattle.law_transcript.specs.Repeats.{frame_of}
use Rattle.law_wire.specs.Arriving.{has_listener, hears_again, is_awake}
use Rattle.outside_model.specs.State.{Outside, each}
use Rattle.outside_model.specs.Air.{deals}
use Rattle.outside_model.specs.Events.{Repeats, mesh_of, outcome, repeats}
use Rattle.world_model.specs.State.{Machine}
use Rattle.world_model.specs.Events.{Outside_does, entries}
use Rattle.proof_air.proofs.Entering.{hearing}
use Rattle.proof_air.specs.proof_walk.Outside.{nothing}
use Rattle.proof_air.specs.Logs.{Tie}
use Rattle.proof_air.proofs.Fated.{hearing_none}
use Rattle.proof_air.proofs.Fateless.{TellNoFate}
use Rattle.proof_devices.proofs.FateShown.{IsShown, again_shown, listener_stands}
use Rattle.proof_devices.proofs.Stamped.{enters_first, number_none}

pub only : (b : Bool) → (b || false) ≡ b
only true = refl
only false = refl

-- which end the controller is, by the heading
is_home : (b : Bool) → (if b then Homeward else Outward) ≡ Homeward → b ≡ true
is_home true heads = refl
is_home false heads = absurd cc

is_out : (b : Bool) → (if b then Homeward else Outward) ≡ Outward → b ≡ false
is_out true heads = absurd cc
is_out false heads = refl

-- by whether somebody is there
abbrev pub Again : ℕ → Bool → List AirEvent → Type 0
Again number true events = (rest : List AirEvent) × (events ≡ air_event.Heard number ∷ rest) × TellNoFate rest
Again number false events = events ≡ []

module _ (devices : List State) (past : List Entry) (w : Outside) (number : ℕ) (tie : Tie nothing past w)
    (listens : (node : ℕ) → node ≢ controller → is_some (listener_of node w.devices) ≡ is_awake past (device_of node devices)) where
  abbrev Tells : List AirEvent → Type 0
  Tells events = Again number (hears_again devices past number) events

  tells_as : (b : Bool) (events : List AirEvent) → hears_again devices past number ≡ b → Again number b events → Tells events
  tells_as b events is again = subst (λ (c : Bool). Again number c events) (sym is) again

  hears_is : (shown : AirFrame) → frame_of past number ≡ Some shown → hears_again devices past number ≡ has_listener devices past shown
  hears_is shown found = ap (λ (o : Option AirFrame). list_any (has_listener devices past) (listed o)) found ∙ only (has_listener devices past shown)

  hears_home : (frame : Flown) → IsShown past number frame → frame.heading ≡ Homeward → hears_again devices past number ≡ true
  hears_home frame is heads =
      let receiver : ℕ = is.shown.receiver in
      let home : (receiver == controller) ≡ true = is_home (receiver == controller) (is.heading ∙ heads) in
      hears_is is.shown is.found ∙ ap (λ (b : Bool). b || is_awake past (device_of receiver devices)) home

  hears_out : (frame : Flown) → IsShown past number frame → frame.heading ≡ Outward → hears_again devices past number ≡ is_some (listener_of frame.node w.devices)
  hears_out frame is heads =
      let sender : ℕ = is.shown.sender in
      let receiver : ℕ = is.shown.receiver in
      let away : (receiver == controller) ≡ false = is_out (receiver == controller) (is.heading ∙ heads) in
      let same : receiver ≡ frame.node = ap (λ (b : Bool). if b then sender else receiver) (sym away) ∙ is.node in
      hears_is is.shown is.found
      ∙ (ap (λ (b : Bool). b || is_awake past (device_of receiver devices)) away
      ∙ (ap (λ (n : ℕ). is_awake past (device_of n devices)) same ∙ sym (listens frame.node (λ node. eqb-false receiver controller away (same ∙ node)))))

  -- the device of the node hears it, which stands in the list
  at_place : (node place : ℕ) (payload drawn : List ℕ) (route : Option Route) (found : Option State) → listener_of node w.devices ≡ Some place → slice_get w.devices place ≡ found
      → Again number true (outs_at (mesh_of w) found number node route (Hears payload drawn))
  at_place node place payload drawn route (Some device) listener stands =
      (hearing w.outer.air node route device (Hears payload drawn), refl, hearing_none w.outer.air node route device (Hears payload drawn))
  at_place node place payload drawn route None listener stands = absurd (listener_stands w.devices node place listener stands)

  again_at : (place : Option ℕ) (frame : Flown) (drawn : List ℕ) (route : Option Route) → listener_of frame.node w.devices ≡ place
      → hears_again devices past number ≡ is_some (listener_of frame.node w.devices) → Tells (outs_again (mesh_of w) place number frame.node route (Hears frame.payload drawn))
  again_at None frame drawn route listener hears = tells_as false [] (hears ∙ ap (λ (o : Option ℕ). is_some o) listener) refl
  again_at (Some place) frame drawn route listener hears =
      tells_as true (outs_at (mesh_of w) (slice_get w.devices place) number frame.node route (Hears frame.payload drawn)) (hears ∙ ap (λ (o : Option ℕ). is_some o) listener)
      (at_place frame.node place frame.payload drawn route (slice_get w.devices place) listener refl)

  again_by : (heading : Heading) (frame : Flown) (drawn : List ℕ) (route : Option Route) → IsShown past number frame → frame.heading ≡ heading
      → Tells (repeat_outs_by heading (mesh_of w) number frame drawn route)
  again_by Homeward frame drawn route is heads =
      tells_as true (air_event.Heard number ∷ air_event.ToChip number frame.node frame.payload ∷ []) (hears_home frame is heads) (air_event.ToChip number frame.node frame.payload ∷ [], refl, (tt, tt))
  again_by Outward frame drawn route is heads = again_at (listener_of frame.node w.devices) frame drawn route refl (hears_out frame is heads)

  again_if : (found : Option Flown) (drawn : List ℕ) (route : Option Route) → remembered w.outer.air.frames number ≡ found → MayRepeat (mesh_of w) found route
      → Tells (repeat_outs (mesh_of w) number found drawn route)
  again_if None drawn route is may = absurd may
  again_if (Some frame) drawn route is may = again_by frame.heading frame drawn route (again_shown past w tie number frame is) refl

  pub again_tells : (drawn : List ℕ) (route : Option Route) → MayHappen (mesh_of w) (mesh.Repeats number drawn route) → Tells (mesh_outs (mesh_of w) (mesh.Repeats number drawn route))
  unfolding mesh_outs MayHappen
  again_tells drawn route may = again_if (remembered w.outer.air.frames number) drawn route refl may.1

-- ---- as it is entered

-- what is dealt with of it, where it is not refused
abbrev pub dealt : Outside → ℕ → List ℕ → Option Route → List AirEvent → List Entry
dealt w number drawn route events =
    (each (deals (mesh_after (mesh_of w) (mesh.Repeats number drawn route)).devices) (record w.outer { air = (mesh_after (mesh_of w) (mesh.Repeats number drawn route)).air }) events).entries

pub dealt_is : (w : Outside) (number : ℕ) (drawn : List ℕ) (route : Option Route) → refusal_of w.outer.air.frames number ≡ None
    → (outcome w (Repeats number drawn route)).entries ≡ dealt w number drawn route (mesh_outs (mesh_of w) (mesh.Repeats number drawn route))
unfolding outcome
dealt_is w number drawn route fresh = ap (λ (r : Option Refusal). (repeats w r (mesh.Repeats number drawn route)).entries) fresh

pub heard_first : (m : Machine) (number : ℕ) (drawn : List ℕ) (route : Option Route) (rest : List AirEvent) → m.outside.outer.in_tick ≡ false → refusal_of m.outside.outer.air.frames number ≡ None
    → mesh_outs (mesh_of m.outside) (mesh.Repeats number drawn route) ≡ air_event.Heard number ∷ rest
    → entries m (Outside_does (Repeats number drawn route)) ≡ entry.Heard number ∷ dealt m.outside number drawn route rest
unfolding entries
heard_first m number drawn route rest out fresh is =
    let w : Outside = m.outside in
    let told : List Entry = entry.Heard number ∷ dealt w number drawn route rest in
    enters_first w (Repeats number drawn route) (entry.Heard number) (dealt w number drawn route rest) tt (dealt_is w number drawn route fresh ∙ ap (dealt w number drawn route) is)
    ∙ ap (λ (l : List Entry). l ++ told) (number_none w out)
