-- The `dev` entries of an event are the changes that it made.
use Rattle.std.proofs.Common.{◌≡◌, ℕ, ◌+◌, inl, List, [], ◌∷◌, ◌++◌, true, false, Option, Some, None, refl, ap, sym, append-nil}
use Rattle.std.specs.Prelude.{slice_get, slice_set}
use Rattle.std.specs.List.{flat_map}
use Rattle.law_transcript.specs.zw_text.declared.entry.Entry.{Entry}
use Rattle.law_transcript.specs.zw_text.Transcript.{Made, made}
use Rattle.route_table.specs.declared.route.Route.{Route}
use Rattle.law_transcript.specs.device_sim.State.{State}
use Rattle.law_transcript.specs.device_sim.Event.{DeviceEvent, Hears, Ticks, Wakes, Sets, device_after}
use Rattle.air_frames.specs.declared.frame.Heading.{Heading}
use Rattle.air_frames.specs.declared.frame.Heading.TheVariants.{Outward, Homeward}
use Rattle.air_frames.specs.Flown.{Flown}
use Rattle.air_frames.specs.Frames.{next_of, remembered}
use Rattle.air_frames.specs.Ages.{refusal_of}
use Rattle.air_frames.specs.declared.ages.Refusal.{Refusal}
use Rattle.air_frames.specs.declared.ages.Refusal.TheVariants.{NeverSent, Forgotten, Stale}
use Rattle.world_model.specs.mesh_sim.declared.fate.Fate.{Fate}
use Rattle.world_model.specs.mesh_sim.declared.fate.Fate.TheVariants.{Lost, Dead, Missed, AtChip, AtDevice}
use Rattle.world_model.specs.mesh_sim.declared.event.AirEvent.{AirEvent}
use Rattle.world_model.specs.mesh_sim.declared.event.AirEvent.TheVariants as air_event
use Rattle.world_model.specs.mesh_sim.Fates.{Mesh, place_of, listener_of, fate_of, dead_hop_of}
use Rattle.world_model.specs.mesh_sim.Steps.{AirStep, done_of, status_of, heard_at, outs_at, landed, acknowledged, arriving_as, arriving, arrival_outs_as, arrival_outs, heard_again, outs_again, repeating_by, repeating, repeat_outs_by, repeat_outs, mesh_after, mesh_outs}
use Rattle.world_model.specs.mesh_sim.Steps as mesh
use Rattle.world_model.specs.outside_model.State.{OuterState, Outside}
use Rattle.world_model.specs.outside_model.Devices.{acts_at, device_set, acts_by_hand, set_by_hand}
use Rattle.world_model.specs.outside_model.Events.{OuterEvent, Host_notes, Arrives, Device_ticks, Repeats, Wakes_device, Sets_device, is_own, mesh_of, steps, repeats, devices_repeated, outcome, devices_after, entries}
use Rattle.proof_device.proofs.Others.{Others, none_made, made_stamped, outcome_other}
use Rattle.proof_device.proofs.ChangesOutside.{TellsOne, tells_as, acts_told, of_event, each_made, hearing_told, Grows, listener_is, fate_listens}

still : (devices : List State) (told : List Entry) → Others told → TellsOne (λ n. made n told) devices devices
still devices told others = inl (refl, λ n. none_made n told others)

unsaid : (says : ℕ → List Made) (devices : List State) → ((n : ℕ) → says n ≡ []) → TellsOne says devices devices
unsaid says devices none = inl (refl, none)

-- ---- devices by themselves or by hand

at_told : (o : OuterState) (devices : List State) (place : ℕ) (found : Option State) (event : DeviceEvent) (route : Option Route) → slice_get devices place ≡ found
    → TellsOne (λ n. made n (acts_at o found event route).entries) devices (device_set devices place found event)
at_told o devices place None event route e = still devices [] tt
at_told o devices place (Some device) event route e = acts_told devices o place device event route e

hand_told : (o : OuterState) (devices : List State) (place : Option ℕ) (event : DeviceEvent) (route : Option Route)
    → TellsOne (λ n. made n (acts_by_hand o devices place event route).entries) devices (set_by_hand devices place event)
hand_told o devices None event route = still devices (acts_by_hand o devices None event route).entries (tt, tt)
hand_told o devices (Some place) event route = at_told o devices place (slice_get devices place) event route refl

-- ---- frames

done_none : (devices : List State) (n : ℕ) (heading : Heading) (number status : ℕ) (dead : Option (ℕ × ℕ)) → flat_map (of_event devices n) (done_of heading number status dead) ≡ []
done_none devices n Outward number status dead = refl
done_none devices n Homeward number status dead = refl

module _ (grows : Grows) where
  heard_told : (m : Mesh) (number place node : ℕ) (found : Option State) (route : Option Route) (event : DeviceEvent) (end : List AirEvent) → place_of node m.devices ≡ Some place
      → slice_get m.devices place ≡ found → ((devices : List State) (n : ℕ) → flat_map (of_event devices n) end ≡ [])
      → TellsOne (λ n. flat_map (of_event (heard_at m place found node route event).devices n) (outs_at m found number node route event ++ end)) m.devices (heard_at m place found node route event).devices
  heard_told m number place node None route event end found at quiet = unsaid _ m.devices (λ n. quiet m.devices n)
  heard_told m number place node (Some device) route event end found at quiet =
      hearing_told grows m.devices m.air number node place device event route end found at (λ n. quiet (slice_set m.devices place (device_after device event)) n)

  fate_told : (m : Mesh) (number : ℕ) (frame : Flown) (fate : Fate) (drawn : List ℕ) (route : Option Route) → fate_of m.air.network m.devices frame ≡ fate
      → TellsOne (λ n. flat_map (of_event (arriving_as m frame fate drawn route).devices n) (arrival_outs_as m number frame fate drawn route)) m.devices (arriving_as m frame fate drawn route).devices
  fate_told m number frame Lost drawn route e = unsaid _ m.devices (λ n. done_none m.devices n frame.heading number 1 None)
  fate_told m number frame (Dead from to) drawn route e = unsaid _ m.devices (λ n. done_none m.devices n frame.heading number 1 (Some (from, to)))
  fate_told m number frame Missed drawn route e = unsaid _ m.devices (λ n. done_none m.devices n frame.heading number 1 None)
  fate_told m number frame AtChip drawn route e = unsaid _ m.devices (λ n. refl)
  fate_told m number frame (AtDevice place) drawn route e =
      heard_told (record m { air = landed (acknowledged m.air) }) number place frame.node (slice_get m.devices place) route (Hears frame.payload drawn)
      (air_event.Done number (status_of m.air) None ∷ [])
      (listener_is frame.node m.devices place (fate_listens frame.lost (dead_hop_of m.air.network frame) frame.heading (listener_of frame.node m.devices) place e))
      refl (λ devices n. refl)

  arrives_told : (m : Mesh) (frame : Option Flown) (drawn : List ℕ) (route : Option Route)
      → TellsOne (λ n. flat_map (of_event (arriving m frame drawn route).devices n) (arrival_outs m frame drawn route)) m.devices (arriving m frame drawn route).devices
  arrives_told m None drawn route = unsaid _ m.devices (λ n. refl)
  arrives_told m (Some frame) drawn route = fate_told m (m.air.frames.landed + 1) frame (fate_of m.air.network m.devices frame) drawn route refl

  again_told : (m : Mesh) (number node : ℕ) (place : Option ℕ) (route : Option Route) (event : DeviceEvent) → listener_of node m.devices ≡ place
      → TellsOne (λ n. flat_map (of_event (heard_again m place node route event).devices n) (outs_again m place number node route event)) m.devices (heard_again m place node route event).devices
  again_told m number node None route event e = unsaid _ m.devices (λ n. refl)
  again_told m number node (Some place) route event e =
      tells_as _ _ m.devices (heard_again m (Some place) node route event).devices
      (λ n. ap (λ (l : List AirEvent). flat_map (of_event (heard_again m (Some place) node route event).devices n) l) (sym (append-nil (outs_at m (slice_get m.devices place) number node route event))))
      (heard_told m number place node (slice_get m.devices place) route event [] (listener_is node m.devices place e) refl (λ devices n. refl))

  heading_told : (heading : Heading) (m : Mesh) (number : ℕ) (frame : Flown) (drawn : List ℕ) (route : Option Route)
      → TellsOne (λ n. flat_map (of_event (repeating_by heading m frame drawn route).devices n) (repeat_outs_by heading m number frame drawn route)) m.devices (repeating_by heading m frame drawn route).devices
  heading_told Homeward m number frame drawn route = unsaid _ m.devices (λ n. refl)
  heading_told Outward m number frame drawn route = again_told m number frame.node (listener_of frame.node m.devices) route (Hears frame.payload drawn) refl

  repeated_told : (m : Mesh) (number : ℕ) (frame : Option Flown) (drawn : List ℕ) (route : Option Route)
      → TellsOne (λ n. flat_map (of_event (repeating m frame drawn route).devices n) (repeat_outs m number frame drawn route)) m.devices (repeating m frame drawn route).devices
  repeated_told m number None drawn route = unsaid _ m.devices (λ n. refl)
  repeated_told m number (Some frame) drawn route = heading_told frame.heading m number frame drawn route

  -- a step of the air, as it is told
  step_told : (w : Outside) (step : AirStep)
      → TellsOne (λ n. flat_map (of_event (mesh_after (mesh_of w) step).devices n) (mesh_outs (mesh_of w) step)) w.devices (mesh_after (mesh_of w) step).devices
      → TellsOne (λ n. made n (steps w step).entries) w.devices (mesh_after (mesh_of w) step).devices
  step_told w step told = tells_as _ _ w.devices (mesh_after (mesh_of w) step).devices
      (λ n. each_made (mesh_after (mesh_of w) step).devices (record w.outer { air = (mesh_after (mesh_of w) step).air }) n (mesh_outs (mesh_of w) step)) told

  arrival_told : (w : Outside) (drawn : List ℕ) (route : Option Route)
      → TellsOne (λ n. made n (steps w (mesh.Arrives drawn route)).entries) w.devices (mesh_after (mesh_of w) (mesh.Arrives drawn route)).devices
  unfolding mesh_after mesh_outs
  arrival_told w drawn route = step_told w (mesh.Arrives drawn route) (arrives_told (mesh_of w) (next_of w.outer.air.frames) drawn route)

  repeats_told : (w : Outside) (refused : Option Refusal) (number : ℕ) (drawn : List ℕ) (route : Option Route)
      → TellsOne (λ n. made n (repeats w refused (mesh.Repeats number drawn route)).entries) w.devices (devices_repeated w refused (mesh.Repeats number drawn route))
  unfolding mesh_after mesh_outs
  repeats_told w (Some NeverSent) number drawn route = still w.devices (repeats w (Some NeverSent) (mesh.Repeats number drawn route)).entries (tt, tt)
  repeats_told w (Some Forgotten) number drawn route = still w.devices (repeats w (Some Forgotten) (mesh.Repeats number drawn route)).entries (tt, tt)
  repeats_told w (Some (Stale later)) number drawn route = still w.devices (repeats w (Some (Stale later)) (mesh.Repeats number drawn route)).entries (tt, tt)
  repeats_told w None number drawn route = step_told w (mesh.Repeats number drawn route) (repeated_told (mesh_of w) number (remembered w.outer.air.frames number) drawn route)

  -- ---- events

  outcome_told : (w : Outside) (event : OuterEvent) → is_own event ≡ true → TellsOne (λ n. made n (outcome w event).entries) w.devices (devices_after w event)
  unfolding outcome devices_after
  outcome_told w (Host_notes entry) own = absurd (none own)
    where
      none : false ≡ true → ⊥
      none e = cc
  outcome_told w (Arrives drawn route) own = arrival_told w drawn route
  outcome_told w (Device_ticks place drawn route) own = at_told w.outer w.devices place (slice_get w.devices place) (Ticks drawn) route refl
  outcome_told w (Repeats number drawn route) own = repeats_told w (refusal_of w.outer.air.frames number) number drawn route
  outcome_told w (Wakes_device node route) own = hand_told w.outer w.devices (place_of node w.devices) Wakes route
  outcome_told w (Sets_device node value route) own = hand_told w.outer w.devices (place_of node w.devices) (Sets value) route
  outcome_told w event own = still w.devices (outcome w event).entries (outcome_other w event tt (λ acts. acts))

  -- an event that is not the host's
  pub own_told : (w : Outside) (event : OuterEvent) → is_own event ≡ true → TellsOne (λ n. made n (entries w event)) w.devices (devices_after w event)
  own_told w event own = tells_as _ _ w.devices (devices_after w event) (λ n. made_stamped n (outcome w event).outer (outcome w event).entries) (outcome_told w event own)
