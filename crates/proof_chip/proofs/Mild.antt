-- Events at which the chip has under way what it had, and the clock stays: all but the beginning of a tick, the chip's taking of bytes, and what comes of frames and results.
use Rattle.std.proofs.Common.{◌≡◌, ℕ, ◌&&◌, nat_le, Bool, true, false, if◌then◌else◌, List, [], ◌∷◌, ◌++◌, length, refl, ap, ◌∙◌}
use Rattle.std.specs.Prelude.{Option, Some, None, slice_get}
use Rattle.std.specs.List.{AllByRecursion}
use Rattle.serial_frame.specs.Stream.{after_tick}
use Rattle.serial_frame.specs.declared.unit.Unit.{Unit as LineUnit}
use Rattle.route_table.specs.declared.route.Route.{Route}
use Rattle.device_sim.specs.State.{State}
use Rattle.device_sim.specs.Event.{DeviceEvent, Ticks, Wakes, Sets}
use Rattle.air_frames.specs.Frames.{remembered}
use Rattle.air_frames.specs.Ages.{refusal_of}
use Rattle.air_frames.specs.declared.ages.Refusal.{Refusal as RepeatRefusal}
use Rattle.chip_sim.specs.State.{ChipState}
use Rattle.chip_sim.specs.Events.{Collides, Heard as chip_hears, Joined, Linked, Ticked, after}
use Rattle.mesh_sim.specs.Fates.{Mesh, place_of}
use Rattle.mesh_sim.specs.Steps.{mesh_after, mesh_outs}
use Rattle.mesh_sim.specs.Steps as mesh
use Rattle.mesh_sim.specs.declared.event.AirEvent.{AirEvent}
use Rattle.mesh_sim.specs.declared.event.AirEvent.TheVariants as air_event
use Rattle.zw_words.specs.declared.side.Side.TheVariants.{Host as by_host, Chip as by_chip}
use Rattle.zw_text.specs.declared.entry.Entry.{Entry}
use Rattle.zw_text.specs.declared.entry.Entry.TheVariants as entry
use Rattle.host_model.specs.State.{HostState}
use Rattle.host_model.specs.Events.{HostEvent}
use Rattle.host_model.specs.Did.{outs_all}
use Rattle.host_model.specs.Outs.{answers}
use Rattle.outside_model.specs.State.{OuterState, Outside, each, silent}
use Rattle.outside_model.specs.Chip.{chip_does}
use Rattle.outside_model.specs.Results.{device_at}
use Rattle.outside_model.specs.Nodes.{listens_at}
use Rattle.outside_model.specs.Air.{deals}
use Rattle.outside_model.specs.Devices.{acts_at, acts_by_hand}
use Rattle.outside_model.specs.Events.{OuterEvent, Begins_line, Begins_tick, Host_writes, Host_takes as host_takes, Host_notes, Host_begins, Chip_takes, Arrives, Gives, Device_ticks, Chip_ticks, Repeats, Wakes_device, Sets_device, Joins, Discovers, Marks_loss, Marks_change, Clears_pipe, Collides_next, has_entered, mesh_of, outcome, repeats, entries as entries_outside, happens as happens_outside}
use Rattle.outside_model.specs.Did.{happens_all as happens_all_outside, entries_all as entries_all_outside}
use Rattle.world_model.specs.State.{Machine, begun_in, host_does, routed}
use Rattle.world_model.specs.Events.{Event, Outside_does, Host_does, Host_takes, Decoder_ticks, Refuses, Shows_values, Restarts, happens, notes}
use Rattle.proof_air.specs.proof_walk.Outside.{CoversOuter, IsNote}
use Rattle.proof_air.proofs.Machines.{answers_keep, any_told, outs_keep}
use Rattle.proof_air.proofs.Times.{does_chip, outcome_time}
use Rattle.proof_chip.specs.Sending.{IsMild}
use Rattle.proof_chip.proofs.Acting.{repeats_are}
use Rattle.proof_chip.proofs.Learning.{discovers_keep, joins_keep}
use Rattle.proof_air.proofs.Machines.{any_units}

-- the chip has the same under way, and the clock is the same
abbrev pub IsAlike : OuterState → OuterState → Type 0
IsAlike o p = (p.chip.state.sending ≡ o.chip.state.sending) × (p.clock ≡ o.clock)

-- ---- what none of these events changes of the chip

-- something of it that stays where a node joins, and where it learns of a link, ticks, hears a payload, or is to collide
pub record IsKept {S : Type 0} (of : ChipState → S) : Type 0 where
  pub joined : (s : ChipState) (node : ℕ) (listening : Bool) → of (after s (Joined node listening)) ≡ of s
  pub linked : (s : ChipState) (a b : ℕ) (live : Bool) → of (after s (Linked a b live)) ≡ of s
  pub ticked : (s : ChipState) → of (after s Ticked) ≡ of s
  pub heard : (s : ChipState) (node : ℕ) (payload : List ℕ) → of (after s (chip_hears node payload)) ≡ of s
  pub collides : (s : ChipState) → of (after s Collides) ≡ of s

-- no frame of the chip ends
abbrev IsNoEnd : AirEvent → Type 0
IsNoEnd (air_event.Done frame status dead) = ⊥
IsNoEnd event = Unit {0}

repeats_end : (there : Mesh) (number : ℕ) (drawn : List ℕ) (route : Option Route) → AllByRecursion IsNoEnd (mesh_outs there (mesh.Repeats number drawn route))
unfolding mesh_outs
repeats_end there number drawn route =
    repeats_are IsNoEnd (λ node. Unit {0}) (λ n. tt) (λ node at. tt) (λ n from payload. tt) (λ air node way reply ok. tt) there number (remembered there.air.frames number) drawn route (λ node joins. tt)

module _ {S : Type 0} (of : ChipState → S) (kept : IsKept of) where
  abbrev KeepsIt : OuterState → OuterState → Type 0
  KeepsIt o p = of p.chip.state ≡ of o.chip.state

  deal_keeps : (there : List State) (o : OuterState) (event : AirEvent) → IsNoEnd event → KeepsIt o (deals there o event).outer
  deal_keeps there o (air_event.Heard frame) no_end = refl
  deal_keeps there o (air_event.Lost frame) no_end = refl
  deal_keeps there o (air_event.Unheard frame) no_end = refl
  deal_keeps there o (air_event.Sent frame from to route payload) no_end = refl
  deal_keeps there o (air_event.Changed node at) no_end = refl
  deal_keeps there o (air_event.ToChip frame from payload) no_end = by (nat_le 1 (length payload) && nat_le (length payload) 46)
    where
      by : (b : Bool) → KeepsIt o (if b then chip_does o (chip_hears from payload) else silent o).outer
      by true = ap of (does_chip o (chip_hears from payload)) ∙ kept.heard o.chip.state from payload
      by false = refl
  deal_keeps there o (air_event.Done frame status dead) no_end = absurd no_end

  all_keep : (there : List State) (events : List AirEvent) (o : OuterState) → AllByRecursion IsNoEnd events → KeepsIt o (each (deals there) o events).outer
  all_keep there [] o no_end = refl
  all_keep there (event ∷ events) o no_end = all_keep there events (deals there o event).outer no_end.1 ∙ deal_keeps there o event no_end.0

  repeats_keep : (w : Outside) (refused : Option RepeatRefusal) (number : ℕ) (drawn : List ℕ) (route : Option Route) → KeepsIt w.outer (repeats w refused (mesh.Repeats number drawn route)).outer
  repeats_keep w (Some refused) number drawn route = refl
  repeats_keep w None number drawn route =
      let step = mesh.Repeats number drawn route in
      all_keep (mesh_after (mesh_of w) step).devices (mesh_outs (mesh_of w) step) (record w.outer { air = (mesh_after (mesh_of w) step).air }) (repeats_end (mesh_of w) number drawn route)

  at_keeps : (o : OuterState) (device : Option State) (event : DeviceEvent) (route : Option Route) → KeepsIt o (acts_at o device event route).outer
  at_keeps o None event route = refl
  at_keeps o (Some device) event route = refl

  hand_keeps : (o : OuterState) (devices : List State) (place : Option ℕ) (event : DeviceEvent) (route : Option Route) → KeepsIt o (acts_by_hand o devices place event route).outer
  hand_keeps o devices None event route = refl
  hand_keeps o devices (Some place) event route = at_keeps o (slice_get devices place) event route

  pub outcome_keeps : (w : Outside) (event : OuterEvent) → IsMild event → KeepsIt w.outer (outcome w event).outer
  unfolding outcome
  outcome_keeps w (Chip_takes count rest ways) mild = absurd mild
  outcome_keeps w (Arrives drawn route) mild = absurd mild
  outcome_keeps w (Gives route) mild = absurd mild
  outcome_keeps w (Device_ticks place drawn route) mild = at_keeps w.outer (slice_get w.devices place) (Ticks drawn) route
  outcome_keeps w Chip_ticks mild =
      ap of (does_chip (record w.outer { chip = record { decoder = after_tick w.outer.chip.decoder; state = w.outer.chip.state } }) Ticked) ∙ kept.ticked w.outer.chip.state
  outcome_keeps w (Repeats number drawn route) mild = repeats_keep w (refusal_of w.outer.air.frames number) number drawn route
  outcome_keeps w (Wakes_device node route) mild = hand_keeps w.outer w.devices (place_of node w.devices) Wakes route
  outcome_keeps w (Sets_device node value route) mild = hand_keeps w.outer w.devices (place_of node w.devices) (Sets value) route
  outcome_keeps w (Joins node) mild =
      let listening : Bool = listens_at (device_at w.devices (place_of node w.devices)) in
      joins_keep of kept.linked w.outer node listening ∙ kept.joined w.outer.chip.state node listening
  outcome_keeps w Discovers mild = discovers_keep of kept.linked w.outer
  outcome_keeps w (Marks_loss by_host) mild = refl
  outcome_keeps w (Marks_loss by_chip) mild = refl
  outcome_keeps w (Marks_change by_host garble) mild = refl
  outcome_keeps w (Marks_change by_chip garble) mild = refl
  outcome_keeps w (Clears_pipe by_host) mild = refl
  outcome_keeps w (Clears_pipe by_chip) mild = refl
  outcome_keeps w Collides_next mild = kept.collides w.outer.chip.state
  outcome_keeps w event mild = refl

-- ---- events outside the host

-- the chip has under way what it had
pub outcome_sending : (w : Outside) (event : OuterEvent) → IsMild event → (outcome w event).outer.chip.state.sending ≡ w.outer.chip.state.sending
outcome_sending w event mild =
    outcome_keeps (λ (s : ChipState). s.sending)
    (record { joined = λ s node listening. refl; linked = λ s a b live. refl; ticked = λ s. refl; heard = λ s node payload. refl; collides = λ s. refl }) w event mild

outcome_clock : (w : Outside) (event : OuterEvent) → IsMild event → (outcome w event).outer.clock ≡ w.outer.clock
unfolding outcome
outcome_clock w Begins_line mild = refl
outcome_clock w Begins_tick mild = absurd mild
outcome_clock w event mild = ap (λ (t : Bool × Bool × ℕ). t.2) (outcome_time w event tt)

pub entered_alike : (p : OuterState) (told : List Entry) → IsAlike p (has_entered p told)
entered_alike p [] = (refl, refl)
entered_alike p (first ∷ told) = (refl, refl)

alike_then : (a b c : OuterState) → IsAlike a b → IsAlike b c → IsAlike a c
alike_then a b c first later = (later.0 ∙ first.0, later.1 ∙ first.1)

outer_alike : (w : Outside) (event : OuterEvent) → IsMild event → IsAlike w.outer (happens_outside w event).outer
outer_alike w event mild =
    alike_then w.outer (outcome w event).outer (happens_outside w event).outer (outcome_sending w event mild, outcome_clock w event mild) (entered_alike (outcome w event).outer (outcome w event).entries)

-- ---- events of the host

abbrev Keeps : Outside → List Entry → Outside → Type 0
Keeps w told later = IsAlike w.outer later.outer

keeps_none : (w : Outside) → Keeps w [] w
keeps_none w = (refl, refl)

keeps_both : (w u v : Outside) (xs ys : List Entry) → Keeps w xs u → Keeps u ys v → Keeps w (xs ++ ys) v
keeps_both w u v xs ys first later = alike_then w.outer u.outer v.outer first later

writes_keep : (w : Outside) (unit : LineUnit) → Unit {0} → Keeps w (entries_outside w (Host_writes unit)) (happens_outside w (Host_writes unit))
writes_keep w unit any = outer_alike w (Host_writes unit) tt

note_keeps : (w : Outside) (note : Entry) → IsNote note → begun_in note ≡ None → Unit {0} → Keeps w (entries_outside w (Host_notes note)) (happens_outside w (Host_notes note))
note_keeps w note is unbegun any = outer_alike w (Host_notes note) tt

session_keeps : (w : Outside) (node session command : ℕ)
    → Keeps w (entries_outside w (Host_begins node session) ++ entries_outside (happens_outside w (Host_begins node session)) (Host_notes (entry.Begin node session command)))
    (happens_outside (happens_outside w (Host_begins node session)) (Host_notes (entry.Begin node session command)))
session_keeps w node session command =
    let later : Outside = happens_outside w (Host_begins node session) in
    let told : Entry = entry.Begin node session command in
    alike_then w.outer later.outer (happens_outside later (Host_notes told)).outer (outer_alike w (Host_begins node session) tt) (outer_alike later (Host_notes told) tt)

host_keeps : (w : Outside) (h : HostState) (events : List HostEvent) → Keeps w (entries_all_outside w (routed (outs_all h events))) (happens_all_outside w (routed (outs_all h events)))
host_keeps w h events = outs_keep (λ unit. Unit {0}) (λ note. Unit {0}) Keeps keeps_none keeps_both writes_keep note_keeps session_keeps (λ note is. tt) w h events (any_units (outs_all h events))

-- ---- any event

pub event_alike : (m : Machine) (event : Event) → CoversOuter IsMild event → IsAlike m.outside.outer (happens m event).outside.outer
unfolding happens
event_alike m (Outside_does event) mild = outer_alike m.outside event mild
event_alike m (Host_does event) mild =
    let later : Outside = (host_does m (event ∷ [])).outside in
    alike_then m.outside.outer later.outer (happens_all_outside later (notes (answers m.host.state event))).outer (host_keeps m.outside m.host.state (event ∷ []))
    (answers_keep (λ unit. Unit {0}) (λ note. Unit {0}) Keeps keeps_none keeps_both writes_keep note_keeps session_keeps later m.host.state event (any_told (answers m.host.state event)))
event_alike m (Host_takes count rest items events) mild =
    let later : Outside = happens_outside m.outside (host_takes count) in
    alike_then m.outside.outer later.outer (happens_all_outside later (routed (outs_all m.host.state events))).outer (outer_alike m.outside (host_takes count) tt) (host_keeps later m.host.state events)
event_alike m Decoder_ticks mild = (refl, refl)
event_alike m (Refuses line refusal) mild = outer_alike m.outside _ tt
event_alike m (Shows_values node) mild = outer_alike m.outside _ tt
event_alike m (Restarts state) mild = (refl, refl)
