-- What an event by which no frame arrives or is heard again leaves of the air: how many frames have landed, and how many marks of acknowledgements are left.
use Rattle.std.proofs.Common.{◌≡◌, ℕ, ◌+◌, Bool, true, false, if◌then◌else◌, List, [], ◌∷◌, nat_le, refl, ap, ◌∙◌}
use Rattle.std.specs.Prelude.{Option, Some, None, slice_get}
use Rattle.std.specs.Option.{option_map}
use Rattle.serial_frame.specs.Stream.{after_tick}
use Rattle.serial_pipes.specs.Events as way
use Rattle.zw_words.specs.declared.side.Side.TheVariants.{Host as by_host, Chip as by_chip}
use Rattle.route_table.specs.declared.route.Route.{Route}
use Rattle.air_frames.specs.declared.frame.Heading.{Heading}
use Rattle.air_frames.specs.declared.frame.Heading.TheVariants.{Outward, Homeward}
use Rattle.air_frames.specs.Frames.{peer_of}
use Rattle.chip_sim.specs.Events.{ChipEvent, Ticked, after, outs}
use Rattle.chip_sim.specs.Did.{judged_all}
use Rattle.chip_sim.specs.declared.out.ChipOut.{ChipOut}
use Rattle.chip_sim.specs.declared.out.ChipOut.TheVariants.{Write, OnAir, NoRoute, AskInfo, Full}
use Rattle.law_wire.specs.device_sim.State.{State}
use Rattle.law_wire.specs.device_sim.Event.{DeviceEvent, Ticks, Wakes, Sets, device_replies}
use Rattle.proof_walk.specs.mesh_sim.declared.event.AirEvent.{AirEvent}
use Rattle.proof_walk.specs.mesh_sim.declared.event.AirEvent.TheVariants as air_event
use Rattle.proof_walk.specs.mesh_sim.Air.{AirState, beginning, departing, is_joined, joining, linking}
use Rattle.proof_walk.specs.mesh_sim.Fates.{place_of}
use Rattle.proof_walk.specs.mesh_sim.Routes.{backwards}
use Rattle.proof_walk.specs.mesh_sim.Steps.{answered, answered_if}
use Rattle.zw_text.specs.declared.entry.Entry.{Entry}
use Rattle.proof_walk.specs.outside_model.State.{OuterState, Outside, Outcome, each, with_chip}
use Rattle.proof_walk.specs.outside_model.Chip.{put_out, chip_does}
use Rattle.proof_walk.specs.outside_model.Air.{deals}
use Rattle.proof_walk.specs.outside_model.Devices.{acts_at, acts_by_hand}
use Rattle.proof_walk.specs.outside_model.Events.{OuterEvent, Host_begins, Host_notes, Chip_takes, Arrives, Gives, Device_ticks, Chip_ticks, Repeats, Wakes_device, Sets_device, Joins, Links, Loses, Loses_acks, Marks_loss, Marks_change, Clears_pipe, begins, outcome, happens as happens_outside, entries as entries_outside, has_entered}
use Rattle.proof_walk.specs.world_model.State.{Machine}
use Rattle.proof_walk.specs.world_model.Events.{Event, happens, May}
use Rattle.proof_walk.specs.Outside.{CoversHost, CoversOuter, IsNote}
use Rattle.proof_walk.proofs.Results.{Gives as GivesSo, ends_go, gives_go, to_chip_goes}
use Rattle.proof_walk.proofs.Machines.{covers_answer, machine_goes_on}
use Rattle.proof_walk.proofs.Times.{each_keeps}
use Rattle.proof_walk.proofs.Entering.{HearsNone}

-- A part of the air that is left alone by frames that go on it, sessions, links, nodes that join and marks of loss; and by marks of acknowledgements, where these are covered.
pub record Left (Covers : OuterEvent → Type 0) (part : AirState → ℕ) : Type 0 where
  pub hears : (event : OuterEvent) → Covers event → HearsNone event
  pub departs : (air : AirState) (node : ℕ) (heading : Heading) (way : Option Route) (payload : List ℕ) → part (departing air node heading way payload) ≡ part air
  pub begins : (air : AirState) (node sessions : ℕ) → part (beginning air node sessions) ≡ part air
  pub links : (air : AirState) (a b : ℕ) (live : Bool) → part (linking air a b live) ≡ part air
  pub joins : (air : AirState) (node : ℕ) (listening : Bool) → part (joining air node listening) ≡ part air
  pub loses : (air : AirState) (count : ℕ) → part (record air { losing = air.losing + count }) ≡ part air
  pub acks : (air : AirState) (count : ℕ) → Covers (Loses_acks count) → part (record air { ack_losing = air.ack_losing + count }) ≡ part air

module _ (Covers : OuterEvent → Type 0) (part : AirState → ℕ) (left : Left Covers part) where
  abbrev in_air : OuterState → ℕ
  in_air o = part o.air

  -- ---- the chip

  put_leaves : (o : OuterState) (out : ChipOut) → in_air (put_out o out).outer ≡ in_air o
  put_leaves o (Write unit) = refl
  put_leaves o (OnAir to route payload) = left.departs o.air to Outward (Some route) payload
  put_leaves o NoRoute = refl
  put_leaves o (AskInfo node) = refl
  put_leaves o Full = refl

  does_leaves : (o : OuterState) (event : ChipEvent) → in_air (chip_does o event).outer ≡ in_air o
  unfolding chip_does
  does_leaves o event = each_keeps in_air put_out put_leaves (with_chip o (after o.chip.state event)) (outs o.chip.state event)

  abbrev Leaves : OuterState → Outcome → Type 0
  Leaves o x = in_air x.outer ≡ in_air o

  results : GivesSo Leaves
  results = record {
    still = λ o p is. ap part is.air;
    both = λ o first next one later. later first.outer ∙ one;
    later = λ o p x is goes. goes ∙ ap part is.air;
    does = λ o event given. does_leaves o event;
    forgotten = λ o a b. refl;
  }

  -- ---- the air and the devices

  deals_leave : (devices : List State) (o : OuterState) (event : AirEvent) → in_air (deals devices o event).outer ≡ in_air o
  deals_leave devices o (air_event.Heard frame) = refl
  deals_leave devices o (air_event.Lost frame) = refl
  deals_leave devices o (air_event.Unheard frame) = refl
  deals_leave devices o (air_event.Sent frame from to route payload) = refl
  deals_leave devices o (air_event.Changed node at) = refl
  deals_leave devices o (air_event.ToChip frame from payload) = to_chip_goes Leaves results o from payload
  deals_leave devices o (air_event.Done frame status dead) = ends_go Leaves results o status dead

  pub all_deals_leave : (devices : List State) (events : List AirEvent) (o : OuterState) → in_air (each (deals devices) o events).outer ≡ in_air o
  all_deals_leave devices events o = each_keeps in_air (deals devices) (deals_leave devices) o events

  answered_leaves : (replies : List (List ℕ)) (air : AirState) (node : ℕ) (over : Option Route) → part (answered air node over replies) ≡ part air
  answered_leaves [] air node over = refl
  answered_leaves (reply ∷ replies) air node over = answered_leaves replies (departing air node Homeward over reply) node over ∙ left.departs air node Homeward over reply

  pub answered_if_leaves : (joined : Bool) (air : AirState) (node : ℕ) (over : Option Route) (replies : List (List ℕ)) → part (answered_if joined air node over replies) ≡ part air
  answered_if_leaves true air node over replies = answered_leaves replies air node over
  answered_if_leaves false air node over replies = refl

  -- where a device acts
  at_leaves : (o : OuterState) (found : Option State) (event : DeviceEvent) (route : Option Route) → in_air (acts_at o found event route).outer ≡ in_air o
  at_leaves o None event route = refl
  at_leaves o (Some device) event route = answered_if_leaves (is_joined o.air device.node) o.air device.node (option_map backwards route) (device_replies device event)

  hand_leaves : (o : OuterState) (devices : List State) (place : Option ℕ) (event : DeviceEvent) (route : Option Route) → in_air (acts_by_hand o devices place event route).outer ≡ in_air o
  hand_leaves o devices None event route = refl
  hand_leaves o devices (Some place) event route = at_leaves o (slice_get devices place) event route

  -- ---- events

  begins_leaves : (air : AirState) (node sessions : ℕ) → part (begins air node sessions) ≡ part air
  begins_leaves air node sessions = by (nat_le (peer_of air.frames node).begun sessions)
    where
      by : (b : Bool) → part (if b then beginning air node sessions else air) ≡ part air
      by true = left.begins air node sessions
      by false = refl

  outcome_leaves : (w : Outside) (event : OuterEvent) → Covers event → HearsNone event → in_air (outcome w event).outer ≡ in_air w.outer
  unfolding outcome
  outcome_leaves w (Host_begins node sessions) covers none = begins_leaves w.outer.air node sessions
  outcome_leaves w (Chip_takes count rest ways) covers none =
      each_keeps in_air chip_does does_leaves (record w.outer { to_chip = way.after w.outer.to_chip (way.Takes count); chip = record { decoder = rest; state = w.outer.chip.state } }) (judged_all ways)
  outcome_leaves w (Arrives drawn route) covers none = absurd none
  outcome_leaves w (Gives route) covers none = gives_go Leaves results w.outer w.devices w.outer.due route
  outcome_leaves w (Device_ticks place drawn route) covers none = at_leaves w.outer (slice_get w.devices place) (Ticks drawn) route
  outcome_leaves w Chip_ticks covers none = does_leaves (record w.outer { chip = record { decoder = after_tick w.outer.chip.decoder; state = w.outer.chip.state } }) Ticked
  outcome_leaves w (Repeats number drawn route) covers none = absurd none
  outcome_leaves w (Wakes_device node route) covers none = hand_leaves w.outer w.devices (place_of node w.devices) Wakes route
  outcome_leaves w (Sets_device node value route) covers none = hand_leaves w.outer w.devices (place_of node w.devices) (Sets value) route
  outcome_leaves w (Joins node) covers none = left.joins w.outer.air node _
  outcome_leaves w (Links a b live) covers none = left.links w.outer.air a b live
  outcome_leaves w (Loses count) covers none = left.loses w.outer.air count
  outcome_leaves w (Loses_acks count) covers none = left.acks w.outer.air count covers
  outcome_leaves w (Marks_loss by_host) covers none = refl
  outcome_leaves w (Marks_loss by_chip) covers none = refl
  outcome_leaves w (Marks_change by_host garble) covers none = refl
  outcome_leaves w (Marks_change by_chip garble) covers none = refl
  outcome_leaves w (Clears_pipe by_host) covers none = refl
  outcome_leaves w (Clears_pipe by_chip) covers none = refl
  outcome_leaves w event covers none = refl

  pub entered_leaves : (o : OuterState) (entered : List Entry) → in_air (has_entered o entered) ≡ in_air o
  entered_leaves o [] = refl
  entered_leaves o (e ∷ entered) = refl

  -- ---- an event of the machine

  abbrev Stays : Outside → List Entry → Outside → Type 0
  Stays w told later = in_air later.outer ≡ in_air w.outer

  event_leaves : (w : Outside) (event : OuterEvent) → Covers event → Stays w (entries_outside w event) (happens_outside w event)
  event_leaves w event covers = entered_leaves (outcome w event).outer (outcome w event).entries ∙ outcome_leaves w event covers (left.hears event covers)

  pub machine_leaves : (host : CoversHost Covers) → ((node sessions : ℕ) → Covers (Host_begins node sessions)) → ((note : Entry) → IsNote note → Covers (Host_notes note))
      → (m : Machine) (event : Event) → CoversOuter Covers event → May m event → in_air (happens m event).outside.outer ≡ in_air m.outside.outer
  machine_leaves host begun notes m event covers may =
      machine_goes_on Covers host begun Stays (λ w. refl) (λ w u v xs ys first later. later ∙ first) event_leaves m event covers (covers_answer Covers notes event) may
