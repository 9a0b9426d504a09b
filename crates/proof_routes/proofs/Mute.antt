-- All events but the arrival of a frame enter neither that a frame was not heard nor a link that is forgotten.
use Rattle.std.proofs.Common.{ℕ, List, [], ◌∷◌}
use Rattle.std.specs.Prelude.{Option, Some, None}
use Rattle.std.specs.List.{AllByRecursion}
use Rattle.zw_base.proofs.Each.{all-append, all-weaker}
use Rattle.route_table.specs.declared.route.Route.{Route}
use Rattle.air_frames.specs.Flown.{Flown}
use Rattle.air_frames.specs.Frames.{remembered}
use Rattle.air_frames.specs.Ages.{refusal_of}
use Rattle.air_frames.specs.declared.ages.Refusal.{Refusal as RepeatRefusal}
use Rattle.air_frames.specs.declared.ages.Refusal.TheVariants.{NeverSent, Forgotten, Stale}
use Rattle.air_frames.specs.declared.frame.Heading.{Heading}
use Rattle.air_frames.specs.declared.frame.Heading.TheVariants.{Outward, Homeward}
use Rattle.device_sim.specs.State.{State}
use Rattle.device_sim.specs.Event.{DeviceEvent, Hears}
use Rattle.mesh_sim.specs.Fates.{Mesh, listener_of, place_of}
use Rattle.mesh_sim.specs.Steps.{mesh_after, mesh_outs, outs_at, repeat_outs, repeat_outs_by}
use Rattle.mesh_sim.specs.Steps as mesh
use Rattle.mesh_sim.specs.declared.event.AirEvent.{AirEvent}
use Rattle.mesh_sim.specs.declared.event.AirEvent.TheVariants as air_event
use Rattle.zw_text.specs.declared.entry.Entry.{Entry}
use Rattle.zw_text.specs.declared.entry.Entry.TheVariants as entry
use Rattle.outside_model.specs.State.{OuterState, Outside, Outcome, each}
use Rattle.outside_model.specs.Air.{change_at, deals, to_chip}
use Rattle.outside_model.specs.Results.{device_at}
use Rattle.outside_model.specs.Events.{OuterEvent, Arrives, Device_ticks, Repeats, mesh_of, repeats, outcome}
use Rattle.proof_walk.specs.world_model.State.{Machine}
use Rattle.proof_walk.specs.world_model.Events.{Event, Outside_does, May, entries as machine_entries}
use Rattle.proof_walk.proofs.Entering.{Enters, HearsNone, HearsFrame, IsOfChip, IsOwn, calls_of_chip, change_own, chip_enters, hears_none, outs_again_are, outs_at_are, own_enters, payload_of_chip, stamp_are}
use Rattle.proof_walk.specs.Outside.{IsNote}
use Rattle.proof_walk.proofs.Alone.{noted_are}

-- it says neither that a frame was not heard nor that a link is forgotten
abbrev pub IsMute : Entry → Type 0
IsMute (entry.Unheard frame) = ⊥
IsMute (entry.Forget a b) = ⊥
IsMute _ = Unit {0}

abbrev pub AreMute : List Entry → Type 0
AreMute told = AllByRecursion IsMute told

-- ---- which entries are

note_mute : (e : Entry) → IsNote e → IsMute e
note_mute (entry.Unheard frame) note = absurd note
note_mute (entry.Forget a b) note = absurd note
note_mute e note = tt

enters_mute : (event : OuterEvent) → (HearsFrame event → ⊥) → (e : Entry) → Enters event e → IsMute e
enters_mute event none (entry.Unheard frame) enters = absurd (none enters)
enters_mute event none (entry.Forget a b) enters = absurd (none enters)
enters_mute event none e enters = tt

pub chip_mute : (e : Entry) → IsOfChip e → IsMute e
chip_mute e of_chip = enters_mute (Device_ticks 0 [] None) (λ hears. hears) e (chip_enters (Device_ticks 0 [] None) e of_chip)

own_mute : (node : ℕ) (e : Entry) → IsOwn node e → IsMute e
own_mute node e own = enters_mute (Device_ticks 0 [] None) (λ hears. hears) e (own_enters (Device_ticks 0 [] None) tt node e own)

-- ---- what the air tells

-- neither that a frame was not heard, nor an end with a hop that is dead
abbrev pub IsMuteEvent : AirEvent → Type 0
IsMuteEvent (air_event.Unheard frame) = ⊥
IsMuteEvent (air_event.Done frame status (Some hop)) = ⊥
IsMuteEvent _ = Unit {0}

abbrev pub AreMuteEvents : List AirEvent → Type 0
AreMuteEvents events = AllByRecursion IsMuteEvent events

deals_mute : (devices : List State) (o : OuterState) (event : AirEvent) → IsMuteEvent event → AreMute (deals devices o event).entries
deals_mute devices o (air_event.Heard frame) mute = (tt, tt)
deals_mute devices o (air_event.Lost frame) mute = (tt, tt)
deals_mute devices o (air_event.Unheard frame) mute = absurd mute
deals_mute devices o (air_event.Sent frame from to route payload) mute = (tt, tt)
deals_mute devices o (air_event.Changed node at) mute = all-weaker (IsOwn node) IsMute (own_mute node) _ (change_own node (change_at (device_at devices (place_of node devices)) at))
deals_mute devices o (air_event.ToChip frame from payload) mute = all-weaker IsOfChip IsMute chip_mute (to_chip o from payload).entries (payload_of_chip o from payload)
deals_mute devices o (air_event.Done frame status None) mute = all-weaker IsOfChip IsMute chip_mute _ (calls_of_chip o status)
deals_mute devices o (air_event.Done frame status (Some hop)) mute = absurd mute

pub each_mute : (devices : List State) (events : List AirEvent) (o : OuterState) → AreMuteEvents events → AreMute (each (deals devices) o events).entries
each_mute devices [] o mute = tt
each_mute devices (event ∷ events) o mute =
    all-append IsMute (deals devices o event).entries (each (deals devices) (deals devices o event).outer events).entries (deals_mute devices o event mute.0)
    (each_mute devices events (deals devices o event).outer mute.1)

pub at_mute : (m : Mesh) (found : Option State) (number node : ℕ) (route : Option Route) (event : DeviceEvent) → AreMuteEvents (outs_at m found number node route event)
at_mute m found number node route event = outs_at_are IsMuteEvent node (λ at. tt) (λ frame over payload. tt) number tt m found route event

again_by : (heading : Heading) (m : Mesh) (number : ℕ) (frame : Flown) (drawn : List ℕ) (route : Option Route) → AreMuteEvents (repeat_outs_by heading m number frame drawn route)
again_by Homeward m number frame drawn route = (tt, (tt, tt))
again_by Outward m number frame drawn route =
    outs_again_are IsMuteEvent frame.node (λ at. tt) (λ number over payload. tt) number tt m (listener_of frame.node m.devices) route (Hears frame.payload drawn)

again_if : (m : Mesh) (number : ℕ) (found : Option Flown) (drawn : List ℕ) (route : Option Route) → AreMuteEvents (repeat_outs m number found drawn route)
again_if m number None drawn route = tt
again_if m number (Some frame) drawn route = again_by frame.heading m number frame drawn route

outs_mute : (m : Mesh) (number : ℕ) (drawn : List ℕ) (route : Option Route) → AreMuteEvents (mesh_outs m (mesh.Repeats number drawn route))
unfolding mesh_outs
outs_mute m number drawn route = again_if m number (remembered m.air.frames number) drawn route

repeats_mute : (w : Outside) (refused : Option RepeatRefusal) (number : ℕ) (drawn : List ℕ) (route : Option Route) → AreMute (repeats w refused (mesh.Repeats number drawn route)).entries
repeats_mute w (Some NeverSent) number drawn route = (tt, tt)
repeats_mute w (Some Forgotten) number drawn route = (tt, tt)
repeats_mute w (Some (Stale later)) number drawn route = (tt, tt)
repeats_mute w None number drawn route =
    each_mute (mesh_after (mesh_of w) (mesh.Repeats number drawn route)).devices (mesh_outs (mesh_of w) (mesh.Repeats number drawn route))
    (record w.outer { air = (mesh_after (mesh_of w) (mesh.Repeats number drawn route)).air }) (outs_mute (mesh_of w) number drawn route)

-- ---- events

-- no frame arrives
abbrev pub ArrivesNone : OuterEvent → Type 0
ArrivesNone (Arrives drawn route) = ⊥
ArrivesNone event = Unit {0}

abbrev pub NoArrival : Event → Type 0
NoArrival (Outside_does event) = ArrivesNone event
NoArrival event = Unit {0}

again_enters : (m : Machine) (number : ℕ) (drawn : List ℕ) (route : Option Route) → AreMute (machine_entries m (Outside_does (Repeats number drawn route)))
unfolding machine_entries outcome
again_enters m number drawn route =
    let x : Outcome = repeats m.outside (refusal_of m.outside.outer.air.frames number) (mesh.Repeats number drawn route) in
    stamp_are IsMute (λ tick. tt) x.outer x.entries (repeats_mute m.outside (refusal_of m.outside.outer.air.frames number) number drawn route)

pub event_mute : (m : Machine) (event : Event) → May m event → NoArrival event → AreMute (machine_entries m event)
event_mute m (Outside_does (Arrives drawn route)) may none = absurd none
event_mute m (Outside_does (Repeats number drawn route)) may none = again_enters m number drawn route
event_mute m event may none = noted_are IsMute chip_mute (λ tick. tt) note_mute HearsNone (λ outer none. enters_mute outer (hears_none outer none)) m event tt may
