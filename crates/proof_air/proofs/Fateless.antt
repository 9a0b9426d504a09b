-- No frame has its fate at an event by which none arrives or is repeated: none is entered, and as many have landed as before.
use Rattle.std.proofs.Common.{◌≡◌, ℕ, Bool, List, [], ◌∷◌, refl}
use Rattle.std.specs.Prelude.{Option, None}
use Rattle.std.specs.List.{AllByRecursion}
use Rattle.zw_base.proofs.Each.{all-append, all-weaker}
use Rattle.route_table.specs.declared.route.Route.{Route}
use Rattle.air_frames.specs.Frames.{putting}
use Rattle.device_kinds.specs.declared.change.Change.{Change}
use Rattle.law_wire.specs.device_sim.State.{State}
use Rattle.proof_walk.specs.mesh_sim.declared.event.AirEvent.{AirEvent}
use Rattle.proof_walk.specs.mesh_sim.declared.event.AirEvent.TheVariants as air_event
use Rattle.proof_walk.specs.mesh_sim.Air.{AirState}
use Rattle.proof_walk.specs.mesh_sim.Fates.{place_of}
use Rattle.proof_walk.specs.mesh_sim.Steps.{answered_if}
use Rattle.zw_text.specs.declared.entry.Entry.{Entry}
use Rattle.zw_text.specs.declared.entry.Entry.TheVariants as entry
use Rattle.proof_walk.specs.outside_model.State.{OuterState, Outcome, each}
use Rattle.proof_walk.specs.outside_model.Results.{device_at, frame_ends}
use Rattle.proof_walk.specs.outside_model.Air.{change_at, change_entries, deals, to_chip}
use Rattle.proof_walk.specs.outside_model.Events.{OuterEvent, Arrives, Device_ticks, Repeats, has_entered}
use Rattle.proof_walk.specs.world_model.State.{Machine}
use Rattle.proof_walk.specs.world_model.Events.{Event, Outside_does, happens, entries, May}
use Rattle.proof_walk.proofs.Entering.{Enters, HearsFrame, HearsNone, IsOfChip, IsOfEnd, IsOwn, change_own, chip_enters, ends_of_end, hears_none, own_enters, payload_of_chip}
use Rattle.proof_walk.specs.Outside.{CoversOuter, IsNote}
use Rattle.proof_walk.proofs.Alone.{noted_are}
use Rattle.proof_air.specs.Landing.{LandsNone}
use Rattle.proof_air.proofs.Leaving.{Left, all_deals_leave, answered_if_leaves, entered_leaves, machine_leaves}

-- an entry that says of no frame what became of it
abbrev pub IsFateless : Entry → Type 0
IsFateless (entry.Heard frame) = ⊥
IsFateless (entry.Lost frame) = ⊥
IsFateless (entry.Unheard frame) = ⊥
IsFateless _ = Unit {0}

abbrev pub AreFateless : List Entry → Type 0
AreFateless entered = AllByRecursion IsFateless entered

-- ---- which entries are

pub note_fateless : (e : Entry) → IsNote e → IsFateless e
note_fateless (entry.Heard frame) note = absurd note
note_fateless (entry.Lost frame) note = absurd note
note_fateless (entry.Unheard frame) note = absurd note
note_fateless e note = tt

enters_fateless : (event : OuterEvent) → (HearsFrame event → ⊥) → (e : Entry) → Enters event e → IsFateless e
enters_fateless event none (entry.Heard frame) enters = absurd (none enters)
enters_fateless event none (entry.Lost frame) enters = absurd (none enters)
enters_fateless event none (entry.Unheard frame) enters = absurd (none enters)
enters_fateless event none e enters = tt

chip_fateless : (e : Entry) → IsOfChip e → IsFateless e
chip_fateless e of_chip = enters_fateless (Device_ticks 0 [] None) (λ hears. hears) e (chip_enters (Device_ticks 0 [] None) e of_chip)

end_fateless : (e : Entry) → IsOfEnd e → IsFateless e
end_fateless (entry.Forget a b) of_end = tt
end_fateless e of_end = chip_fateless e of_end

own_fateless : (node : ℕ) (e : Entry) → IsOwn node e → IsFateless e
own_fateless node e own = enters_fateless (Device_ticks 0 [] None) (λ hears. hears) e (own_enters (Device_ticks 0 [] None) tt node e own)

-- an event at which no frame is heard
pub event_fateless : (m : Machine) (event : Event) → CoversOuter HearsNone event → May m event → AreFateless (entries m event)
event_fateless m event none may =
    noted_are IsFateless chip_fateless (λ tick. tt) note_fateless HearsNone (λ outer none. enters_fateless outer (hears_none outer none)) m event none may

-- ---- what happens outside the host

abbrev pub landed_in : OuterState → ℕ
landed_in o = o.air.frames.landed

-- no fate is entered, and then so many have landed
pub record Rests (landed : ℕ) (x : Outcome) : Type 0 where
  pub fateless : AreFateless x.entries
  pub lands : landed_in x.outer ≡ landed

abbrev Resting : OuterState → Outcome → Type 0
Resting o x = Rests (landed_in o) x

-- ---- the air and the devices

abbrev pub TellsNoFate : AirEvent → Type 0
TellsNoFate (air_event.Heard frame) = ⊥
TellsNoFate (air_event.Lost frame) = ⊥
TellsNoFate (air_event.Unheard frame) = ⊥
TellsNoFate event = Unit {0}

abbrev pub TellNoFate : List AirEvent → Type 0
TellNoFate events = AllByRecursion TellsNoFate events

deals_fateless : (devices : List State) (o : OuterState) (event : AirEvent) → TellsNoFate event → AreFateless (deals devices o event).entries
deals_fateless devices o (air_event.Heard frame) none = absurd none
deals_fateless devices o (air_event.Lost frame) none = absurd none
deals_fateless devices o (air_event.Unheard frame) none = absurd none
deals_fateless devices o (air_event.Sent frame from to route payload) none = (tt, tt)
deals_fateless devices o (air_event.Changed node at) none =
    let change : Option Change = change_at (device_at devices (place_of node devices)) at in
    all-weaker (IsOwn node) IsFateless (own_fateless node) (change_entries node change) (change_own node change)
deals_fateless devices o (air_event.ToChip frame from payload) none =
    all-weaker IsOfChip IsFateless chip_fateless (to_chip o from payload).entries (payload_of_chip o from payload)
deals_fateless devices o (air_event.Done frame status dead) none =
    all-weaker IsOfEnd IsFateless end_fateless (frame_ends o status dead).entries (ends_of_end o status dead)

all_deals_fateless : (devices : List State) (events : List AirEvent) (o : OuterState) → TellNoFate events → AreFateless (each (deals devices) o events).entries
all_deals_fateless devices [] o none = tt
all_deals_fateless devices (event ∷ events) o none =
    let later : OuterState = (deals devices o event).outer in
    all-append IsFateless (deals devices o event).entries (each (deals devices) later events).entries (deals_fateless devices o event none.0)
    (all_deals_fateless devices events later none.1)

-- as many have landed
abbrev landed_of : AirState → ℕ
landed_of air = air.frames.landed

lands_hears : (event : OuterEvent) → LandsNone event → HearsNone event
lands_hears (Arrives drawn route) none = none
lands_hears (Repeats number drawn route) none = none
lands_hears event none = tt

landed_left : Left LandsNone landed_of
unfolding putting
landed_left = record {
  hears = lands_hears;
  departs = λ air node heading way payload. refl;
  begins = λ air node sessions. refl;
  links = λ air a b live. refl;
  joins = λ air node listening. refl;
  loses = λ air count. refl;
  acks = λ air count covers. refl;
}

pub all_deals_rest : (devices : List State) (events : List AirEvent) (o : OuterState) → TellNoFate events → Resting o (each (deals devices) o events)
all_deals_rest devices events o none =
    record { fateless = all_deals_fateless devices events o none; lands = all_deals_leave LandsNone landed_of landed_left devices events o }

pub answered_if_landed : (joined : Bool) (air : AirState) (node : ℕ) (over : Option Route) (replies : List (List ℕ)) → (answered_if joined air node over replies).frames.landed ≡ air.frames.landed
answered_if_landed joined air node over replies = answered_if_leaves LandsNone landed_of landed_left joined air node over replies

pub entered_landed : (o : OuterState) (entered : List Entry) → landed_in (has_entered o entered) ≡ landed_in o
entered_landed o entered = entered_leaves LandsNone landed_of landed_left o entered

-- ---- an event of the machine

-- as many have landed as before
pub machine_landed : (m : Machine) (event : Event) → CoversOuter LandsNone event → May m event → landed_in (happens m event).outside.outer ≡ landed_in m.outside.outer
machine_landed m event none may =
    machine_leaves LandsNone landed_of landed_left (record { writes = λ unit. tt; takes = λ count. tt; notes = λ note is. tt }) (λ node sessions. tt) (λ note is. tt) m event none may

-- and no fate is entered
pub machine_fateless : (m : Machine) (event : Event) → CoversOuter LandsNone event → May m event → AreFateless (entries m event)
machine_fateless m (Outside_does event) none may = event_fateless m (Outside_does event) (lands_hears event none) may
machine_fateless m event none may = event_fateless m event tt may
