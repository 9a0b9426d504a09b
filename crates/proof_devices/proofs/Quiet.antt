-- Entries that bring no device anything: neither words of a line nor that a frame was heard. All events but five enter such alone, and leave the devices and the clock as they are;
-- and of what they enter no device did anything. What a device does is of its node.
use Rattle.std.proofs.Common.{◌≡◌, ◌⊎◌, inl, inr, ℕ, Bool, List, [], ◌∷◌, ◌++◌, refl, sym, ap, subst, ◌∙◌, append_assoc}
use Rattle.std.specs.Prelude.{Option, None}
use Rattle.std.specs.List.{AllByRecursion}
use Rattle.zw_base.proofs.Each.{all-append, all-weaker}
use Rattle.route_table.specs.declared.route.Route.{Route}
use Rattle.device_sim.specs.State.{State}
use Rattle.device_sim.specs.Event.{DeviceEvent}
use Rattle.mesh_sim.specs.declared.event.AirEvent.{AirEvent}
use Rattle.mesh_sim.specs.declared.event.AirEvent.TheVariants as air_event
use Rattle.law_transcript.specs.Nodes.{controller}
use Rattle.mesh_sim.specs.Fates.{place_of}
use Rattle.zw_text.specs.declared.entry.Entry.{Entry}
use Rattle.zw_text.specs.declared.entry.Entry.TheVariants as entry
use Rattle.outside_model.specs.State.{OuterState, Outside, Outcome, each}
use Rattle.outside_model.specs.Results.{device_at, frame_ends}
use Rattle.outside_model.specs.Air.{change_at, deals, to_chip}
use Rattle.outside_model.specs.Devices.{acts}
use Rattle.outside_model.specs.Events.{OuterEvent, Begins_line, Begins_tick, Arrives, Device_ticks, Gives, Repeats, Wakes_device, Sets_device, outcome, devices_after, happens as happens_outside, entries as entries_outside, has_entered, stamp, ticked_entry}
use Rattle.world_model.specs.State.{Machine}
use Rattle.world_model.specs.Events.{Event, happens, entries, May}
use Rattle.proof_air.specs.proof_walk.Outside.{CoversOuter, IsNote}
use Rattle.proof_air.proofs.Alone.{noted_are}
use Rattle.proof_air.proofs.Machines.{covers_answer, machine_goes_on}
use Rattle.proof_air.proofs.Times.{outcome_time, IsWithin}
use Rattle.proof_air.proofs.Entering.{Acts, AreOwn, Enters, HearsFrame, IsOfChip, IsOfEnd, IsOwn, acts_own, change_own, chip_enters, ends_of_end, number_are, payload_of_chip, stamp_are}
use Rattle.proof_devices.specs.Living.{MovesNone}

abbrev pub IsQuiet : Entry → Type 0
IsQuiet (entry.Said words) = ⊥
IsQuiet (entry.Heard frame) = ⊥
IsQuiet _ = Unit {0}

abbrev pub AreQuiet : List Entry → Type 0
AreQuiet told = AllByRecursion IsQuiet told

-- and what a device did in it is of this node
abbrev pub IsBy : ℕ → Entry → Type 0
IsBy node (entry.Said words) = ⊥
IsBy node (entry.Heard frame) = ⊥
IsBy node (entry.Dev at by setting) = at ≡ node
IsBy node (entry.Air frame sender receiver repeaters payload) = (sender ≡ controller) ⊎ (sender ≡ node)
IsBy node _ = Unit {0}

abbrev pub AreBy : ℕ → List Entry → Type 0
AreBy node told = AllByRecursion (IsBy node) told

-- or no device did anything
abbrev pub IsIdle : Entry → Type 0
IsIdle (entry.Said words) = ⊥
IsIdle (entry.Heard frame) = ⊥
IsIdle (entry.Dev at by setting) = ⊥
IsIdle (entry.Air frame sender receiver repeaters payload) = sender ≡ controller
IsIdle _ = Unit {0}

abbrev pub AreIdle : List Entry → Type 0
AreIdle told = AllByRecursion IsIdle told

own_by : (node : ℕ) (e : Entry) → IsOwn node e → IsBy node e
own_by node (entry.Dev at by setting) own = own
own_by node (entry.Air frame sender receiver repeaters payload) own = inr own
own_by node e own = absurd own

pub own_are_by : (node : ℕ) (told : List Entry) → AreOwn node told → AreBy node told
own_are_by node told own = all-weaker (IsOwn node) (IsBy node) (own_by node) told own

idle_by : (node : ℕ) (e : Entry) → IsIdle e → IsBy node e
idle_by node (entry.Said words) idle = absurd idle
idle_by node (entry.Heard frame) idle = absurd idle
idle_by node (entry.Dev at by setting) idle = absurd idle
idle_by node (entry.Air frame sender receiver repeaters payload) idle = inl idle
idle_by node e idle = tt

by_quiet : (node : ℕ) (e : Entry) → IsBy node e → IsQuiet e
by_quiet node (entry.Said words) is = absurd is
by_quiet node (entry.Heard frame) is = absurd is
by_quiet node e is = tt

pub are_by : (node : ℕ) (told : List Entry) → AreIdle told → AreBy node told
are_by node told idle = all-weaker IsIdle (IsBy node) (idle_by node) told idle

pub are_quiet : (node : ℕ) (told : List Entry) → AreBy node told → AreQuiet told
are_quiet node told by = all-weaker (IsBy node) IsQuiet (by_quiet node) told by

pub idle_quiet : (told : List Entry) → AreIdle told → AreQuiet told
idle_quiet told idle = are_quiet controller told (are_by controller told idle)

-- ---- which entries are

note_idle : (e : Entry) → IsNote e → IsIdle e
note_idle (entry.Said words) note = absurd note
note_idle (entry.Heard frame) note = absurd note
note_idle (entry.Dev at by setting) note = absurd note
note_idle (entry.Air frame sender receiver repeaters payload) note = absurd note
note_idle e note = tt

enters_idle : (event : OuterEvent) → (Acts event → ⊥) → (HearsFrame event → ⊥) → (e : Entry) → Enters event e → IsIdle e
enters_idle event still none (entry.Said words) enters = absurd enters
enters_idle event still none (entry.Heard frame) enters = absurd (none enters)
enters_idle event still none (entry.Dev at by setting) enters = absurd (still enters)
enters_idle event still none (entry.Air frame sender receiver repeaters payload) (inl of_chip) = of_chip
enters_idle event still none (entry.Air frame sender receiver repeaters payload) (inr acting) = absurd (still acting)
enters_idle event still none e enters = tt

chip_idle : (e : Entry) → IsOfChip e → IsIdle e
chip_idle e of_chip = enters_idle (Gives None) (λ acting. acting) (λ hears. hears) e (chip_enters (Gives None) e of_chip)

end_idle : (e : Entry) → IsOfEnd e → IsIdle e
end_idle (entry.Forget a b) of_end = tt
end_idle e of_end = chip_idle e of_end

pub number_idle : (o : OuterState) → AreIdle (ticked_entry o)
number_idle o = number_are IsIdle (λ tick. tt) o

pub number_quiet : (o : OuterState) → AreQuiet (ticked_entry o)
number_quiet o = idle_quiet (ticked_entry o) (number_idle o)

pub stamp_idle : (o : OuterState) (entered : List Entry) → AreIdle entered → AreIdle (stamp o entered)
stamp_idle o entered idle = stamp_are IsIdle (λ tick. tt) o entered idle

pub stamp_by : (node : ℕ) (o : OuterState) (entered : List Entry) → AreBy node entered → AreBy node (stamp o entered)
stamp_by node o entered is = stamp_are (IsBy node) (λ tick. tt) o entered is

-- ---- the air and the devices

-- it tells neither that a frame was heard nor what a device did
abbrev pub IsMute : AirEvent → Type 0
IsMute (air_event.Heard frame) = ⊥
IsMute (air_event.Sent frame from to route payload) = ⊥
IsMute (air_event.Changed node at) = ⊥
IsMute event = Unit {0}

-- it tells what the device of a node did
abbrev pub IsOwnEvent : ℕ → AirEvent → Type 0
IsOwnEvent node (air_event.Sent frame from to route payload) = from ≡ node
IsOwnEvent node (air_event.Changed at change) = at ≡ node
IsOwnEvent node event = ⊥

pub to_chip_idle : (o : OuterState) (from : ℕ) (payload : List ℕ) → AreIdle (to_chip o from payload).entries
to_chip_idle o from payload = all-weaker IsOfChip IsIdle chip_idle (to_chip o from payload).entries (payload_of_chip o from payload)

pub ends_idle : (o : OuterState) (status : ℕ) (dead : Option (ℕ × ℕ)) → AreIdle (frame_ends o status dead).entries
ends_idle o status dead = all-weaker IsOfEnd IsIdle end_idle (frame_ends o status dead).entries (ends_of_end o status dead)

deals_idle : (devices : List State) (o : OuterState) (event : AirEvent) → IsMute event → AreIdle (deals devices o event).entries
deals_idle devices o (air_event.Heard frame) mute = absurd mute
deals_idle devices o (air_event.Lost frame) mute = (tt, tt)
deals_idle devices o (air_event.Unheard frame) mute = (tt, tt)
deals_idle devices o (air_event.Sent frame from to route payload) mute = absurd mute
deals_idle devices o (air_event.Changed node at) mute = absurd mute
deals_idle devices o (air_event.ToChip frame from payload) mute = to_chip_idle o from payload
deals_idle devices o (air_event.Done frame status dead) mute = ends_idle o status dead

pub all_deals_idle : (devices : List State) (o : OuterState) (events : List AirEvent) → AllByRecursion IsMute events → AreIdle (each (deals devices) o events).entries
all_deals_idle devices o [] mute = tt
all_deals_idle devices o (event ∷ events) mute =
    all-append IsIdle (deals devices o event).entries (each (deals devices) (deals devices o event).outer events).entries (deals_idle devices o event mute.0)
    (all_deals_idle devices (deals devices o event).outer events mute.1)

deals_own : (node : ℕ) (devices : List State) (o : OuterState) (event : AirEvent) → IsOwnEvent node event → AreOwn node (deals devices o event).entries
deals_own node devices o (air_event.Sent frame from to route payload) is = (is, tt)
deals_own node devices o (air_event.Changed at place) is =
    subst (λ (n : ℕ). AreOwn n (deals devices o (air_event.Changed at place)).entries) is (change_own at (change_at (device_at devices (place_of at devices)) place))
deals_own node devices o event is = absurd is

pub all_deals_own : (node : ℕ) (devices : List State) (o : OuterState) (events : List AirEvent) → AllByRecursion (IsOwnEvent node) events → AreOwn node (each (deals devices) o events).entries
all_deals_own node devices o [] is = tt
all_deals_own node devices o (event ∷ events) is =
    all-append (IsOwn node) (deals devices o event).entries (each (deals devices) (deals devices o event).outer events).entries (deals_own node devices o event is.0)
    (all_deals_own node devices (deals devices o event).outer events is.1)

pub acts_by : (o : OuterState) (device : State) (event : DeviceEvent) (route : Option Route) → AreBy device.node (stamp (acts o device event route).outer (acts o device event route).entries)
acts_by o device event route =
    stamp_by device.node (acts o device event route).outer (acts o device event route).entries (own_are_by device.node (acts o device event route).entries (acts_own o device event route))

-- one list of things after another
pub each_both : {X : Type 0} (step : OuterState → X → Outcome) (o : OuterState) (xs ys : List X) → (each step o (xs ++ ys)).entries ≡ (each step o xs).entries ++ (each step (each step o xs).outer ys).entries
each_both step o [] ys = refl
each_both step o (x ∷ xs) ys =
    let later : OuterState = (step o x).outer in
    ap (λ (l : List Entry). (step o x).entries ++ l) (each_both step later xs ys)
    ∙ sym (append_assoc (step o x).entries (each step later xs).entries (each step (each step later xs).outer ys).entries)

-- ---- events

none_moved : (w : Outside) (event : OuterEvent) → MovesNone event → devices_after w event ≡ w.devices
unfolding devices_after
none_moved w (Arrives drawn route) none = absurd none
none_moved w (Repeats number drawn route) none = absurd none
none_moved w (Device_ticks place drawn route) none = absurd none
none_moved w (Wakes_device node route) none = absurd none
none_moved w (Sets_device node value route) none = absurd none
none_moved w event none = refl

-- the clock stays
entered_clock : (o : OuterState) (told : List Entry) → (has_entered o told).clock ≡ o.clock
entered_clock o [] = refl
entered_clock o (e ∷ told) = refl

pub same_clock : (w : Outside) (event : OuterEvent) → IsWithin event → (happens_outside w event).outer.clock ≡ w.outer.clock
same_clock w event within =
    entered_clock (outcome w event).outer (outcome w event).entries ∙ ap (λ (t : Bool × Bool × ℕ). t.2) (outcome_time w event within)

within : (event : OuterEvent) → MovesNone event → IsWithin event
within Begins_line none = absurd none
within Begins_tick none = absurd none
within event none = tt

moves_acts : (event : OuterEvent) → MovesNone event → Acts event → ⊥
moves_acts (Arrives drawn route) none acting = none
moves_acts (Repeats number drawn route) none acting = none
moves_acts (Device_ticks place drawn route) none acting = none
moves_acts (Wakes_device node route) none acting = none
moves_acts (Sets_device node value route) none acting = none
moves_acts event none acting = acting

moves_hears : (event : OuterEvent) → MovesNone event → HearsFrame event → ⊥
moves_hears (Arrives drawn route) none hears = none
moves_hears (Repeats number drawn route) none hears = none
moves_hears event none hears = hears

-- ---- an event of the machine

-- the devices and the clock stay
record Stays (w : Outside) (told : List Entry) (later : Outside) : Type 0 where
  devices : later.devices ≡ w.devices
  clock : later.outer.clock ≡ w.outer.clock

stays_both : (w u v : Outside) (xs ys : List Entry) → Stays w xs u → Stays u ys v → Stays w (xs ++ ys) v
stays_both w u v xs ys first later = record { devices = later.devices ∙ first.devices; clock = later.clock ∙ first.clock }

stays_at : (w : Outside) (event : OuterEvent) → MovesNone event → Stays w (entries_outside w event) (happens_outside w event)
stays_at w event none = record { devices = none_moved w event none; clock = same_clock w event (within event none) }

-- nothing comes to a device, and none has an event or did anything
pub record Still (w : Outside) (told : List Entry) (later : Outside) : Type 0 where
  pub idle : AreIdle told
  pub devices : later.devices ≡ w.devices
  pub clock : later.outer.clock ≡ w.outer.clock

pub machine_still : (m : Machine) (event : Event) → CoversOuter MovesNone event → May m event → Still m.outside (entries m event) (happens m event).outside
machine_still m event none may =
    let stays : Stays m.outside (entries m event) (happens m event).outside =
    machine_goes_on MovesNone (record { writes = λ unit. tt; takes = λ count. tt; notes = λ note is. tt }) (λ node sessions. tt) Stays (λ w. record { devices = refl; clock = refl }) stays_both stays_at
    m event none (covers_answer MovesNone (λ note is. tt) event) may in
    record {
      idle = noted_are IsIdle chip_idle (λ tick. tt) note_idle MovesNone (λ outer none. enters_idle outer (moves_acts outer none) (moves_hears outer none)) m event none may;
      devices = stays.devices;
      clock = stays.clock;
    }
