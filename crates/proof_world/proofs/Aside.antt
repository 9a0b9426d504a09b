-- What is entered outside the host speaks neither of a command nor of a confirmed value, and of no interview that ended well.
use Rattle.std.proofs.Common.{◌≡◌, ℕ, zero, suc, ◌&&◌, not, Bool, true, false, if◌then◌else◌, Option, Some, None, List, [], ◌∷◌, map, nat_le, nat_lt, length, drop}
use Rattle.std.specs.Prelude.{slice_get}
use Rattle.std.specs.List.{AllByRecursion, flat_map}
use Rattle.std.specs.Option.{unwrap_or, option_map}
use Rattle.zw_base.proofs.Each.{all-append, all-weaker}
use Rattle.zw_base.specs.declared.property.Setting.{Setting}
use Rattle.zw_words.specs.declared.side.Side.{Side}
use Rattle.zw_words.specs.declared.side.Side.TheVariants.{Host as by_host}
use Rattle.zw_text.specs.declared.entry.Entry.{Entry}
use Rattle.zw_text.specs.declared.entry.Entry.TheVariants as entry
use Rattle.serial_frame.specs.declared.unit.Unit.{Unit as LineUnit}
use Rattle.serial_frame.specs.Items.{unit_text}
use Rattle.serial_pipes.specs.State.{WayState, fits, mark_for, garbled}
use Rattle.serial_pipes.specs.Events.{told, told_by}
use Rattle.serial_pipes.specs.declared.marks.Mark.{Mark}
use Rattle.serial_pipes.specs.declared.marks.Mark.TheVariants.{Free, Lost, Changed}
use Rattle.route_table.specs.declared.route.Route.{Route}
use Rattle.route_table.specs.Network.{linked}
use Rattle.chip_functions.specs.declared.notice.TransmitStatus.{TransmitStatus}
use Rattle.chip_functions.specs.declared.notice.TransmitStatus.TheVariants.{Fail, NoRoute as no_route_status}
use Rattle.chip_functions.specs.Notice.{status_of}
use Rattle.world_lines.specs.chip_sim.Events.{ChipEvent, Done, Heard as chip_hears, Forgets, after, outs}
use Rattle.world_lines.specs.chip_sim.Did.{judged_all}
use Rattle.world_lines.specs.chip_sim.declared.out.ChipOut.{ChipOut}
use Rattle.world_lines.specs.chip_sim.declared.out.ChipOut.TheVariants as chip_out
use Rattle.proof_serial.specs.device_kinds.declared.change.Change.{Change}
use Rattle.proof_host.specs.device_sim.State.{State}
use Rattle.proof_host.specs.device_sim.Event.{DeviceEvent, device_replies}
use Rattle.air_frames.specs.declared.ages.Refusal.{Refusal as RepeatRefusal}
use Rattle.air_frames.specs.declared.ages.Refusal.TheVariants as repeat
use Rattle.proof_device.specs.mesh_sim.Air.{is_joined}
use Rattle.proof_device.specs.mesh_sim.Steps.{AirStep, answers_if, mesh_after, mesh_outs}
use Rattle.proof_device.specs.mesh_sim.Routes.{backwards}
use Rattle.proof_device.specs.mesh_sim.declared.event.AirEvent.{AirEvent}
use Rattle.proof_device.specs.mesh_sim.declared.event.AirEvent.TheVariants as air_event
use Rattle.proof_device.specs.outside_model.declared.waits.Due.{Due}
use Rattle.proof_device.specs.outside_model.declared.waits.Due.TheVariants.{Info, NoRoute as no_route_due}
use Rattle.proof_device.specs.outside_model.State.{OuterState, Outside, Outcome, silent, tells, and_then, each, with_chip}
use Rattle.proof_device.specs.outside_model.Chip.{put_out, chip_does}
use Rattle.proof_device.specs.outside_model.Results.{owes_call, call_back, no_route, no_routes, leading, forgets, frame_ends, gives, without_no_route}
use Rattle.proof_device.specs.outside_model.Air.{change_entries, to_chip, sent_entries, deals}
use Rattle.proof_device.specs.outside_model.Devices.{changes_entries, new_changes, sends, acts, acts_at, acts_by_hand, shown_entries}
use Rattle.proof_device.specs.outside_model.Events.{OuterEvent, Begins_line, Begins_tick, Host_writes, Host_takes, Host_notes, Host_begins, Chip_takes, Arrives, Gives, Device_ticks, Chip_ticks, Repeats, Wakes_device, Sets_device, Shows, Joins, Discovers, Links, Loses, Loses_acks, Marks_loss, Marks_change, Clears_pipe, Collides_next, Stalls, Cuts, is_own, cleared_entries, mesh_of, steps, repeats, outcome, stamp, ticked_entry, entries}
use Rattle.proof_host.specs.Entries.{IsAside}

abbrev pub Asides : List Entry → Type 0
Asides entries = AllByRecursion IsAside entries

-- an entry that may be made outside the host
abbrev pub IsOutside : Entry → Type 0
IsOutside (entry.Accepted command node) = ⊥
IsOutside (entry.Begin node session command) = ⊥
IsOutside (entry.Out command ended) = ⊥
IsOutside (entry.Store node setting) = ⊥
IsOutside (entry.Interviewed node) = ⊥
IsOutside _ = Unit {0}

abbrev pub AreOutside : List Entry → Type 0
AreOutside entries = AllByRecursion IsOutside entries

-- ---- lists

then_outside : (first : Outcome) (next : OuterState → Outcome) → AreOutside first.entries → ((o : OuterState) → AreOutside (next o).entries) → AreOutside (and_then first next).entries
then_outside first next before later = all-append IsOutside first.entries (next first.outer).entries before (later first.outer)

each_outside : {X : Type 0} (step : OuterState → X → Outcome) → ((o : OuterState) (x : X) → AreOutside (step o x).entries) → (o : OuterState) (xs : List X) → AreOutside (each step o xs).entries
each_outside step outside o [] = tt
each_outside step outside o (x ∷ xs) = all-append IsOutside (step o x).entries (each step (step o x).outer xs).entries (outside o x) (each_outside step outside (step o x).outer xs)

flat_outside : {X : Type 0} (f : X → List Entry) → ((x : X) → AreOutside (f x)) → (xs : List X) → AreOutside (flat_map f xs)
flat_outside f outside [] = tt
flat_outside f outside (x ∷ xs) = all-append IsOutside (f x) (flat_map f xs) (outside x) (flat_outside f outside xs)

-- ---- the line

overrun_outside : (side : Side) (b : Bool) → AreOutside (if b then [] else entry.Overrun side ∷ [])
overrun_outside side true = tt
overrun_outside side false = (tt, tt)

told_by_outside : (side : Side) (bytes : List ℕ) (mark : Mark) (text : List ℕ) → AreOutside (told_by side bytes mark text)
told_by_outside side bytes Free text = overrun_outside side (fits bytes text)
told_by_outside side bytes Lost text = (tt, tt)
told_by_outside side bytes (Changed garble) text = (tt, overrun_outside side (fits bytes (garbled garble text)))

told_outside : (side : Side) (way : WayState) (unit : LineUnit) → AreOutside (told side way unit)
told_outside side way unit = (tt, told_by_outside side way.bytes (mark_for way.marks unit) (unit_text unit))

-- ---- the chip

put_outside : (o : OuterState) (out : ChipOut) → AreOutside (put_out o out).entries
put_outside o (chip_out.Write unit) = told_outside _ o.to_host unit
put_outside o (chip_out.OnAir to route payload) = (tt, tt)
put_outside o chip_out.NoRoute = tt
put_outside o (chip_out.AskInfo node) = tt
put_outside o chip_out.Full = (tt, tt)

does_outside : (o : OuterState) (event : ChipEvent) → AreOutside (chip_does o event).entries
unfolding chip_does
does_outside o event = each_outside put_out put_outside (with_chip o (after o.chip.state event)) (outs o.chip.state event)

-- ---- results

call_outside : (o : OuterState) (status : TransmitStatus) → AreOutside (call_back o status).entries
call_outside o status = by (owes_call o.chip.state)
  where
    by : (b : Bool) → AreOutside (if b then chip_does (record o { calls = drop 1 o.calls }) (Done status) else silent (record o { calls = drop 1 o.calls })).entries
    by true = does_outside (record o { calls = drop 1 o.calls }) (Done status)
    by false = tt

no_route_outside : (o : OuterState) → AreOutside (no_route o).entries
no_route_outside o = call_outside (record o { due = without_no_route o.due }) no_route_status

no_routes_outside : (count : ℕ) (o : OuterState) → AreOutside (no_routes count o).entries
no_routes_outside zero o = tt
no_routes_outside (suc count) o = then_outside (no_route o) (λ later. no_routes count later) (no_route_outside o) (λ later. no_routes_outside count later)

forgets_outside : (o : OuterState) (dead : Option (ℕ × ℕ)) → AreOutside (forgets o dead).entries
forgets_outside o None = tt
forgets_outside o (Some hop) = by (linked o.chip.state.table hop.0 hop.1)
  where
    by : (b : Bool) → AreOutside (if b then tells (with_chip o (after o.chip.state (Forgets hop.0 hop.1))) (entry.Forget hop.0 hop.1 ∷ []) else silent o).entries
    by true = (tt, tt)
    by false = tt

ends_outside : (o : OuterState) (status : ℕ) (dead : Option (ℕ × ℕ)) → AreOutside (frame_ends o status dead).entries
ends_outside o status dead =
    then_outside (forgets o dead) (λ forgot. and_then (no_routes (leading forgot.calls) forgot) (λ later. call_back later (unwrap_or (status_of status) Fail))) (forgets_outside o dead)
    (λ forgot. then_outside (no_routes (leading forgot.calls) forgot) (λ later. call_back later (unwrap_or (status_of status) Fail)) (no_routes_outside (leading forgot.calls) forgot)
    (λ later. call_outside later (unwrap_or (status_of status) Fail)))

gives_outside : (o : OuterState) (devices : List State) (due : List Due) (route : Option Route) → AreOutside (gives o devices due route).entries
gives_outside o devices [] route = tt
gives_outside o devices (no_route_due ∷ due) route = no_route_outside o
gives_outside o devices (Info node ∷ due) route = does_outside (record o { due = due }) _

-- ---- the air

change_outside : (node : ℕ) (change : Option Change) → AreOutside (change_entries node change)
change_outside node None = tt
change_outside node (Some change) = settings change.settings
  where
    settings : (l : List Setting) → AreOutside (map (λ (setting : Setting). entry.Dev node change.by setting) l)
    settings [] = tt
    settings (s ∷ l) = (tt, settings l)

sent_outside : (event : AirEvent) → AreOutside (sent_entries event)
sent_outside (air_event.Heard frame) = tt
sent_outside (air_event.Lost frame) = tt
sent_outside (air_event.Unheard frame) = tt
sent_outside (air_event.Sent frame from to route payload) = (tt, tt)
sent_outside (air_event.Changed node at) = tt
sent_outside (air_event.ToChip frame from payload) = tt
sent_outside (air_event.Done frame status dead) = tt

to_chip_outside : (o : OuterState) (from : ℕ) (payload : List ℕ) → AreOutside (to_chip o from payload).entries
to_chip_outside o from payload = by (nat_le 1 (length payload) && nat_le (length payload) 46)
  where
    by : (b : Bool) → AreOutside (if b then chip_does o (chip_hears from payload) else silent o).entries
    by true = does_outside o (chip_hears from payload)
    by false = tt

deals_outside : (devices : List State) (o : OuterState) (event : AirEvent) → AreOutside (deals devices o event).entries
deals_outside devices o (air_event.Heard frame) = (tt, tt)
deals_outside devices o (air_event.Lost frame) = (tt, tt)
deals_outside devices o (air_event.Unheard frame) = (tt, tt)
deals_outside devices o (air_event.Sent frame from to route payload) = (tt, tt)
deals_outside devices o (air_event.Changed node at) = change_outside node _
deals_outside devices o (air_event.ToChip frame from payload) = to_chip_outside o from payload
deals_outside devices o (air_event.Done frame status dead) = ends_outside o status dead

steps_outside : (w : Outside) (step : AirStep) → AreOutside (steps w step).entries
steps_outside w step =
    each_outside (deals (mesh_after (mesh_of w) step).devices) (deals_outside (mesh_after (mesh_of w) step).devices) (record w.outer { air = (mesh_after (mesh_of w) step).air }) (mesh_outs (mesh_of w) step)

repeats_outside : (w : Outside) (refused : Option RepeatRefusal) (step : AirStep) → AreOutside (repeats w refused step).entries
repeats_outside w None step = steps_outside w step
repeats_outside w (Some repeat.NeverSent) step = (tt, tt)
repeats_outside w (Some repeat.Forgotten) step = (tt, tt)
repeats_outside w (Some (repeat.Stale later)) step = (tt, tt)

-- ---- devices

acts_outside : (o : OuterState) (device : State) (event : DeviceEvent) (route : Option Route) → AreOutside (acts o device event route).entries
acts_outside o device event route =
    then_outside (tells o (changes_entries device.node (new_changes device event))) (λ later. sends later device.node route (device_replies device event))
    (flat_outside (λ (change : Change). change_entries device.node (Some change)) (λ change. change_outside device.node (Some change)) (new_changes device event))
    (λ later. flat_outside sent_entries sent_outside (answers_if (is_joined later.air device.node) later.air device.node (option_map backwards route) (device_replies device event)))

at_outside : (o : OuterState) (device : Option State) (event : DeviceEvent) (route : Option Route) → AreOutside (acts_at o device event route).entries
at_outside o None event route = tt
at_outside o (Some device) event route = acts_outside o device event route

hand_outside : (o : OuterState) (devices : List State) (place : Option ℕ) (event : DeviceEvent) (route : Option Route) → AreOutside (acts_by_hand o devices place event route).entries
hand_outside o devices None event route = (tt, tt)
hand_outside o devices (Some place) event route = at_outside o (slice_get devices place) event route

shown_outside : (node : ℕ) (device : Option State) → AreOutside (shown_entries node device)
shown_outside node None = (tt, tt)
shown_outside node (Some device) = settings _
  where
    settings : (l : List Setting) → AreOutside (map (λ (setting : Setting). entry.Device node setting) l)
    settings [] = tt
    settings (s ∷ l) = (tt, settings l)

cleared_outside : (side : Side) (count : ℕ) → AreOutside (cleared_entries side count)
cleared_outside side count = by (nat_lt 0 count)
  where
    by : (b : Bool) → AreOutside (if b then entry.Cleared side count ∷ [] else [])
    by true = (tt, tt)
    by false = tt

-- ---- events

outcome_outside : (w : Outside) (event : OuterEvent) → is_own event ≡ true → AreOutside (outcome w event).entries
unfolding outcome
outcome_outside w Begins_line own = tt
outcome_outside w Begins_tick own = tt
outcome_outside w (Host_writes unit) own = told_outside _ w.outer.to_chip unit
outcome_outside w (Host_takes count) own = tt
outcome_outside w (Host_notes entry) own = absurd (none own)
  where
    none : false ≡ true → ⊥
    none e = cc
outcome_outside w (Host_begins node sessions) own = tt
outcome_outside w (Chip_takes count rest ways) own = each_outside chip_does does_outside _ (judged_all ways)
outcome_outside w (Arrives drawn route) own = steps_outside w _
outcome_outside w (Gives route) own = gives_outside w.outer w.devices w.outer.due route
outcome_outside w (Device_ticks place drawn route) own = at_outside w.outer (slice_get w.devices place) _ route
outcome_outside w Chip_ticks own = does_outside _ _
outcome_outside w (Repeats number drawn route) own = repeats_outside w _ _
outcome_outside w (Wakes_device node route) own = hand_outside w.outer w.devices _ _ route
outcome_outside w (Sets_device node value route) own = hand_outside w.outer w.devices _ _ route
outcome_outside w (Shows node) own = shown_outside node _
outcome_outside w (Joins node) own = tt
outcome_outside w Discovers own = tt
outcome_outside w (Links a b live) own = tt
outcome_outside w (Loses count) own = tt
outcome_outside w (Loses_acks count) own = tt
outcome_outside w (Marks_loss side) own = tt
outcome_outside w (Marks_change side garble) own = tt
outcome_outside w (Clears_pipe side) own = cleared_outside side _
outcome_outside w Collides_next own = tt
outcome_outside w (Stalls ticks) own = tt
outcome_outside w (Cuts size) own = tt

-- the number of the tick stands before the first entry
pub ticked_are : (Is : Entry → Type 0) → ((tick : ℕ) → Is (entry.Time tick)) → (o : OuterState) → AllByRecursion Is (ticked_entry o)
ticked_are Is time o = by (o.in_tick && not o.stamped)
  where
    by : (b : Bool) → AllByRecursion Is (if b then entry.Time o.clock ∷ [] else [])
    by true = (time o.clock, tt)
    by false = tt

pub stamp_are : (Is : Entry → Type 0) → ((tick : ℕ) → Is (entry.Time tick)) → (o : OuterState) (told : List Entry) → AllByRecursion Is told → AllByRecursion Is (stamp o told)
stamp_are Is time o [] are = tt
stamp_are Is time o (e ∷ told) are = all-append Is (ticked_entry o) (e ∷ told) (ticked_are Is time o) are

-- an event that is not the host's
pub own_outside : (w : Outside) (event : OuterEvent) → is_own event ≡ true → AreOutside (entries w event)
own_outside w event own = stamp_are IsOutside (λ tick. tt) (outcome w event).outer (outcome w event).entries (outcome_outside w event own)

-- a unit that the host writes
pub write_outside : (w : Outside) (unit : LineUnit) → AreOutside (entries w (Host_writes unit))
unfolding outcome
write_outside w unit = stamp_are IsOutside (λ tick. tt) (outcome w (Host_writes unit)).outer (told by_host w.outer.to_chip unit) (told_outside by_host w.outer.to_chip unit)

-- ---- neither of a command nor of a confirmed value

outside_aside : (e : Entry) → IsOutside e → IsAside e
outside_aside (entry.Accepted command node) is = absurd is
outside_aside (entry.Begin node session command) is = absurd is
outside_aside (entry.Out command ended) is = absurd is
outside_aside (entry.Store node setting) is = absurd is
outside_aside _ is = tt

asides_of : (entries : List Entry) → AreOutside entries → Asides entries
asides_of entries are = all-weaker IsOutside IsAside outside_aside entries are

pub told_aside : (side : Side) (way : WayState) (unit : LineUnit) → Asides (told side way unit)
told_aside side way unit = asides_of (told side way unit) (told_outside side way unit)

pub ticked_aside : (o : OuterState) → Asides (ticked_entry o)
ticked_aside o = ticked_are IsAside (λ tick. tt) o

pub stamp_aside : (o : OuterState) (told : List Entry) → Asides told → Asides (stamp o told)
stamp_aside o told aside = stamp_are IsAside (λ tick. tt) o told aside

pub own_aside : (w : Outside) (event : OuterEvent) → is_own event ≡ true → Asides (entries w event)
own_aside w event own = asides_of (entries w event) (own_outside w event own)

pub write_aside : (w : Outside) (unit : LineUnit) → Asides (entries w (Host_writes unit))
write_aside w unit = asides_of (entries w (Host_writes unit)) (write_outside w unit)
