-- What each event outside the host may enter, gone over once. A law that asks something of some kinds of entries weakens what stands here.
use Rattle.std.proofs.Common.{◌≡◌, ◌⊎◌, inl, inr, ℕ, zero, suc, ◌+◌, ◌-◌, ◌&&◌, not, Bool, true, false, if◌then◌else◌, List, [], ◌∷◌, ◌++◌, length, map, refl}
use Rattle.std.specs.Prelude.{Option, Some, None, slice_get}
use Rattle.std.specs.Option.{option_map, unwrap_or}
use Rattle.std.specs.List.{AllByRecursion, flat_map}
use Rattle.zw_base.proofs.Each.{all-append, all-weaker}
use Rattle.zw_base.specs.declared.property.Setting.{Setting}
use Rattle.serial_frame.specs.declared.unit.Unit.{Unit as LineUnit}
use Rattle.serial_frame.specs.Items.{unit_text}
use Rattle.serial_frame.specs.Stream.{after_tick}
use Rattle.world_model.specs.serial_pipes.State.{WayState, mark_for}
use Rattle.world_model.specs.serial_pipes.Events.{told}
use Rattle.world_model.specs.serial_pipes.Events as way
use Rattle.zw_words.specs.declared.side.Side.{Side}
use Rattle.zw_words.specs.declared.side.Side.TheVariants.{Host as by_host, Chip as by_chip}
use Rattle.route_table.specs.declared.route.Route.{Route}
use Rattle.chip_functions.specs.Notice.{status_of}
use Rattle.chip_functions.specs.declared.notice.TransmitStatus.TheVariants.{Fail}
use Rattle.world_model.specs.chip_sim.Events.{ChipEvent, Heard as chip_hears, Ticked, after, outs}
use Rattle.world_model.specs.chip_sim.Did.{judged_all}
use Rattle.world_model.specs.chip_sim.declared.out.ChipOut.{ChipOut}
use Rattle.world_model.specs.chip_sim.declared.out.ChipOut.TheVariants.{Write, OnAir, NoRoute, AskInfo, Full}
use Rattle.law_transcript.specs.device_kinds.declared.change.Change.{Change}
use Rattle.law_transcript.specs.device_sim.State.{State}
use Rattle.law_transcript.specs.device_sim.Event.{DeviceEvent, Ticks, Wakes, Sets, device_after, device_replies}
use Rattle.air_frames.specs.declared.ages.Refusal.{Refusal}
use Rattle.air_frames.specs.declared.ages.Refusal.TheVariants.{NeverSent, Forgotten, Stale}
use Rattle.air_frames.specs.declared.frame.Heading.TheVariants.{Homeward}
use Rattle.air_frames.specs.Ages.{refusal_of}
use Rattle.world_model.specs.mesh_sim.declared.event.AirEvent.{AirEvent}
use Rattle.world_model.specs.mesh_sim.declared.event.AirEvent.TheVariants as air_event
use Rattle.world_model.specs.mesh_sim.Air.{AirState, departing, is_joined, no_route}
use Rattle.world_model.specs.mesh_sim.Fates.{Mesh, place_of}
use Rattle.world_model.specs.mesh_sim.Routes.{backwards}
use Rattle.world_model.specs.mesh_sim.Steps.{AirStep, answers, answers_if, changed, mesh_after, mesh_outs, outs_again, outs_at}
use Rattle.world_model.specs.mesh_sim.Steps as mesh
use Rattle.law_transcript.specs.zw_text.declared.entry.Entry.{Entry}
use Rattle.law_transcript.specs.zw_text.declared.entry.Entry.TheVariants as entry
use Rattle.law_transcript.specs.Nodes.{controller}
use Rattle.world_model.specs.outside_model.declared.waits.Due.{Due}
use Rattle.world_model.specs.outside_model.State.{OuterState, Outside, Outcome, and_then, each, with_chip}
use Rattle.world_model.specs.outside_model.Chip.{put_out, chip_does, chip_takes, chip_ticks}
use Rattle.world_model.specs.outside_model.Results.{call_back, device_at, frame_ends, gives, leading, no_routes}
use Rattle.world_model.specs.outside_model.Air.{change_at, change_entries, deals, sent_entries, to_chip}
use Rattle.world_model.specs.outside_model.Devices.{acts, acts_at, acts_by_hand, changes_entries, new_changes, sends, shown_entries}
use Rattle.world_model.specs.outside_model.Events.{OuterEvent, Host_writes, Host_takes, Host_notes, Chip_takes, Arrives, Gives, Device_ticks, Chip_ticks, Repeats, Wakes_device, Sets_device, Shows, Marks_loss, Marks_change, Clears_pipe, Stalls, Cuts, cleared_entries, is_own, mesh_of, outcome, repeats, stamp, steps, ticked_entry, way_of, IsCleared}
use Rattle.proof_device.proofs.Entered.{IsMark, told_by_marks, all_cleared, IsShown, all_shown}
use Rattle.proof_device.proofs.Results.{Calls, calls_go, due_goes, end_goes, payload_goes}

-- ---- lists

module _ (Is : Entry → Type 0) where
  pub each_are : {X : Type 0} (step : OuterState → X → Outcome) → ((o : OuterState) (x : X) → AllByRecursion Is (step o x).entries) → (o : OuterState) (xs : List X)
      → AllByRecursion Is (each step o xs).entries
  each_are step are o [] = tt
  each_are step are o (x ∷ xs) = all-append Is (step o x).entries (each step (step o x).outer xs).entries (are o x) (each_are step are (step o x).outer xs)

  pub flat_are : {X : Type 0} (f : X → List Entry) → ((x : X) → AllByRecursion Is (f x)) → (xs : List X) → AllByRecursion Is (flat_map f xs)
  flat_are f are [] = tt
  flat_are f are (x ∷ xs) = all-append Is (f x) (flat_map f xs) (are x) (flat_are f are xs)

  pub flat_all : {X : Type 0} (Has : X → Type 0) (f : X → List Entry) → ((x : X) → Has x → AllByRecursion Is (f x)) → (xs : List X) → AllByRecursion Has xs → AllByRecursion Is (flat_map f xs)
  flat_all Has f are [] has = tt
  flat_all Has f are (x ∷ xs) has = all-append Is (f x) (flat_map f xs) (are x has.0) (flat_all Has f are xs has.1)

  -- with the number of the tick
  module _ (time : (tick : ℕ) → Is (entry.Time tick)) where
    pub number_are : (o : OuterState) → AllByRecursion Is (ticked_entry o)
    number_are o = by (o.in_tick && not o.stamped)
      where
        by : (b : Bool) → AllByRecursion Is (if b then entry.Time o.clock ∷ [] else [])
        by true = (time o.clock, tt)
        by false = tt

    pub stamp_are : (o : OuterState) (entered : List Entry) → AllByRecursion Is entered → AllByRecursion Is (stamp o entered)
    stamp_are o [] are = tt
    stamp_are o (e ∷ entered) are = all-append Is (ticked_entry o) (e ∷ entered) (number_are o) are

-- ---- the chip

-- it tells of a unit that is written, of a frame of the controller, or that the chip is full
abbrev pub IsOfChip : Entry → Type 0
IsOfChip (entry.Written side unit) = Unit {0}
IsOfChip (entry.Dropped side) = Unit {0}
IsOfChip (entry.Garbled side unit) = Unit {0}
IsOfChip (entry.Overrun side) = Unit {0}
IsOfChip (entry.Air frame sender receiver repeaters payload) = sender ≡ controller
IsOfChip entry.ChipFull = Unit {0}
IsOfChip _ = ⊥

-- or that a link is forgotten
abbrev pub IsOfEnd : Entry → Type 0
IsOfEnd (entry.Forget a b) = Unit {0}
IsOfEnd e = IsOfChip e

mark_of_chip : (e : Entry) → IsMark e → IsOfChip e
mark_of_chip (entry.Dropped side) mark = tt
mark_of_chip (entry.Garbled side unit) mark = tt
mark_of_chip (entry.Overrun side) mark = tt
mark_of_chip e mark = absurd mark

pub told_of_chip : (side : Side) (way : WayState) (unit : LineUnit) → AllByRecursion IsOfChip (told side way unit)
told_of_chip side way unit = (tt, all-weaker IsMark IsOfChip mark_of_chip _ (told_by_marks side way.bytes (mark_for way.marks unit) (unit_text unit)))

-- of the serial line and of what is shown: a unit of a side and what became of it, a pipe that is cleared, a device
abbrev pub IsOfPipe : Side → Entry → Type 0
IsOfPipe by (entry.Written side unit) = by ≡ side
IsOfPipe by (entry.Dropped side) = Unit {0}
IsOfPipe by (entry.Garbled side unit) = Unit {0}
IsOfPipe by (entry.Overrun side) = Unit {0}
IsOfPipe by (entry.Cleared side count) = Unit {0}
IsOfPipe by (entry.Device node setting) = Unit {0}
IsOfPipe by (entry.Refused refusal) = Unit {0}
IsOfPipe by _ = ⊥

pub told_of_pipe : (side : Side) (way : WayState) (unit : LineUnit) → AllByRecursion (IsOfPipe side) (told side way unit)
told_of_pipe side way unit = (refl, all-weaker IsMark (IsOfPipe side) one _ (told_by_marks side way.bytes (mark_for way.marks unit) (unit_text unit)))
  where
    one : (e : Entry) → IsMark e → IsOfPipe side e
    one (entry.Dropped by) mark = tt
    one (entry.Garbled by unit) mark = tt
    one (entry.Overrun by) mark = tt
    one e mark = absurd mark

put_of_chip : (o : OuterState) (out : ChipOut) → AllByRecursion IsOfChip (put_out o out).entries
put_of_chip o (Write unit) = told_of_chip by_chip o.to_host unit
put_of_chip o (OnAir to route payload) = (refl, tt)
put_of_chip o NoRoute = tt
put_of_chip o (AskInfo node) = tt
put_of_chip o Full = (tt, tt)

pub does_of_chip : (o : OuterState) (event : ChipEvent) → AllByRecursion IsOfChip (chip_does o event).entries
unfolding chip_does
does_of_chip o event = each_are IsOfChip put_out put_of_chip (with_chip o (after o.chip.state event)) (outs o.chip.state event)

calls : Calls (λ o x. AllByRecursion IsOfChip x.entries)
calls = record {
  still = λ o p is. tt;
  both = λ o first next before later. all-append IsOfChip first.entries (next first.outer).entries before (later first.outer);
  later = λ o p x is are. are;
  result = λ o event is. does_of_chip o event;
}

-- a frame of the chip has ended, and no link is forgotten
pub calls_of_chip : (o : OuterState) (status : ℕ) → AllByRecursion IsOfChip (and_then (no_routes (leading o.calls) o) (λ later. call_back later (unwrap_or (status_of status) Fail))).entries
calls_of_chip o status = calls_go (λ o x. AllByRecursion IsOfChip x.entries) calls o status

pub due_of_chip : (o : OuterState) (devices : List State) (due : List Due) (route : Option Route) → AllByRecursion IsOfChip (gives o devices due route).entries
due_of_chip o devices due route = due_goes (λ o x. AllByRecursion IsOfChip x.entries) calls o devices due route

pub payload_of_chip : (o : OuterState) (from : ℕ) (payload : List ℕ) → AllByRecursion IsOfChip (to_chip o from payload).entries
payload_of_chip o from payload = payload_goes (λ o x. AllByRecursion IsOfChip x.entries) calls (λ p node heard. does_of_chip p (chip_hears node heard)) o from payload

pub chip_of_end : (e : Entry) → IsOfChip e → IsOfEnd e
chip_of_end (entry.Forget a b) of_chip = tt
chip_of_end e of_chip = of_chip

ends : Calls (λ o x. AllByRecursion IsOfEnd x.entries)
ends = record {
  still = λ o p is. tt;
  both = λ o first next before later. all-append IsOfEnd first.entries (next first.outer).entries before (later first.outer);
  later = λ o p x is are. are;
  result = λ o event is. all-weaker IsOfChip IsOfEnd chip_of_end (chip_does o event).entries (does_of_chip o event);
}

pub ends_of_end : (o : OuterState) (status : ℕ) (dead : Option (ℕ × ℕ)) → AllByRecursion IsOfEnd (frame_ends o status dead).entries
ends_of_end o status dead = end_goes (λ o x. AllByRecursion IsOfEnd x.entries) ends (λ o a b. (tt, tt)) o status dead

-- ---- a device

-- the device of a node did it
abbrev pub IsOwn : ℕ → Entry → Type 0
IsOwn node (entry.Dev at by setting) = at ≡ node
IsOwn node (entry.Air frame sender receiver repeaters payload) = sender ≡ node
IsOwn node _ = ⊥

abbrev pub AreOwn : ℕ → List Entry → Type 0
AreOwn node told = AllByRecursion (IsOwn node) told

pub change_own : (node : ℕ) (change : Option Change) → AreOwn node (change_entries node change)
change_own node None = tt
change_own node (Some change) = settings change.settings
  where
    settings : (l : List Setting) → AreOwn node (map (λ (setting : Setting). entry.Dev node change.by setting) l)
    settings [] = tt
    settings (s ∷ l) = (refl, settings l)

-- what a device that hears a frame tells, one thing after another
abbrev pub hearing : AirState → ℕ → Option Route → State → DeviceEvent → List AirEvent
hearing air node route device event =
    changed node (length device.journal) (length (device_after device event).journal - length device.journal)
    ++ answers_if (is_joined air node) air node (option_map backwards route) (device_replies device event)

module _ (Is : AirEvent → Type 0) (node : ℕ) (changes : (at : ℕ) → Is (air_event.Changed node at))
    (sends : (frame : ℕ) (route : Route) (payload : List ℕ) → Is (air_event.Sent frame node 1 route payload)) where
  changed_are : (first count : ℕ) → AllByRecursion Is (changed node first count)
  changed_are first zero = tt
  changed_are first (suc count) = (changes first, changed_are (first + 1) count)

  answers_are : (air : AirState) (over : Option Route) (replies : List (List ℕ)) → AllByRecursion Is (answers air node over replies)
  answers_are air over [] = tt
  answers_are air over (reply ∷ replies) = (sends (air.frames.sent + 1) (unwrap_or over no_route) reply, answers_are (departing air node Homeward over reply) over replies)

  pub answers_if_are : (joined : Bool) (air : AirState) (over : Option Route) (replies : List (List ℕ)) → AllByRecursion Is (answers_if joined air node over replies)
  answers_if_are true air over replies = answers_are air over replies
  answers_if_are false air over replies = tt

  pub hearing_are : (air : AirState) (route : Option Route) (device : State) (event : DeviceEvent) → AllByRecursion Is (hearing air node route device event)
  hearing_are air route device event =
      all-append Is (changed node (length device.journal) (length (device_after device event).journal - length device.journal)) _
      (changed_are (length device.journal) (length (device_after device event).journal - length device.journal))
      (answers_if_are (is_joined air node) air (option_map backwards route) (device_replies device event))

  -- it is there, or nothing is told
  module _ (number : ℕ) (heard : Is (air_event.Heard number)) where
    pub outs_at_are : (m : Mesh) (found : Option State) (route : Option Route) (event : DeviceEvent) → AllByRecursion Is (outs_at m found number node route event)
    outs_at_are m None route event = tt
    outs_at_are m (Some device) route event = (heard, hearing_are m.air route device event)

    pub outs_again_are : (m : Mesh) (place : Option ℕ) (route : Option Route) (event : DeviceEvent) → AllByRecursion Is (outs_again m place number node route event)
    outs_again_are m None route event = tt
    outs_again_are m (Some place) route event = outs_at_are m (slice_get m.devices place) route event

-- a frame of the node
abbrev IsSentBy : ℕ → AirEvent → Type 0
IsSentBy node (air_event.Sent frame from to route payload) = from ≡ node
IsSentBy node event = Unit {0}

sent_own : (node : ℕ) (events : List AirEvent) → AllByRecursion (IsSentBy node) events → AreOwn node (flat_map sent_entries events)
sent_own node events are = flat_all (IsOwn node) (IsSentBy node) sent_entries one events are
  where
    one : (event : AirEvent) → IsSentBy node event → AreOwn node (sent_entries event)
    one (air_event.Sent frame from to route payload) is = (is, tt)
    one event is = tt

pub acts_own : (o : OuterState) (device : State) (event : DeviceEvent) (route : Option Route) → AreOwn device.node (acts o device event route).entries
acts_own o device event route =
    let told : List AirEvent = answers_if (is_joined o.air device.node) o.air device.node (option_map backwards route) (device_replies device event) in
    all-append (IsOwn device.node) (changes_entries device.node (new_changes device event)) (sends o device.node route (device_replies device event)).entries
    (flat_are (IsOwn device.node) (λ (change : Change). change_entries device.node (Some change)) (λ change. change_own device.node (Some change)) (new_changes device event))
    (sent_own device.node told
    (answers_if_are (IsSentBy device.node) device.node (λ at. tt) (λ frame over payload. refl) (is_joined o.air device.node) o.air (option_map backwards route) (device_replies device event)))

-- ---- kinds of events

-- a frame arrives or is heard again
abbrev pub HearsFrame : OuterEvent → Type 0
HearsFrame (Arrives drawn route) = Unit {0}
HearsFrame (Repeats number drawn route) = Unit {0}
HearsFrame event = ⊥

-- or a device does something of itself or by hand
abbrev pub Acts : OuterEvent → Type 0
Acts (Device_ticks place drawn route) = Unit {0}
Acts (Wakes_device node route) = Unit {0}
Acts (Sets_device node value route) = Unit {0}
Acts event = HearsFrame event

-- a device is shown
abbrev pub IsShowing : OuterEvent → Type 0
IsShowing (Shows node) = Unit {0}
IsShowing event = ⊥

-- a line does it, which may be refused, or clears a pipe
abbrev pub MayAnswer : OuterEvent → Type 0
MayAnswer (Repeats number drawn route) = Unit {0}
MayAnswer (Wakes_device node route) = Unit {0}
MayAnswer (Sets_device node value route) = Unit {0}
MayAnswer (Clears_pipe side) = Unit {0}
MayAnswer event = IsShowing event

-- the host notes nothing by it
abbrev pub NotesNone : OuterEvent → Type 0
NotesNone (Host_notes note) = ⊥
NotesNone event = Unit {0}

pub own_notes_none : (event : OuterEvent) → is_own event ≡ true → NotesNone event
own_notes_none (Host_notes note) own = absurd (let none : false ≡ true = own in cc)
own_notes_none event own = tt

-- no frame arrives or is heard again
abbrev pub HearsNone : OuterEvent → Type 0
HearsNone (Arrives drawn route) = ⊥
HearsNone (Repeats number drawn route) = ⊥
HearsNone event = Unit {0}

pub hears_none : (event : OuterEvent) → HearsNone event → HearsFrame event → ⊥
hears_none (Arrives drawn route) none hears = none
hears_none (Repeats number drawn route) none hears = none
hears_none event none hears = hears

-- ---- what they enter

-- such an event may enter it, but for the number of the tick and what the host notes
abbrev pub Enters : OuterEvent → Entry → Type 0
Enters event (entry.Heard frame) = HearsFrame event
Enters event (entry.Lost frame) = HearsFrame event
Enters event (entry.Unheard frame) = HearsFrame event
Enters event (entry.Forget a b) = HearsFrame event
Enters event (entry.Dev node by setting) = Acts event
Enters event (entry.Air frame sender receiver repeaters payload) = (sender ≡ controller) ⊎ Acts event
Enters event (entry.Device node setting) = IsShowing event
Enters event (entry.Refused refusal) = MayAnswer event
Enters event (entry.Cleared side count) = MayAnswer event
Enters event e = IsOfChip e

pub chip_enters : (event : OuterEvent) (e : Entry) → IsOfChip e → Enters event e
chip_enters event (entry.Heard frame) of_chip = absurd of_chip
chip_enters event (entry.Lost frame) of_chip = absurd of_chip
chip_enters event (entry.Unheard frame) of_chip = absurd of_chip
chip_enters event (entry.Forget a b) of_chip = absurd of_chip
chip_enters event (entry.Dev node by setting) of_chip = absurd of_chip
chip_enters event (entry.Air frame sender receiver repeaters payload) of_chip = inl of_chip
chip_enters event (entry.Device node setting) of_chip = absurd of_chip
chip_enters event (entry.Refused refusal) of_chip = absurd of_chip
chip_enters event (entry.Cleared side count) of_chip = absurd of_chip
chip_enters event e of_chip = of_chip

pub own_enters : (event : OuterEvent) → Acts event → (node : ℕ) (e : Entry) → IsOwn node e → Enters event e
own_enters event acting node (entry.Dev at by setting) own = acting
own_enters event acting node (entry.Air frame sender receiver repeaters payload) own = inr acting
own_enters event acting node e own = absurd own

-- what the chip enters
chip_enter : (event : OuterEvent) (told : List Entry) → AllByRecursion IsOfChip told → AllByRecursion (Enters event) told
chip_enter event told are = all-weaker IsOfChip (Enters event) (chip_enters event) told are

-- a frame is heard
module _ (event : OuterEvent) (hears : HearsFrame event) (acting : Acts event) where
  end_enters : (e : Entry) → IsOfEnd e → Enters event e
  end_enters (entry.Forget a b) of_end = hears
  end_enters e of_end = chip_enters event e of_end

  deal_enters : (devices : List State) (o : OuterState) (told : AirEvent) → AllByRecursion (Enters event) (deals devices o told).entries
  deal_enters devices o (air_event.Heard frame) = (hears, tt)
  deal_enters devices o (air_event.Lost frame) = (hears, tt)
  deal_enters devices o (air_event.Unheard frame) = (hears, tt)
  deal_enters devices o (air_event.Sent frame from to route payload) = (inr acting, tt)
  deal_enters devices o (air_event.Changed node at) =
      all-weaker (IsOwn node) (Enters event) (own_enters event acting node) _ (change_own node (change_at (device_at devices (place_of node devices)) at))
  deal_enters devices o (air_event.ToChip frame from payload) = chip_enter event _ (payload_of_chip o from payload)
  deal_enters devices o (air_event.Done frame status dead) = all-weaker IsOfEnd (Enters event) end_enters _ (ends_of_end o status dead)

  pub steps_enter : (w : Outside) (step : AirStep) → AllByRecursion (Enters event) (steps w step).entries
  steps_enter w step =
      each_are (Enters event) (deals (mesh_after (mesh_of w) step).devices) (deal_enters (mesh_after (mesh_of w) step).devices) (record w.outer { air = (mesh_after (mesh_of w) step).air })
      (mesh_outs (mesh_of w) step)

repeats_enter : (w : Outside) (refused : Option Refusal) (number : ℕ) (drawn : List ℕ) (route : Option Route)
    → AllByRecursion (Enters (Repeats number drawn route)) (repeats w refused (mesh.Repeats number drawn route)).entries
repeats_enter w (Some NeverSent) number drawn route = (tt, tt)
repeats_enter w (Some Forgotten) number drawn route = (tt, tt)
repeats_enter w (Some (Stale later)) number drawn route = (tt, tt)
repeats_enter w None number drawn route = steps_enter (Repeats number drawn route) tt tt w (mesh.Repeats number drawn route)

-- a device acts
at_enters : (event : OuterEvent) → Acts event → (o : OuterState) (found : Option State) (what : DeviceEvent) (route : Option Route) → AllByRecursion (Enters event) (acts_at o found what route).entries
at_enters event acting o None what route = tt
at_enters event acting o (Some device) what route =
    all-weaker (IsOwn device.node) (Enters event) (own_enters event acting device.node) (acts o device what route).entries (acts_own o device what route)

hand_enters : (event : OuterEvent) → Acts event → MayAnswer event → (o : OuterState) (devices : List State) (place : Option ℕ) (what : DeviceEvent) (route : Option Route)
    → AllByRecursion (Enters event) (acts_by_hand o devices place what route).entries
hand_enters event acting answered o devices None what route = (answered, tt)
hand_enters event acting answered o devices (Some place) what route = at_enters event acting o (slice_get devices place) what route

shown_enters : (node : ℕ) (e : Entry) → IsShown e → Enters (Shows node) e
shown_enters node (entry.Device at setting) shown = tt
shown_enters node (entry.Refused refusal) shown = tt
shown_enters node e shown = absurd shown

cleared_enters : (side : Side) (e : Entry) → IsCleared e → Enters (Clears_pipe side) e
cleared_enters side (entry.Cleared by count) cleared = tt
cleared_enters side e cleared = absurd cleared

pub outcome_enters : (w : Outside) (event : OuterEvent) → NotesNone event → AllByRecursion (Enters event) (outcome w event).entries
unfolding outcome
outcome_enters w (Host_writes unit) none = chip_enter (Host_writes unit) (told by_host w.outer.to_chip unit) (told_of_chip by_host w.outer.to_chip unit)
outcome_enters w (Host_notes note) none = absurd none
outcome_enters w (Chip_takes count rest ways) none =
    chip_enter (Chip_takes count rest ways) (chip_takes w.outer count rest ways).entries
    (each_are IsOfChip chip_does does_of_chip (record w.outer { to_chip = way.after w.outer.to_chip (way.Takes count); chip = record { decoder = rest; state = w.outer.chip.state } }) (judged_all ways))
outcome_enters w (Arrives drawn route) none = steps_enter (Arrives drawn route) tt tt w (mesh.Arrives drawn route)
outcome_enters w (Gives route) none = chip_enter (Gives route) (gives w.outer w.devices w.outer.due route).entries (due_of_chip w.outer w.devices w.outer.due route)
outcome_enters w (Device_ticks place drawn route) none = at_enters (Device_ticks place drawn route) tt w.outer (slice_get w.devices place) (Ticks drawn) route
outcome_enters w Chip_ticks none =
    chip_enter Chip_ticks (chip_ticks w.outer).entries (does_of_chip (record w.outer { chip = record { decoder = after_tick w.outer.chip.decoder; state = w.outer.chip.state } }) Ticked)
outcome_enters w (Repeats number drawn route) none = repeats_enter w (refusal_of w.outer.air.frames number) number drawn route
outcome_enters w (Wakes_device node route) none = hand_enters (Wakes_device node route) tt tt w.outer w.devices (place_of node w.devices) Wakes route
outcome_enters w (Sets_device node value route) none = hand_enters (Sets_device node value route) tt tt w.outer w.devices (place_of node w.devices) (Sets value) route
outcome_enters w (Shows node) none =
    all-weaker IsShown (Enters (Shows node)) (shown_enters node) (shown_entries node (device_at w.devices (place_of node w.devices))) (all_shown node (device_at w.devices (place_of node w.devices)))
outcome_enters w (Clears_pipe side) none =
    all-weaker IsCleared (Enters (Clears_pipe side)) (cleared_enters side) (cleared_entries side (length (way_of w.outer side).bytes)) (all_cleared side (length (way_of w.outer side).bytes))
outcome_enters w event none = tt

-- ---- events of the serial line, and what is shown

abbrev pub IsOfPipes : OuterEvent → Type 0
IsOfPipes (Host_writes unit) = Unit {0}
IsOfPipes (Host_takes count) = Unit {0}
IsOfPipes (Shows node) = Unit {0}
IsOfPipes (Marks_loss side) = Unit {0}
IsOfPipes (Marks_change side garble) = Unit {0}
IsOfPipes (Clears_pipe side) = Unit {0}
IsOfPipes (Stalls ticks) = Unit {0}
IsOfPipes (Cuts size) = Unit {0}
IsOfPipes event = ⊥

shown_of_pipe : (e : Entry) → IsShown e → IsOfPipe by_host e
shown_of_pipe (entry.Device at setting) shown = tt
shown_of_pipe (entry.Refused refusal) shown = tt
shown_of_pipe e shown = absurd shown

cleared_of_pipe : (e : Entry) → IsCleared e → IsOfPipe by_host e
cleared_of_pipe (entry.Cleared by count) cleared = tt
cleared_of_pipe e cleared = absurd cleared

pub pipes_enter : (w : Outside) (event : OuterEvent) → IsOfPipes event → AllByRecursion (IsOfPipe by_host) (outcome w event).entries
unfolding outcome
pipes_enter w (Host_writes unit) is = told_of_pipe by_host w.outer.to_chip unit
pipes_enter w (Shows node) is = all-weaker IsShown (IsOfPipe by_host) shown_of_pipe _ (all_shown node (device_at w.devices (place_of node w.devices)))
pipes_enter w (Clears_pipe side) is = all-weaker IsCleared (IsOfPipe by_host) cleared_of_pipe _ (all_cleared side (length (way_of w.outer side).bytes))
pipes_enter w (Host_takes count) is = tt
pipes_enter w (Marks_loss side) is = tt
pipes_enter w (Marks_change side garble) is = tt
pipes_enter w (Stalls ticks) is = tt
pipes_enter w (Cuts size) is = tt
pipes_enter w event is = absurd is

-- chip and air stay
pub pipes_leave : (w : Outside) (event : OuterEvent) → IsOfPipes event → ((outcome w event).outer.chip ≡ w.outer.chip) × ((outcome w event).outer.air ≡ w.outer.air)
unfolding outcome
pipes_leave w (Host_writes unit) is = (refl, refl)
pipes_leave w (Host_takes count) is = (refl, refl)
pipes_leave w (Shows node) is = (refl, refl)
pipes_leave w (Marks_loss by_host) is = (refl, refl)
pipes_leave w (Marks_loss by_chip) is = (refl, refl)
pipes_leave w (Marks_change by_host garble) is = (refl, refl)
pipes_leave w (Marks_change by_chip garble) is = (refl, refl)
pipes_leave w (Clears_pipe by_host) is = (refl, refl)
pipes_leave w (Clears_pipe by_chip) is = (refl, refl)
pipes_leave w (Stalls ticks) is = (refl, refl)
pipes_leave w (Cuts size) is = (refl, refl)
pipes_leave w event is = absurd is
