-- Where nothing is marked, no event of a quiet line or of a tick marks anything.
use Rattle.std.proofs.Common.{◌≡◌, ℕ, zero, suc, ◌+◌, ◌-◌, ◌&&◌, drop, nat_le, Bool, true, false, if◌then◌else◌, List, [], ◌∷◌, ◌++◌, length, refl, sym, ◌∙◌, subst, arith}
use Rattle.std.specs.Prelude.{Option, Some, None, slice_set, option_map, nat_lt}
use Rattle.std.specs.Option.{unwrap_or}
use Rattle.route_table.specs.Network.{linked}
use Rattle.chip_functions.specs.Notice.{status_of}
use Rattle.chip_functions.specs.declared.notice.TransmitStatus.{TransmitStatus}
use Rattle.chip_functions.specs.declared.notice.TransmitStatus.TheVariants.{Fail, NoRoute as no_route_status}
use Rattle.serial_frame.specs.Items.{unit_text}
use Rattle.serial_frame.specs.declared.unit.Unit.{Unit as LineUnit}
use Rattle.serial_frame.specs.declared.unit.Unit.TheVariants.{Ack, Nak, Can, Framed}
use Rattle.serial_frame.specs.declared.item.Item.TheVariants.{Good, Refused}
use Rattle.serial_frame.specs.Stream.{after_tick}
use Rattle.serial_pipes.specs.State.{WayState, MarksState, mark_for}
use Rattle.serial_pipes.specs.Events.{Writes, passing}
use Rattle.serial_pipes.specs.Events as way
use Rattle.route_table.specs.declared.route.Route.{Route}
use Rattle.air_frames.specs.declared.frame.Heading.{Heading}
use Rattle.air_frames.specs.declared.frame.Heading.TheVariants.{Homeward}
use Rattle.air_frames.specs.Frames.{peer_of}
use Rattle.device_sim.specs.State.{State}
use Rattle.device_sim.specs.Event.{DeviceEvent, device_after, device_replies}
use Rattle.chip_sim.specs.State.{ChipState}
use Rattle.chip_sim.specs.Events.{ChipEvent, Judged, Ticked, Heard as chip_hears, Done, Informed, Joined, Linked, Forgets, Collides, after, outs}
use Rattle.chip_sim.specs.declared.out.ChipOut.{ChipOut}
use Rattle.chip_sim.specs.declared.out.ChipOut.TheVariants.{Write, OnAir, NoRoute, AskInfo, Full}
use Rattle.mesh_sim.specs.declared.event.AirEvent.{AirEvent}
use Rattle.mesh_sim.specs.declared.event.AirEvent.TheVariants as air_event
use Rattle.mesh_sim.specs.Air.{AirState, departing, is_joined, beginning}
use Rattle.mesh_sim.specs.Routes.{backwards}
use Rattle.mesh_sim.specs.Steps.{AirStep, landed, mesh_after}
use Rattle.zw_text.specs.declared.entry.Entry.{Entry}
use Rattle.zw_text.specs.declared.entry.Entry.TheVariants as entry
use Rattle.law_transcript.specs.Lists.{EachAfter}
use Rattle.outside_model.specs.declared.waits.Due.{Due}
use Rattle.outside_model.specs.declared.waits.Due.TheVariants.{Info, NoRoute as no_route_due}
use Rattle.outside_model.specs.State.{OuterState, Outside, Outcome, silent, tells, with_chip, each}
use Rattle.outside_model.specs.Chip.{put_out, chip_does, chip_ticks}
use Rattle.outside_model.specs.Results.{call_back, forgets, frame_ends, gives, leading, no_route, no_routes, owes_call, profile_for, without_no_route}
use Rattle.outside_model.specs.Air.{deals, to_chip}
use Rattle.outside_model.specs.Devices.{acts}
use Rattle.outside_model.specs.Events.{OuterEvent, Begins_line, Begins_tick, Host_writes, Host_takes, Host_notes, Host_begins, Chip_takes, Arrives, Gives, Device_ticks, Chip_ticks, Repeats, Wakes_device, Sets_device, Shows, Joins, Discovers, Links, Loses, Loses_acks, Marks_loss, Marks_change, Clears_pipe, Collides_next, Stalls, Cuts, outcome, mesh_of, begins, is_own}
use Rattle.world_model.specs.State.{Machine}
use Rattle.world_model.specs.Events.{Event, happens, May}
use Rattle.proof_work.specs.proof_walk.Outside.{Knowing, Comes, Outer, IsSimple, IsDone, IsHearing, CoversOuter, session_begins}
use Rattle.proof_work.proofs.proof_walk_Machines.{machine_keeps}
use Rattle.proof_calm.proofs.Heard.{Keeps, replied_if, steps_keep}
use Rattle.proof_calm.proofs.Collisions.{event_left, frame_left}
use Rattle.law_transcript.proofs.Deciding.{not_true as not_own}
use Rattle.proof_work.specs.Phases.{AsksNothing}
use Rattle.proof_calm.specs.Marks.{no_marks, HasNoMarks, IsQuietEvent, IsUnmarked}

-- a law that asks nothing
pub nothing_asked : (past told : List Entry) → EachAfter AsksNothing past told
nothing_asked past [] = tt
nothing_asked past (entry ∷ told) = (tt, nothing_asked (past ++ entry ∷ []) told)

-- ---- the serial line

passed_unmarked : (w : WayState) (unit written : LineUnit) → (passing w (mark_for no_marks unit) (unit_text written)).marks ≡ w.marks
passed_unmarked w Ack written = refl
passed_unmarked w Nak written = refl
passed_unmarked w Can written = refl
passed_unmarked w (Framed f) written = refl

pub written_unmarked : (w : WayState) (unit : LineUnit) → w.marks ≡ no_marks → (way.after w (Writes unit)).marks ≡ no_marks
written_unmarked w unit none =
    subst (λ (marks : MarksState). (passing w (mark_for marks unit) (unit_text unit)).marks ≡ no_marks) (sym none) (passed_unmarked w unit unit ∙ none)

-- ---- the air

-- nothing on it is marked
pub record IsClear (air : AirState) : Type 0 where
  pub frames : air.losing ≡ 0
  pub acknowledgements : air.ack_losing ≡ 0

less : (n : ℕ) → n ≡ 0 → n - 1 ≡ 0
less n none = omega (arith, none)

departs_clear : (air : AirState) (node : ℕ) (heading : Heading) (route : Option Route) (payload : List ℕ) → IsClear air → IsClear (departing air node heading route payload)
departs_clear air node heading route payload clear = record { frames = less air.losing clear.frames; acknowledgements = clear.acknowledgements }

landed_clear : (air : AirState) → IsClear air → IsClear (landed air)
landed_clear air clear = record { frames = clear.frames; acknowledgements = clear.acknowledgements }

keeps : Keeps IsClear (λ node. Unit {0})
keeps = record {
  departs = λ air node way reply may clear. departs_clear air node Homeward way reply clear;
  joined = λ air node is clear. tt;
  lands = landed_clear;
  acknowledges = λ air clear. record { frames = clear.frames; acknowledgements = less air.ack_losing clear.acknowledgements };
}

clear_of : (o : OuterState) → HasNoMarks o → IsClear o.air
clear_of o none = record { frames = none.frames; acknowledgements = none.acknowledgements }

with_air : (o : OuterState) (air : AirState) → HasNoMarks o → IsClear air → HasNoMarks (record o { air = air })
with_air o air none clear = record { to_chip = none.to_chip; to_host = none.to_host; frames = clear.frames; acknowledgements = clear.acknowledgements; link = none.link; moves = none.moves }

-- ---- the chip

with_state : (o : OuterState) (s : ChipState) → HasNoMarks o → s.port.side.collisions ≡ 0 → HasNoMarks (with_chip o s)
with_state o s none link = record { to_chip = none.to_chip; to_host = none.to_host; frames = none.frames; acknowledgements = none.acknowledgements; link = link; moves = none.moves }

puts_none : (o : OuterState) (out : ChipOut) → HasNoMarks o → HasNoMarks (put_out o out).outer
puts_none o (Write unit) none =
    record { to_chip = none.to_chip; to_host = written_unmarked o.to_host unit none.to_host; frames = none.frames; acknowledgements = none.acknowledgements; link = none.link; moves = none.moves }
puts_none o (OnAir to route payload) none =
    record { to_chip = none.to_chip; to_host = none.to_host; frames = less o.air.losing none.frames; acknowledgements = none.acknowledgements; link = none.link; moves = none.moves }
puts_none o NoRoute none = none
puts_none o (AskInfo node) none = none
puts_none o Full none = none

puts_all_none : (o : OuterState) (outs : List ChipOut) → HasNoMarks o → HasNoMarks (each put_out o outs).outer
puts_all_none o [] none = none
puts_all_none o (out ∷ outs) none = puts_all_none (put_out o out).outer outs (puts_none o out none)

no_collisions : (s : ChipState) (event : ChipEvent) → IsDone event → s.port.side.collisions ≡ 0 → (after s event).port.side.collisions ≡ 0
no_collisions s (Judged (Good (Framed f)) way) done none = frame_left s f way ∙ less s.port.side.collisions none
no_collisions s (Judged (Good Ack) way) done none = event_left s (Judged (Good Ack) way) tt tt ∙ none
no_collisions s (Judged (Good Nak) way) done none = event_left s (Judged (Good Nak) way) tt tt ∙ none
no_collisions s (Judged (Good Can) way) done none = event_left s (Judged (Good Can) way) tt tt ∙ none
no_collisions s (Judged (Refused r) way) done none = event_left s (Judged (Refused r) way) tt tt ∙ none
no_collisions s Ticked done none = event_left s Ticked tt tt ∙ none
no_collisions s (chip_hears node payload) done none = event_left s (chip_hears node payload) tt tt ∙ none
no_collisions s (Done status) done none = event_left s (Done status) tt tt ∙ none
no_collisions s (Informed node profile) done none = event_left s (Informed node profile) tt tt ∙ none
no_collisions s (Joined node listening) done none = absurd done
no_collisions s (Linked a b live) done none = absurd done
no_collisions s (Forgets a b) done none = event_left s (Forgets a b) tt tt ∙ none
no_collisions s Collides done none = absurd done

pub does_none : (o : OuterState) (event : ChipEvent) → IsDone event → HasNoMarks o → HasNoMarks (chip_does o event).outer
unfolding chip_does
does_none o event done none =
    puts_all_none (with_chip o (after o.chip.state event)) (outs o.chip.state event) (with_state o (after o.chip.state event) none (no_collisions o.chip.state event done none.link))

-- ---- what the chip is given

abbrev LeavesNone : OuterState → Outcome → Type 0
LeavesNone o x = HasNoMarks o → HasNoMarks x.outer

if_none : (b : Bool) (x y : Outcome) → HasNoMarks x.outer → HasNoMarks y.outer → HasNoMarks (if b then x else y).outer
if_none true x y one two = one
if_none false x y one two = two

calls_none : (o : OuterState) (status : TransmitStatus) → LeavesNone o (call_back o status)
calls_none o status none =
    let p : OuterState = record o { calls = drop 1 o.calls } in
    if_none (owes_call o.chip.state) (chip_does p (Done status)) (silent p) (does_none p (Done status) tt none) none

no_route_none : (o : OuterState) → LeavesNone o (no_route o)
no_route_none o none = calls_none (record o { due = without_no_route o.due }) no_route_status none

no_routes_none : (count : ℕ) (o : OuterState) → LeavesNone o (no_routes count o)
no_routes_none zero o none = none
no_routes_none (suc count) o none = no_routes_none count (no_route o).outer (no_route_none o none)

forgets_none : (o : OuterState) (dead : Option (ℕ × ℕ)) → LeavesNone o (forgets o dead)
forgets_none o None none = none
forgets_none o (Some hop) none =
    if_none (linked o.chip.state.table hop.0 hop.1) (tells (with_chip o (after o.chip.state (Forgets hop.0 hop.1))) (entry.Forget hop.0 hop.1 ∷ [])) (silent o)
    (with_state o (after o.chip.state (Forgets hop.0 hop.1)) none none.link) none

ends_none : (o : OuterState) (status : ℕ) (dead : Option (ℕ × ℕ)) → LeavesNone o (frame_ends o status dead)
ends_none o status dead none =
    let forgot : OuterState = (forgets o dead).outer in
    let later : OuterState = (no_routes (leading forgot.calls) forgot).outer in
    calls_none later (unwrap_or (status_of status) Fail) (no_routes_none (leading forgot.calls) forgot (forgets_none o dead none))

gives_none : (o : OuterState) (devices : List State) (due : List Due) (route : Option Route) → LeavesNone o (gives o devices due route)
gives_none o devices [] route none = none
gives_none o devices (no_route_due ∷ due) route none = no_route_none o none
gives_none o devices (Info node ∷ due) route none = does_none (record o { due = due }) (Informed node (profile_for o.air devices node route)) tt none

to_chip_none : (o : OuterState) (from : ℕ) (payload : List ℕ) → LeavesNone o (to_chip o from payload)
to_chip_none o from payload none = if_none (nat_le 1 (length payload) && nat_le (length payload) 46) (chip_does o (chip_hears from payload)) (silent o) (does_none o (chip_hears from payload) tt none) none

deals_none : (devices : List State) (o : OuterState) (event : AirEvent) → HasNoMarks o → HasNoMarks (deals devices o event).outer
deals_none devices o (air_event.ToChip frame from payload) none = to_chip_none o from payload none
deals_none devices o (air_event.Done frame status dead) none = ends_none o status dead none
deals_none devices o (air_event.Heard frame) none = none
deals_none devices o (air_event.Lost frame) none = none
deals_none devices o (air_event.Unheard frame) none = none
deals_none devices o (air_event.Sent frame from to route payload) none = none
deals_none devices o (air_event.Changed node at) none = none

acts_none : (o : OuterState) (device : State) (event : DeviceEvent) (route : Option Route) → HasNoMarks o → HasNoMarks (acts o device event route).outer
acts_none o device event route none =
    with_air o _ none (replied_if IsClear (λ node. Unit {0}) keeps (is_joined o.air device.node) o.air device.node (option_map backwards route) (device_replies device event) refl (clear_of o none))

-- ---- all of it

abbrev Unmarked : Knowing
Unmarked awaits past w = HasNoMarks w.outer

comes : (w : Outside) (x : Outcome) (devices : List State) → LeavesNone w.outer x → Comes AsksNothing Unmarked w x devices Unmarked
comes w x devices leaves awaits past told none = (nothing_asked past x.entries, leaves none)

simple_none : (w : Outside) (event : OuterEvent) → IsSimple event → IsQuietEvent event → HasNoMarks w.outer → HasNoMarks (outcome w event).outer
unfolding outcome
simple_none w (Host_writes unit) simple quiet none =
    record { to_chip = written_unmarked w.outer.to_chip unit none.to_chip; to_host = none.to_host; frames = none.frames; acknowledgements = none.acknowledgements; link = none.link; moves = none.moves }
simple_none w (Host_takes count) simple quiet none = none
simple_none w (Host_notes entry) simple quiet none = none
simple_none w (Shows node) simple quiet none = none
simple_none w (Cuts size) simple quiet none = none
simple_none w Begins_line simple quiet none = absurd simple
simple_none w Begins_tick simple quiet none = absurd simple
simple_none w (Host_begins node sessions) simple quiet none = absurd simple
simple_none w (Chip_takes count rest ways) simple quiet none = absurd simple
simple_none w (Arrives drawn route) simple quiet none = absurd simple
simple_none w (Gives route) simple quiet none = absurd simple
simple_none w (Device_ticks place drawn route) simple quiet none = absurd simple
simple_none w Chip_ticks simple quiet none = absurd simple
simple_none w (Wakes_device node route) simple quiet none = absurd simple
simple_none w event simple quiet none = absurd quiet

session_none : (o : OuterState) (node sessions : ℕ) → HasNoMarks o → HasNoMarks (record o { air = begins o.air node sessions })
session_none o node sessions none = by (nat_le (peer_of o.air.frames node).begun sessions)
  where
    by : (b : Bool) → HasNoMarks (record o { air = if b then beginning o.air node sessions else o.air })
    by true = record { to_chip = none.to_chip; to_host = none.to_host; frames = none.frames; acknowledgements = none.acknowledgements; link = none.link; moves = none.moves }
    by false = record { to_chip = none.to_chip; to_host = none.to_host; frames = none.frames; acknowledgements = none.acknowledgements; link = none.link; moves = none.moves }

-- what a frame that arrives makes of the air
pub steps_none : (w : Outside) (step : AirStep) → IsHearing step → HasNoMarks w.outer → HasNoMarks (record w.outer { air = (mesh_after (mesh_of w) step).air })
steps_none w step hearing none = with_air w.outer (mesh_after (mesh_of w) step).air none (steps_keep IsClear (λ node. Unit {0}) keeps (mesh_of w) step hearing (clear_of w.outer none))

-- a tick later bytes move still
later_moves : (clock until : ℕ) → nat_lt clock until ≡ false → nat_lt (clock + 1) until ≡ false
later_moves clock until moves = grind (arith, moves)

later : (o : OuterState) → HasNoMarks o → HasNoMarks (record o { clock = o.clock + 1; in_tick = true; stamped = false })
later o none = record {
  to_chip = none.to_chip;
  to_host = none.to_host;
  frames = none.frames;
  acknowledgements = none.acknowledgements;
  link = none.link;
  moves = later_moves o.clock o.stalled_until none.moves;
}

pub law : Outer AsksNothing (λ pending. Unmarked) IsQuietEvent
law = record {
  line = λ covers awaits past w none. none;
  tick = λ covers awaits past w none. (tt, later w.outer none);
  number = λ past w none. none;
  stamps = λ awaits stamped past w none. none;
  simple = λ w event simple covers. comes w (outcome w event) w.devices (λ none. simple_none w event simple covers none);
  session = λ w node session command. comes w (session_begins w.outer node session command) w.devices (λ none. session_none w.outer node session none);
  takes = λ w count rest ways may awaits past told none. (tt, none);
  judges = λ w way ways may. comes w (chip_does w.outer (Judged way.0 way.1)) w.devices (λ none. does_none w.outer (Judged way.0 way.1) tt none);
  judged = λ awaits past w none. none;
  ticks = λ w. comes w (chip_ticks w.outer) w.devices (λ none. does_none (record w.outer { chip = record { decoder = after_tick w.outer.chip.decoder; state = w.outer.chip.state } }) Ticked tt none);
  gives = λ w route may. comes w (gives w.outer w.devices w.outer.due route) w.devices (λ none. gives_none w.outer w.devices w.outer.due route none);
  steps = λ w step hearing may awaits past told none. (tt, steps_none w step hearing none);
  deals = λ w event events. comes w (deals w.devices w.outer event) w.devices (λ none. deals_none w.devices w.outer event none);
  acts = λ w place device event route found may. comes w (acts w.outer device event route) (slice_set w.devices place (device_after device event)) (λ none. acts_none w.outer device event route none);
}

-- what a host does outside
pub hosts : (event : OuterEvent) → is_own event ≡ false → IsQuietEvent event
hosts (Host_writes unit) own = tt
hosts (Host_takes count) own = tt
hosts (Host_notes entry) own = tt
hosts (Host_begins node sessions) own = tt
hosts Begins_line own = tt
hosts Begins_tick own = tt
hosts (Chip_takes count rest ways) own = tt
hosts (Arrives drawn route) own = tt
hosts (Gives route) own = tt
hosts (Device_ticks place drawn route) own = tt
hosts Chip_ticks own = tt
hosts (Wakes_device node route) own = tt
hosts (Shows node) own = tt
hosts (Cuts size) own = tt
hosts (Repeats number drawn route) own = absurd (not_own (sym own))
hosts (Sets_device node value route) own = absurd (not_own (sym own))
hosts (Joins node) own = absurd (not_own (sym own))
hosts Discovers own = absurd (not_own (sym own))
hosts (Links a b live) own = absurd (not_own (sym own))
hosts (Loses count) own = absurd (not_own (sym own))
hosts (Loses_acks count) own = absurd (not_own (sym own))
hosts (Marks_loss side) own = absurd (not_own (sym own))
hosts (Marks_change side garble) own = absurd (not_own (sym own))
hosts (Clears_pipe side) own = absurd (not_own (sym own))
hosts Collides_next own = absurd (not_own (sym own))
hosts (Stalls ticks) own = absurd (not_own (sym own))

pub event_unmarked : (m : Machine) (event : Event) → CoversOuter IsQuietEvent event → May m event → IsUnmarked m → IsUnmarked (happens m event)
event_unmarked m event covers may none =
    (machine_keeps AsksNothing (λ pending. Unmarked) IsQuietEvent law hosts m event covers may [] (none, nothing_asked [] _)).1.0
