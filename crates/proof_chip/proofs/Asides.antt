-- Entries that tell nothing of the chip, of time or of fates, by the events outside the host at which no frame arrives or is heard again, no result comes and the chip takes nothing; and the port
-- of the chip, which stays.
use Rattle.std.proofs.Common.{◌≡◌, ℕ, ◌==◌, Bool, true, false, List, [], ◌∷◌, refl, sym, ap, ◌∙◌, eqb-true}
use Rattle.std.specs.Prelude.{Option, Some, None, option_map, slice_get}
use Rattle.std.specs.List.{AllByRecursion, flat_map}
use Rattle.zw_base.proofs.Each.{all-append, all-weaker}
use Rattle.serial_frame.specs.Items.{unit_text}
use Rattle.serial_pipes.specs.State.{mark_for}
use Rattle.route_table.specs.declared.route.Route.{Route}
use Rattle.device_sim.specs.State.{State}
use Rattle.device_sim.specs.Event.{DeviceEvent, Ticks, Wakes, Sets, device_replies}
use Rattle.mesh_sim.specs.Air.{AirState, departing, is_joined}
use Rattle.air_frames.specs.declared.frame.Heading.TheVariants.{Homeward}
use Rattle.mesh_sim.specs.Fates.{place_of}
use Rattle.mesh_sim.specs.Routes.{backwards}
use Rattle.mesh_sim.specs.Steps.{answers, answers_if}
use Rattle.zw_words.specs.declared.side.Side.TheVariants.{Host as by_host, Chip as by_chip}
use Rattle.zw_text.specs.declared.entry.Entry.{Entry}
use Rattle.zw_text.specs.declared.entry.Entry.TheVariants as entry
use Rattle.law_transcript.specs.Nodes.{controller}
use Rattle.outside_model.specs.State.{OuterState, Outside}
use Rattle.outside_model.specs.Results.{device_at}
use Rattle.outside_model.specs.Air.{sent_entries}
use Rattle.outside_model.specs.Devices.{acts_at, acts_by_hand, changes_entries, new_changes}
use Rattle.outside_model.specs.Events.{OuterEvent, Begins_line, Begins_tick, Host_writes, Host_takes, Host_notes, Host_begins, Chip_takes, Arrives, Gives, Device_ticks, Chip_ticks, Repeats, Wakes_device, Sets_device, Shows, Joins, Discovers, Marks_loss, Marks_change, Clears_pipe, Collides_next, outcome, IsCleared}
use Rattle.proof_air.proofs.Entered.{IsChange, IsMark, IsShown, all_cleared, all_shown, changes_entered, told_by_marks}
use Rattle.proof_air.specs.proof_walk.Outside.{IsNote, IsSimple}
use Rattle.proof_chip.proofs.Settling.{IsIdle}
use Rattle.proof_chip.proofs.Telling.{IsAside}
use Rattle.proof_line.proofs.Colliding.{discovers_port, joins_port}

-- neither of a unit of the chip or a frame of the controller, nor a line, the number of a tick or a fate
abbrev pub IsUnrelated : Entry → Type 0
IsUnrelated e = IsAside e × IsIdle e

abbrev pub AreUnrelated : List Entry → Type 0
AreUnrelated told = AllByRecursion IsUnrelated told

-- the controller has not joined the air
abbrev pub NotHome : AirState → Type 0
NotHome air = is_joined air controller ≡ false

pub other_node : (air : AirState) (node : ℕ) → NotHome air → is_joined air node ≡ true → (node == controller) ≡ false
other_node air node home joins = by (node == controller) refl
  where
    by : (b : Bool) → (node == controller) ≡ b → b ≡ false
    by false is = refl
    by true is = let both : false ≡ true = sym home ∙ ap (λ (n : ℕ). is_joined air n) (sym (eqb-true node controller is)) ∙ joins in cc

-- an event that is none of the host's, at which neither a line nor a tick begins, no frame arrives or is heard again, no result comes and the chip takes nothing
abbrev pub IsSteady : OuterEvent → Type 0
IsSteady Begins_line = ⊥
IsSteady Begins_tick = ⊥
IsSteady (Host_writes unit) = ⊥
IsSteady (Host_takes count) = ⊥
IsSteady (Host_notes note) = ⊥
IsSteady (Host_begins node sessions) = ⊥
IsSteady (Chip_takes count rest ways) = ⊥
IsSteady (Arrives drawn route) = ⊥
IsSteady (Gives route) = ⊥
IsSteady (Repeats number drawn route) = ⊥
IsSteady event = Unit {0}

-- and the chip does nothing at it
abbrev pub IsStill : OuterEvent → Type 0
IsStill Chip_ticks = ⊥
IsStill Collides_next = ⊥
IsStill event = IsSteady event

-- what the host does at the line, and what it notes
abbrev pub IsHosts : OuterEvent → Type 0
IsHosts (Host_writes unit) = Unit {0}
IsHosts (Host_takes count) = Unit {0}
IsHosts (Host_notes note) = IsNote note
IsHosts (Host_begins node sessions) = Unit {0}
IsHosts event = ⊥

-- ---- entries

note_unrelated : (e : Entry) → IsNote e → IsUnrelated e
note_unrelated (entry.Said words) note = absurd note
note_unrelated (entry.Written side unit) note = absurd note
note_unrelated (entry.Air frame sender receiver repeaters payload) note = absurd note
note_unrelated (entry.Heard frame) note = absurd note
note_unrelated (entry.Lost frame) note = absurd note
note_unrelated (entry.Unheard frame) note = absurd note
note_unrelated (entry.Time tick) note = absurd note
note_unrelated entry.ChipFull note = absurd note
note_unrelated e note = (tt, (tt, tt))

mark_unrelated : (e : Entry) → IsMark e → IsUnrelated e
mark_unrelated (entry.Dropped side) mark = (tt, (tt, tt))
mark_unrelated (entry.Garbled side unit) mark = (tt, (tt, tt))
mark_unrelated (entry.Overrun side) mark = (tt, (tt, tt))
mark_unrelated e mark = absurd mark

pub change_unrelated : (e : Entry) → IsChange e → IsUnrelated e
change_unrelated (entry.Dev node by setting) change = (tt, (tt, tt))
change_unrelated e change = absurd change

cleared_unrelated : (e : Entry) → IsCleared e → IsUnrelated e
cleared_unrelated (entry.Cleared side count) cleared = (tt, (tt, tt))
cleared_unrelated e cleared = absurd cleared

shown_unrelated : (e : Entry) → IsShown e → IsUnrelated e
shown_unrelated (entry.Device node setting) shown = (tt, (tt, tt))
shown_unrelated (entry.Refused refusal) shown = (tt, (tt, tt))
shown_unrelated e shown = absurd shown

answers_apart : (air : AirState) (node : ℕ) (way : Option Route) (replies : List (List ℕ)) → (node == controller) ≡ false → AreUnrelated (flat_map sent_entries (answers air node way replies))
answers_apart air node way [] other = tt
answers_apart air node way (reply ∷ replies) other = ((tt, (tt, other)), answers_apart (departing air node Homeward way reply) node way replies other)

sends_apart : (joined : Bool) (air : AirState) (node : ℕ) (way : Option Route) (replies : List (List ℕ)) → (joined ≡ true → (node == controller) ≡ false)
    → AreUnrelated (flat_map sent_entries (answers_if joined air node way replies))
sends_apart true air node way replies other = answers_apart air node way replies (other refl)
sends_apart false air node way replies other = tt

pub at_apart : (o : OuterState) (found : Option State) (event : DeviceEvent) (route : Option Route) → NotHome o.air → AreUnrelated (acts_at o found event route).entries
at_apart o None event route home = tt
at_apart o (Some device) event route home =
    all-append IsUnrelated (changes_entries device.node (new_changes device event))
    (flat_map sent_entries (answers_if (is_joined o.air device.node) o.air device.node (option_map backwards route) (device_replies device event)))
    (all-weaker IsChange IsUnrelated change_unrelated _ (changes_entered device.node (new_changes device event)))
    (sends_apart (is_joined o.air device.node) o.air device.node (option_map backwards route) (device_replies device event) (other_node o.air device.node home))

hand_apart : (o : OuterState) (there : List State) (place : Option ℕ) (event : DeviceEvent) (route : Option Route) → NotHome o.air → AreUnrelated (acts_by_hand o there place event route).entries
hand_apart o there None event route home = ((tt, (tt, tt)), tt)
hand_apart o there (Some place) event route home = at_apart o (slice_get there place) event route home

-- an event that does one thing
pub simple_apart : (w : Outside) (event : OuterEvent) → IsSimple event → AreUnrelated (outcome w event).entries
unfolding outcome
simple_apart w (Host_writes unit) simple =
    ((tt, (tt, tt)), all-weaker IsMark IsUnrelated mark_unrelated _ (told_by_marks by_host w.outer.to_chip.bytes (mark_for w.outer.to_chip.marks unit) (unit_text unit)))
simple_apart w (Host_notes note) simple = (note_unrelated note simple.0, tt)
simple_apart w (Shows node) simple = all-weaker IsShown IsUnrelated shown_unrelated _ (all_shown node (device_at w.devices (place_of node w.devices)))
simple_apart w (Clears_pipe by_host) simple = all-weaker IsCleared IsUnrelated cleared_unrelated _ (all_cleared by_host _)
simple_apart w (Clears_pipe by_chip) simple = all-weaker IsCleared IsUnrelated cleared_unrelated _ (all_cleared by_chip _)
simple_apart w Begins_line simple = absurd simple
simple_apart w Begins_tick simple = absurd simple
simple_apart w (Host_begins node sessions) simple = absurd simple
simple_apart w (Chip_takes count rest ways) simple = absurd simple
simple_apart w (Arrives drawn route) simple = absurd simple
simple_apart w (Gives route) simple = absurd simple
simple_apart w (Device_ticks place drawn route) simple = absurd simple
simple_apart w Chip_ticks simple = absurd simple
simple_apart w (Repeats number drawn route) simple = absurd simple
simple_apart w (Wakes_device node route) simple = absurd simple
simple_apart w (Sets_device node value route) simple = absurd simple
simple_apart w event simple = tt

-- one that is none of the host's
pub still_apart : (w : Outside) (event : OuterEvent) → IsStill event → NotHome w.outer.air → AreUnrelated (outcome w event).entries
unfolding outcome
still_apart w (Device_ticks place drawn route) still home = at_apart w.outer (slice_get w.devices place) (Ticks drawn) route home
still_apart w (Wakes_device node route) still home = hand_apart w.outer w.devices (place_of node w.devices) Wakes route home
still_apart w (Sets_device node value route) still home = hand_apart w.outer w.devices (place_of node w.devices) (Sets value) route home
still_apart w (Shows node) still home = simple_apart w (Shows node) tt
still_apart w (Clears_pipe side) still home = simple_apart w (Clears_pipe side) tt
still_apart w Begins_line still home = absurd still
still_apart w Begins_tick still home = absurd still
still_apart w (Host_writes unit) still home = absurd still
still_apart w (Host_takes count) still home = absurd still
still_apart w (Host_notes note) still home = absurd still
still_apart w (Host_begins node sessions) still home = absurd still
still_apart w (Chip_takes count rest ways) still home = absurd still
still_apart w (Arrives drawn route) still home = absurd still
still_apart w (Gives route) still home = absurd still
still_apart w (Repeats number drawn route) still home = absurd still
still_apart w Chip_ticks still home = absurd still
still_apart w Collides_next still home = absurd still
still_apart w event still home = tt

-- ---- the port

at_port : (o : OuterState) (found : Option State) (event : DeviceEvent) (route : Option Route) → (acts_at o found event route).outer.chip.state.port ≡ o.chip.state.port
at_port o None event route = refl
at_port o (Some device) event route = refl

hand_port : (o : OuterState) (there : List State) (place : Option ℕ) (event : DeviceEvent) (route : Option Route) → (acts_by_hand o there place event route).outer.chip.state.port ≡ o.chip.state.port
hand_port o there None event route = refl
hand_port o there (Some place) event route = at_port o (slice_get there place) event route

-- of an event that does one thing, but for a collision
pub simple_port : (w : Outside) (event : OuterEvent) → IsSimple event → (event ≡ Collides_next → ⊥) → (outcome w event).outer.chip.state.port ≡ w.outer.chip.state.port
unfolding outcome
simple_port w (Joins node) simple other = joins_port w.outer node _
simple_port w Discovers simple other = discovers_port w.outer
simple_port w (Marks_loss by_host) simple other = refl
simple_port w (Marks_loss by_chip) simple other = refl
simple_port w (Marks_change by_host garble) simple other = refl
simple_port w (Marks_change by_chip garble) simple other = refl
simple_port w (Clears_pipe by_host) simple other = refl
simple_port w (Clears_pipe by_chip) simple other = refl
simple_port w Collides_next simple other = absurd (other refl)
simple_port w Begins_line simple other = absurd simple
simple_port w Begins_tick simple other = absurd simple
simple_port w (Host_begins node sessions) simple other = absurd simple
simple_port w (Chip_takes count rest ways) simple other = absurd simple
simple_port w (Arrives drawn route) simple other = absurd simple
simple_port w (Gives route) simple other = absurd simple
simple_port w (Device_ticks place drawn route) simple other = absurd simple
simple_port w Chip_ticks simple other = absurd simple
simple_port w (Repeats number drawn route) simple other = absurd simple
simple_port w (Wakes_device node route) simple other = absurd simple
simple_port w (Sets_device node value route) simple other = absurd simple
simple_port w event simple other = refl

pub still_port : (w : Outside) (event : OuterEvent) → IsStill event → (outcome w event).outer.chip.state.port ≡ w.outer.chip.state.port
unfolding outcome
still_port w (Device_ticks place drawn route) still = at_port w.outer (slice_get w.devices place) (Ticks drawn) route
still_port w (Wakes_device node route) still = hand_port w.outer w.devices (place_of node w.devices) Wakes route
still_port w (Sets_device node value route) still = hand_port w.outer w.devices (place_of node w.devices) (Sets value) route
still_port w (Joins node) still = joins_port w.outer node _
still_port w Discovers still = discovers_port w.outer
still_port w (Marks_loss side) still = simple_port w (Marks_loss side) tt (λ is. cc)
still_port w (Marks_change side garble) still = simple_port w (Marks_change side garble) tt (λ is. cc)
still_port w (Clears_pipe side) still = simple_port w (Clears_pipe side) tt (λ is. cc)
still_port w Begins_line still = absurd still
still_port w Begins_tick still = absurd still
still_port w (Host_writes unit) still = absurd still
still_port w (Host_takes count) still = absurd still
still_port w (Host_notes note) still = absurd still
still_port w (Host_begins node sessions) still = absurd still
still_port w (Chip_takes count rest ways) still = absurd still
still_port w (Arrives drawn route) still = absurd still
still_port w (Gives route) still = absurd still
still_port w (Repeats number drawn route) still = absurd still
still_port w Chip_ticks still = absurd still
still_port w Collides_next still = absurd still
still_port w event still = refl

-- what the host does
pub hosts_apart : (w : Outside) (event : OuterEvent) → IsHosts event → AreUnrelated (outcome w event).entries
unfolding outcome
hosts_apart w (Host_writes unit) is = simple_apart w (Host_writes unit) tt
hosts_apart w (Host_takes count) is = tt
hosts_apart w (Host_notes note) is = (note_unrelated note is, tt)
hosts_apart w (Host_begins node sessions) is = tt
hosts_apart w event is = absurd is
