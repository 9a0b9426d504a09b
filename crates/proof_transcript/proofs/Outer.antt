-- What happens outside the host begins no tick but where one begins, says no line and reports no value; and which events may refuse a line.
use Rattle.std.proofs.Common.{◌≡◌, ℕ, ◌&&◌, not, Bool, true, false, if◌then◌else◌, Option, Some, None, List, [], ◌∷◌, refl, ap, ◌∙◌}
use Rattle.std.specs.Prelude.{slice_get}
use Rattle.std.specs.List.{AllByRecursion, flat_map}
use Rattle.std.specs.Option.{option_map}
use Rattle.zw_base.proofs.Each.{all-append, all-weaker}
use Rattle.zw_words.specs.declared.side.Side.{Side}
use Rattle.zw_text.specs.declared.entry.Entry.{Entry}
use Rattle.zw_text.specs.declared.entry.Entry.TheVariants as entry
use Rattle.serial_frame.specs.declared.unit.Unit.{Unit as LineUnit}
use Rattle.serial_frame.specs.Items.{unit_text}
use Rattle.serial_pipes.specs.State.{WayState, mark_for}
use Rattle.serial_pipes.specs.Events.{told, told_by}
use Rattle.route_table.specs.declared.route.Route.{Route}
use Rattle.chip_sim.specs.Events.{ChipEvent, after, outs}
use Rattle.chip_sim.specs.Did.{judged_all}
use Rattle.chip_sim.specs.declared.out.ChipOut.{ChipOut}
use Rattle.chip_sim.specs.declared.out.ChipOut.TheVariants as chip_out
use Rattle.device_kinds.specs.declared.change.Change.{Change}
use Rattle.device_sim.specs.State.{State}
use Rattle.device_sim.specs.Event.{DeviceEvent, device_replies}
use Rattle.air_frames.specs.declared.ages.Refusal.{Refusal as RepeatRefusal}
use Rattle.air_frames.specs.declared.ages.Refusal.TheVariants as repeat
use Rattle.proof_air.specs.mesh_sim.Air.{is_joined}
use Rattle.proof_air.specs.mesh_sim.Steps.{AirStep, answers_if, mesh_after, mesh_outs}
use Rattle.proof_air.specs.mesh_sim.Routes.{backwards}
use Rattle.proof_air.specs.mesh_sim.declared.event.AirEvent.{AirEvent}
use Rattle.proof_air.specs.mesh_sim.declared.event.AirEvent.TheVariants as air_event
use Rattle.proof_air.specs.outside_model.State.{OuterState, Outside, Outcome, each, with_chip}
use Rattle.proof_air.specs.outside_model.Chip.{put_out, chip_does}
use Rattle.proof_air.specs.outside_model.Air.{change_entries, sent_entries, deals}
use Rattle.proof_air.specs.outside_model.Devices.{changes_entries, new_changes, sends, acts_at, acts_by_hand, shown_entries}
use Rattle.proof_air.specs.outside_model.Events.{OuterEvent, Begins_line, Begins_tick, Host_writes, Host_takes, Host_notes, Host_begins, Chip_takes, Arrives, Gives as gives_due, Device_ticks, Chip_ticks, Repeats, Wakes_device, Sets_device, Shows, Clears_pipe, is_own, cleared_entries, mesh_of, steps, repeats, outcome, stamp, has_entered, ticked_entry, happens, entries, IsCleared}
use Rattle.proof_spoken.proofs.Entered.{IsMark, told_by_marks, all_cleared, IsShown, all_shown, IsChange, change_entered, changes_entered}
use Rattle.proof_spoken.proofs.Results.{Gives, ends_go, gives_go, to_chip_goes}
use Rattle.proof_air.proofs.Times.{outcome_time}

-- an entry that says no line, and refuses one or reports a value only where that may be
abbrev pub IsPlain : Bool → Bool → Entry → Type 0
IsPlain refusals reports (entry.Said words) = ⊥
IsPlain refusals reports (entry.Refused refusal) = refusals ≡ true
IsPlain refusals reports (entry.Report node setting) = reports ≡ true
IsPlain refusals reports _ = Unit {0}

abbrev pub ArePlain : Bool → Bool → List Entry → Type 0
ArePlain refusals reports entries = AllByRecursion (IsPlain refusals reports) entries

-- no tick begins, and a line is refused only where that may be
abbrev pub IsMildOuter : Bool → OuterEvent → Type 0
IsMildOuter refusals Begins_tick = ⊥
IsMildOuter refusals (Repeats number drawn route) = refusals ≡ true
IsMildOuter refusals (Wakes_device node route) = refusals ≡ true
IsMildOuter refusals (Sets_device node value route) = refusals ≡ true
IsMildOuter refusals (Shows node) = refusals ≡ true
IsMildOuter refusals event = Unit {0}

-- ---- what these stand for in other words

mark_plain : (refusals reports : Bool) (e : Entry) → IsMark e → IsPlain refusals reports e
mark_plain refusals reports (entry.Dropped side) mark = tt
mark_plain refusals reports (entry.Garbled side unit) mark = tt
mark_plain refusals reports (entry.Overrun side) mark = tt
mark_plain refusals reports e mark = absurd mark

cleared_is_plain : (refusals reports : Bool) (e : Entry) → IsCleared e → IsPlain refusals reports e
cleared_is_plain refusals reports (entry.Cleared side count) cleared = tt
cleared_is_plain refusals reports e cleared = absurd cleared

change_is_plain : (refusals reports : Bool) (e : Entry) → IsChange e → IsPlain refusals reports e
change_is_plain refusals reports (entry.Dev node by setting) change = tt
change_is_plain refusals reports e change = absurd change

shown_is_plain : (refusals reports : Bool) → refusals ≡ true → (e : Entry) → IsShown e → IsPlain refusals reports e
shown_is_plain refusals reports may (entry.Device node setting) shown = tt
shown_is_plain refusals reports may (entry.Refused refusal) shown = may
shown_is_plain refusals reports may e shown = absurd shown

module _ (refusals reports : Bool) where
  -- such entries are told
  abbrev pub Tells : OuterState → Outcome → Type 0
  Tells o done = ArePlain refusals reports done.entries

  -- ---- lists

  each_tells : {X : Type 0} (step : OuterState → X → Outcome) → ((o : OuterState) (x : X) → Tells o (step o x)) → (o : OuterState) (xs : List X) → Tells o (each step o xs)
  each_tells step tells o [] = tt
  each_tells step tells o (x ∷ xs) =
      all-append (IsPlain refusals reports) (step o x).entries (each step (step o x).outer xs).entries (tells o x) (each_tells step tells (step o x).outer xs)

  flat_plain : {X : Type 0} (f : X → List Entry) → ((x : X) → ArePlain refusals reports (f x)) → (xs : List X) → ArePlain refusals reports (flat_map f xs)
  flat_plain f plain [] = tt
  flat_plain f plain (x ∷ xs) = all-append (IsPlain refusals reports) (f x) (flat_map f xs) (plain x) (flat_plain f plain xs)

  -- ---- the line and the chip

  pub told_plain : (side : Side) (way : WayState) (unit : LineUnit) → ArePlain refusals reports (told side way unit)
  told_plain side way unit =
      (tt, all-weaker IsMark (IsPlain refusals reports) (mark_plain refusals reports) (told_by side way.bytes (mark_for way.marks unit) (unit_text unit)) (told_by_marks side way.bytes (mark_for way.marks unit) (unit_text unit)))

  put_tells : (o : OuterState) (out : ChipOut) → Tells o (put_out o out)
  put_tells o (chip_out.Write unit) = told_plain _ o.to_host unit
  put_tells o (chip_out.OnAir to route payload) = (tt, tt)
  put_tells o chip_out.NoRoute = tt
  put_tells o (chip_out.AskInfo node) = tt
  put_tells o chip_out.Full = (tt, tt)

  does_tells : (o : OuterState) (event : ChipEvent) → Tells o (chip_does o event)
  unfolding chip_does
  does_tells o event = each_tells put_out put_tells (with_chip o (after o.chip.state event)) (outs o.chip.state event)

  results : Gives Tells
  results = record {
    still = λ o p is. tt;
    both = λ o first next before later. all-append (IsPlain refusals reports) first.entries (next first.outer).entries before (later first.outer);
    later = λ o p x is tells. tells;
    does = λ o event given. does_tells o event;
    forgotten = λ o a b. (tt, tt);
  }

  -- ---- the air

  changes_plain : (node : ℕ) (changes : List Change) → ArePlain refusals reports (changes_entries node changes)
  changes_plain node changes = all-weaker IsChange (IsPlain refusals reports) (change_is_plain refusals reports) (changes_entries node changes) (changes_entered node changes)

  sent_plain : (event : AirEvent) → ArePlain refusals reports (sent_entries event)
  sent_plain (air_event.Heard frame) = tt
  sent_plain (air_event.Lost frame) = tt
  sent_plain (air_event.Unheard frame) = tt
  sent_plain (air_event.Sent frame from to route payload) = (tt, tt)
  sent_plain (air_event.Changed node at) = tt
  sent_plain (air_event.ToChip frame from payload) = tt
  sent_plain (air_event.Done frame status dead) = tt

  deals_tell : (devices : List State) (o : OuterState) (event : AirEvent) → Tells o (deals devices o event)
  deals_tell devices o (air_event.Heard frame) = (tt, tt)
  deals_tell devices o (air_event.Lost frame) = (tt, tt)
  deals_tell devices o (air_event.Unheard frame) = (tt, tt)
  deals_tell devices o (air_event.Sent frame from to route payload) = (tt, tt)
  deals_tell devices o (air_event.Changed node at) = all-weaker IsChange (IsPlain refusals reports) (change_is_plain refusals reports) (change_entries node _) (change_entered node _)
  deals_tell devices o (air_event.ToChip frame from payload) = to_chip_goes Tells results o from payload
  deals_tell devices o (air_event.Done frame status dead) = ends_go Tells results o status dead

  steps_tell : (w : Outside) (step : AirStep) → Tells w.outer (steps w step)
  steps_tell w step =
      each_tells (deals (mesh_after (mesh_of w) step).devices) (deals_tell (mesh_after (mesh_of w) step).devices) (record w.outer { air = (mesh_after (mesh_of w) step).air }) (mesh_outs (mesh_of w) step)

  -- ---- devices

  at_tells : (o : OuterState) (device : Option State) (event : DeviceEvent) (route : Option Route) → Tells o (acts_at o device event route)
  at_tells o None event route = tt
  at_tells o (Some device) event route =
      all-append (IsPlain refusals reports) (changes_entries device.node (new_changes device event)) (sends o device.node route (device_replies device event)).entries
      (changes_plain device.node (new_changes device event))
      (flat_plain sent_entries sent_plain (answers_if (is_joined o.air device.node) o.air device.node (option_map backwards route) (device_replies device event)))

  -- ---- what may be refused

  repeats_tell : (w : Outside) (refused : Option RepeatRefusal) (step : AirStep) → refusals ≡ true → Tells w.outer (repeats w refused step)
  repeats_tell w None step may = steps_tell w step
  repeats_tell w (Some repeat.NeverSent) step may = (may, tt)
  repeats_tell w (Some repeat.Forgotten) step may = (may, tt)
  repeats_tell w (Some (repeat.Stale later)) step may = (may, tt)

  hand_tells : (o : OuterState) (devices : List State) (place : Option ℕ) (event : DeviceEvent) (route : Option Route) → refusals ≡ true → Tells o (acts_by_hand o devices place event route)
  hand_tells o devices None event route may = (may, tt)
  hand_tells o devices (Some place) event route may = at_tells o (slice_get devices place) event route

  -- ---- events

  not_own : false ≡ true → ⊥
  not_own e = cc

  outcome_tells : (w : Outside) (event : OuterEvent) → is_own event ≡ true → IsMildOuter refusals event → Tells w.outer (outcome w event)
  unfolding outcome
  outcome_tells w Begins_tick own mild = absurd mild
  outcome_tells w (Host_writes unit) own mild = absurd (not_own own)
  outcome_tells w (Host_takes count) own mild = absurd (not_own own)
  outcome_tells w (Host_notes entry) own mild = absurd (not_own own)
  outcome_tells w (Host_begins node sessions) own mild = absurd (not_own own)
  outcome_tells w (Chip_takes count rest ways) own mild = each_tells chip_does does_tells _ (judged_all ways)
  outcome_tells w (Arrives drawn route) own mild = steps_tell w _
  outcome_tells w (gives_due route) own mild = gives_go Tells results w.outer w.devices w.outer.due route
  outcome_tells w (Device_ticks place drawn route) own mild = at_tells w.outer (slice_get w.devices place) _ route
  outcome_tells w Chip_ticks own mild = does_tells _ _
  outcome_tells w (Repeats number drawn route) own mild = repeats_tell w _ _ mild
  outcome_tells w (Wakes_device node route) own mild = hand_tells w.outer w.devices _ _ route mild
  outcome_tells w (Sets_device node value route) own mild = hand_tells w.outer w.devices _ _ route mild
  outcome_tells w (Shows node) own mild = all-weaker IsShown (IsPlain refusals reports) (shown_is_plain refusals reports mild) (shown_entries node _) (all_shown node _)
  outcome_tells w (Clears_pipe side) own mild = all-weaker IsCleared (IsPlain refusals reports) (cleared_is_plain refusals reports) (cleared_entries side _) (all_cleared side _)
  outcome_tells w event own mild = tt

  -- ---- with the number of the tick

  pub ticked_plain : (o : OuterState) → ArePlain refusals reports (ticked_entry o)
  ticked_plain o = by (o.in_tick && not o.stamped)
    where
      by : (b : Bool) → ArePlain refusals reports (if b then entry.Time o.clock ∷ [] else [])
      by true = (tt, tt)
      by false = tt

  pub stamp_plain : (o : OuterState) (told : List Entry) → ArePlain refusals reports told → ArePlain refusals reports (stamp o told)
  stamp_plain o [] plain = tt
  stamp_plain o (e ∷ told) plain = all-append (IsPlain refusals reports) (ticked_entry o) (e ∷ told) (ticked_plain o) plain

  pub own_plain : (w : Outside) (event : OuterEvent) → is_own event ≡ true → IsMildOuter refusals event → ArePlain refusals reports (entries w event)
  own_plain w event own mild = stamp_plain (outcome w event).outer (outcome w event).entries (outcome_tells w event own mild)

-- ---- the clock

pub entered_clock : (o : OuterState) (told : List Entry) → (has_entered o told).clock ≡ o.clock
entered_clock o [] = refl
entered_clock o (e ∷ told) = refl

-- an event that begins no tick leaves it
pub own_clock : (refusals : Bool) (w : Outside) (event : OuterEvent) → IsMildOuter refusals event → (happens w event).outer.clock ≡ w.outer.clock
unfolding outcome
own_clock refusals w Begins_line mild = refl
own_clock refusals w Begins_tick mild = absurd mild
own_clock refusals w event mild = entered_clock (outcome w event).outer (outcome w event).entries ∙ ap (λ (t : Bool × Bool × ℕ). t.2) (outcome_time w event tt)
