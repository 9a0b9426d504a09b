-- No event but those that begin a line or a tick changes the line or the tick; and what the chip puts out leaves the chip alone.
use Rattle.std.proofs.Common.{◌≡◌, ℕ, ◌&&◌, not, Bool, if◌then◌else◌, List, [], ◌∷◌, refl, ◌∙◌, ap}
use Rattle.std.specs.Prelude.{Option, Some, None, slice_get}
use Rattle.route_table.specs.declared.route.Route.{Route}
use Rattle.air_frames.specs.Ages.{refusal_of}
use Rattle.air_frames.specs.declared.ages.Refusal.{Refusal}
use Rattle.proof_device.specs.chip_sim.State.{ChipParts}
use Rattle.proof_device.specs.chip_sim.Events.{ChipEvent, Ticked, after, outs}
use Rattle.proof_device.specs.chip_sim.Did.{judged_all}
use Rattle.proof_device.specs.chip_sim.declared.out.ChipOut.{ChipOut}
use Rattle.proof_device.specs.chip_sim.declared.out.ChipOut.TheVariants as chip_out
use Rattle.proof_device.specs.device_sim.State.{State}
use Rattle.proof_device.specs.device_sim.Event.{DeviceEvent, Ticks, Wakes, Sets}
use Rattle.proof_device.specs.mesh_sim.declared.event.AirEvent.{AirEvent}
use Rattle.proof_device.specs.mesh_sim.declared.event.AirEvent.TheVariants as air_event
use Rattle.proof_device.specs.mesh_sim.Fates.{place_of}
use Rattle.proof_device.specs.mesh_sim.Steps.{AirStep, mesh_after, mesh_outs}
use Rattle.proof_device.specs.mesh_sim.Steps as mesh
use Rattle.serial_frame.specs.Stream.{after_tick}
use Rattle.serial_pipes.specs.Events.{Takes}
use Rattle.serial_pipes.specs.Events as way
use Rattle.zw_words.specs.declared.side.Side.TheVariants.{Host as by_host, Chip as by_chip}
use Rattle.zw_text.specs.declared.entry.Entry.TheVariants as entry
use Rattle.proof_device.specs.outside_model.State.{OuterState, Outside, Outcome, each, with_chip}
use Rattle.proof_device.specs.outside_model.Chip.{put_out, chip_does}
use Rattle.proof_device.specs.outside_model.Air.{deals}
use Rattle.proof_device.specs.outside_model.Devices.{acts_at, acts_by_hand}
use Rattle.proof_device.specs.outside_model.Events.{OuterEvent, Begins_line, Begins_tick, Chip_takes, Arrives, Gives, Device_ticks, Chip_ticks, Repeats, Wakes_device, Sets_device, Marks_loss, Marks_change, Clears_pipe, mesh_of, outcome, repeats, steps, ticked_entry}
use Rattle.proof_device.proofs.Results.{Gives as GivesSo, IsSameChip, ends_go, gives_go, to_chip_goes}

-- whether a tick runs, whether its number was entered, and the number
abbrev pub time_of : OuterState → Bool × Bool × ℕ
time_of o = (o.in_tick, o.stamped, o.clock)

abbrev pub IsSameTime : OuterState → OuterState → Type 0
IsSameTime o p = time_of p ≡ time_of o

-- the same number is still to be entered
pub same_number : (o p : OuterState) → IsSameTime o p → ticked_entry p ≡ ticked_entry o
same_number o p same = ap (λ (t : Bool × Bool × ℕ). if t.0 && not t.1 then entry.Time t.2 ∷ [] else []) same

-- ---- one thing after another

pub each_keeps : {S X : Type 0} (f : OuterState → S) (step : OuterState → X → Outcome) → ((o : OuterState) (x : X) → f (step o x).outer ≡ f o) → (o : OuterState) (xs : List X)
    → f (each step o xs).outer ≡ f o
each_keeps f step keeps o [] = refl
each_keeps f step keeps o (x ∷ xs) = each_keeps f step keeps (step o x).outer xs ∙ keeps o x

-- ---- the chip

pub puts_chip : (o : OuterState) (out : ChipOut) → (put_out o out).outer.chip ≡ o.chip
puts_chip o (chip_out.Write unit) = refl
puts_chip o (chip_out.OnAir to route payload) = refl
puts_chip o chip_out.NoRoute = refl
puts_chip o (chip_out.AskInfo node) = refl
puts_chip o chip_out.Full = refl

pub does_chip : (o : OuterState) (event : ChipEvent) → (chip_does o event).outer.chip.state ≡ after o.chip.state event
unfolding chip_does
does_chip o event =
    ap (λ (c : ChipParts). c.state) (each_keeps (λ (p : OuterState). p.chip) put_out puts_chip (with_chip o (after o.chip.state event)) (outs o.chip.state event))

put_time : (o : OuterState) (out : ChipOut) → IsSameTime o (put_out o out).outer
put_time o (chip_out.Write unit) = refl
put_time o (chip_out.OnAir to route payload) = refl
put_time o chip_out.NoRoute = refl
put_time o (chip_out.AskInfo node) = refl
put_time o chip_out.Full = refl

pub does_time : (o : OuterState) (event : ChipEvent) → IsSameTime o (chip_does o event).outer
unfolding chip_does
does_time o event = each_keeps time_of put_out put_time (with_chip o (after o.chip.state event)) (outs o.chip.state event)

-- ---- results

abbrev LeavesTime : OuterState → Outcome → Type 0
LeavesTime o x = IsSameTime o x.outer

results : GivesSo LeavesTime
results = record {
  still = same_time;
  both = λ o first next one later. later first.outer ∙ one;
  later = λ o p x is goes. goes ∙ same_time o p is;
  does = λ o event given. does_time o event;
  forgotten = λ o a b. refl;
}
  where
    same_time : (o p : OuterState) → IsSameChip o p → IsSameTime o p
    same_time o p is = rw is.in_tick (rw is.stamped (rw is.clock refl))

-- ---- the air and the devices

deals_time : (devices : List State) (o : OuterState) (event : AirEvent) → IsSameTime o (deals devices o event).outer
deals_time devices o (air_event.Heard frame) = refl
deals_time devices o (air_event.Lost frame) = refl
deals_time devices o (air_event.Unheard frame) = refl
deals_time devices o (air_event.Sent frame from to route payload) = refl
deals_time devices o (air_event.Changed node at) = refl
deals_time devices o (air_event.ToChip frame from payload) = to_chip_goes LeavesTime results o from payload
deals_time devices o (air_event.Done frame status dead) = ends_go LeavesTime results o status dead

steps_time : (w : Outside) (step : AirStep) → IsSameTime w.outer (steps w step).outer
steps_time w step =
    let devices : List State = (mesh_after (mesh_of w) step).devices in
    each_keeps time_of (deals devices) (deals_time devices) (record w.outer { air = (mesh_after (mesh_of w) step).air }) (mesh_outs (mesh_of w) step)

repeats_time : (w : Outside) (refused : Option Refusal) (step : AirStep) → IsSameTime w.outer (repeats w refused step).outer
repeats_time w None step = steps_time w step
repeats_time w (Some refused) step = refl

at_time : (o : OuterState) (device : Option State) (event : DeviceEvent) (route : Option Route) → IsSameTime o (acts_at o device event route).outer
at_time o None event route = refl
at_time o (Some device) event route = refl

hand_time : (o : OuterState) (devices : List State) (place : Option ℕ) (event : DeviceEvent) (route : Option Route) → IsSameTime o (acts_by_hand o devices place event route).outer
hand_time o devices None event route = refl
hand_time o devices (Some place) event route = at_time o (slice_get devices place) event route

-- ---- events

-- it begins neither a line nor a tick
abbrev pub IsWithin : OuterEvent → Type 0
IsWithin Begins_line = ⊥
IsWithin Begins_tick = ⊥
IsWithin _ = Unit {0}

pub outcome_time : (w : Outside) (event : OuterEvent) → IsWithin event → IsSameTime w.outer (outcome w event).outer
unfolding outcome
outcome_time w Begins_line within = absurd within
outcome_time w Begins_tick within = absurd within
outcome_time w (Chip_takes count rest ways) within =
    each_keeps time_of chip_does does_time (record w.outer { to_chip = way.after w.outer.to_chip (Takes count); chip = record { decoder = rest; state = w.outer.chip.state } }) (judged_all ways)
outcome_time w (Arrives drawn route) within = steps_time w (mesh.Arrives drawn route)
outcome_time w (Gives route) within = gives_go LeavesTime results w.outer w.devices w.outer.due route
outcome_time w (Device_ticks place drawn route) within = at_time w.outer (slice_get w.devices place) (Ticks drawn) route
outcome_time w Chip_ticks within = does_time (record w.outer { chip = record { decoder = after_tick w.outer.chip.decoder; state = w.outer.chip.state } }) Ticked
outcome_time w (Repeats number drawn route) within = repeats_time w (refusal_of w.outer.air.frames number) (mesh.Repeats number drawn route)
outcome_time w (Wakes_device node route) within = hand_time w.outer w.devices (place_of node w.devices) Wakes route
outcome_time w (Sets_device node value route) within = hand_time w.outer w.devices (place_of node w.devices) (Sets value) route
outcome_time w (Marks_loss by_host) within = refl
outcome_time w (Marks_loss by_chip) within = refl
outcome_time w (Marks_change by_host garble) within = refl
outcome_time w (Marks_change by_chip garble) within = refl
outcome_time w (Clears_pipe by_host) within = refl
outcome_time w (Clears_pipe by_chip) within = refl
outcome_time w event within = refl
