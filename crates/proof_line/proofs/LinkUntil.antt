-- No event outside the host but a `stall` changes until when bytes are stalled.
use Rattle.std.proofs.Common.{◌≡◌, ◌&&◌, ℕ, zero, suc, Bool, true, false, if◌then◌else◌, List, [], ◌∷◌, nat_le, length, drop, refl, ◌∙◌}
use Rattle.std.specs.Prelude.{Option, Some, None, slice_get}
use Rattle.std.specs.Option.{unwrap_or}
use Rattle.serial_frame.specs.Stream.{after_tick}
use Rattle.route_table.specs.declared.route.Route.{Route}
use Rattle.route_table.specs.Network.{linked}
use Rattle.chip_functions.specs.Notice.{status_of}
use Rattle.chip_functions.specs.declared.notice.TransmitStatus.{TransmitStatus}
use Rattle.chip_functions.specs.declared.notice.TransmitStatus.TheVariants.{Fail, NoRoute}
use Rattle.chip_sim.specs.Events.{ChipEvent, Ticked, Heard as chip_hears, Informed, Done, after, outs}
use Rattle.chip_sim.specs.Did.{judged_all}
use Rattle.chip_sim.specs.declared.out.ChipOut.{ChipOut}
use Rattle.chip_sim.specs.declared.out.ChipOut.TheVariants as chip_out
use Rattle.proof_world.specs.device_sim.State.{State}
use Rattle.proof_world.specs.device_sim.Event.{DeviceEvent, Ticks, Wakes, Sets}
use Rattle.air_frames.specs.Ages.{refusal_of}
use Rattle.air_frames.specs.declared.ages.Refusal.{Refusal as RepeatRefusal}
use Rattle.proof_walk.specs.mesh_sim.declared.event.AirEvent.{AirEvent}
use Rattle.proof_walk.specs.mesh_sim.declared.event.AirEvent.TheVariants as air_event
use Rattle.proof_walk.specs.mesh_sim.Fates.{place_of}
use Rattle.proof_walk.specs.mesh_sim.Steps.{AirStep, mesh_after, mesh_outs}
use Rattle.proof_walk.specs.mesh_sim.Steps as mesh
use Rattle.serial_pipes.specs.Events.{Takes}
use Rattle.serial_pipes.specs.Events as way
use Rattle.zw_words.specs.declared.side.Side.TheVariants.{Host as by_host, Chip as by_chip}
use Rattle.proof_walk.specs.outside_model.declared.waits.Due.{Due}
use Rattle.proof_walk.specs.outside_model.declared.waits.Due.TheVariants.{Info, NoRoute as no_route_due}
use Rattle.proof_walk.specs.outside_model.State.{OuterState, Outside, Outcome, silent, with_chip}
use Rattle.proof_walk.specs.outside_model.Chip.{put_out, chip_does}
use Rattle.proof_walk.specs.outside_model.Results.{call_back, forgets, frame_ends, gives, leading, no_route, no_routes, owes_call, profile_for, without_no_route}
use Rattle.proof_walk.specs.outside_model.Air.{deals}
use Rattle.proof_walk.specs.outside_model.Devices.{acts_at, acts_by_hand}
use Rattle.proof_walk.specs.outside_model.Events.{OuterEvent, Chip_takes, Arrives, Gives, Device_ticks, Chip_ticks, Repeats, Wakes_device, Sets_device, Marks_loss, Marks_change, Clears_pipe, Stalls, mesh_of, outcome, repeats, steps}
use Rattle.proof_walk.proofs.Times.{each_keeps}

abbrev until : OuterState → ℕ
until o = o.stalled_until

-- it is the same after this
abbrev Leaves : OuterState → Outcome → Type 0
Leaves o x = x.outer.stalled_until ≡ o.stalled_until

-- ---- the chip

put_leaves : (o : OuterState) (out : ChipOut) → Leaves o (put_out o out)
put_leaves o (chip_out.Write unit) = refl
put_leaves o (chip_out.OnAir to route payload) = refl
put_leaves o chip_out.NoRoute = refl
put_leaves o (chip_out.AskInfo node) = refl
put_leaves o chip_out.Full = refl

does_leave : (o : OuterState) (event : ChipEvent) → Leaves o (chip_does o event)
unfolding chip_does
does_leave o event = each_keeps until put_out put_leaves (with_chip o (after o.chip.state event)) (outs o.chip.state event)

if_leaves : (b : Bool) (o : OuterState) (x y : Outcome) → Leaves o x → Leaves o y → Leaves o (if b then x else y)
if_leaves true o x y one two = one
if_leaves false o x y one two = two

-- ---- results

call_leaves : (o : OuterState) (status : TransmitStatus) → Leaves o (call_back o status)
call_leaves o status =
    let p : OuterState = record o { calls = drop 1 o.calls } in
    if_leaves (owes_call o.chip.state) o (chip_does p (Done status)) (silent p) (does_leave p (Done status)) refl

no_route_leaves : (o : OuterState) → Leaves o (no_route o)
no_route_leaves o = call_leaves (record o { due = without_no_route o.due }) NoRoute

no_routes_leave : (count : ℕ) (o : OuterState) → Leaves o (no_routes count o)
no_routes_leave zero o = refl
no_routes_leave (suc count) o = no_routes_leave count (no_route o).outer ∙ no_route_leaves o

forgets_leave : (o : OuterState) (dead : Option (ℕ × ℕ)) → Leaves o (forgets o dead)
forgets_leave o None = refl
forgets_leave o (Some hop) = if_leaves (linked o.chip.state.table hop.0 hop.1) o _ (silent o) refl refl

ends_leave : (o : OuterState) (status : ℕ) (dead : Option (ℕ × ℕ)) → Leaves o (frame_ends o status dead)
ends_leave o status dead =
    let forgot : OuterState = (forgets o dead).outer in
    let later : OuterState = (no_routes (leading forgot.calls) forgot).outer in
    call_leaves later (unwrap_or (status_of status) Fail) ∙ no_routes_leave (leading forgot.calls) forgot ∙ forgets_leave o dead

gives_leave : (o : OuterState) (devices : List State) (due : List Due) (route : Option Route) → Leaves o (gives o devices due route)
gives_leave o devices [] route = refl
gives_leave o devices (no_route_due ∷ due) route = no_route_leaves o
gives_leave o devices (Info node ∷ due) route = does_leave (record o { due = due }) (Informed node (profile_for o.air devices node route))

-- ---- the air and the devices

deals_leave : (devices : List State) (o : OuterState) (event : AirEvent) → Leaves o (deals devices o event)
deals_leave devices o (air_event.Heard frame) = refl
deals_leave devices o (air_event.Lost frame) = refl
deals_leave devices o (air_event.Unheard frame) = refl
deals_leave devices o (air_event.Sent frame from to route payload) = refl
deals_leave devices o (air_event.Changed node at) = refl
deals_leave devices o (air_event.ToChip frame from payload) =
    if_leaves (nat_le 1 (length payload) && nat_le (length payload) 46) o (chip_does o (chip_hears from payload)) (silent o) (does_leave o (chip_hears from payload)) refl
deals_leave devices o (air_event.Done frame status dead) = ends_leave o status dead

steps_leave : (w : Outside) (step : AirStep) → Leaves w.outer (steps w step)
steps_leave w step =
    let devices : List State = (mesh_after (mesh_of w) step).devices in
    each_keeps until (deals devices) (deals_leave devices) (record w.outer { air = (mesh_after (mesh_of w) step).air }) (mesh_outs (mesh_of w) step)

repeats_leave : (w : Outside) (refused : Option RepeatRefusal) (step : AirStep) → Leaves w.outer (repeats w refused step)
repeats_leave w None step = steps_leave w step
repeats_leave w (Some refused) step = refl

at_leaves : (o : OuterState) (device : Option State) (event : DeviceEvent) (route : Option Route) → Leaves o (acts_at o device event route)
at_leaves o None event route = refl
at_leaves o (Some device) event route = refl

hand_leaves : (o : OuterState) (devices : List State) (place : Option ℕ) (event : DeviceEvent) (route : Option Route) → Leaves o (acts_by_hand o devices place event route)
hand_leaves o devices None event route = refl
hand_leaves o devices (Some place) event route = at_leaves o (slice_get devices place) event route

-- ---- events

abbrev pub StallsNot : OuterEvent → Type 0
StallsNot (Stalls ticks) = ⊥
StallsNot event = Unit {0}

pub outcome_leaves : (w : Outside) (event : OuterEvent) → StallsNot event → Leaves w.outer (outcome w event)
unfolding outcome
outcome_leaves w (Stalls ticks) apart = absurd apart
outcome_leaves w (Chip_takes count rest ways) apart =
    each_keeps until chip_does does_leave (record w.outer { to_chip = way.after w.outer.to_chip (Takes count); chip = record { decoder = rest; state = w.outer.chip.state } }) (judged_all ways)
outcome_leaves w (Arrives drawn route) apart = steps_leave w (mesh.Arrives drawn route)
outcome_leaves w (Gives route) apart = gives_leave w.outer w.devices w.outer.due route
outcome_leaves w (Device_ticks place drawn route) apart = at_leaves w.outer (slice_get w.devices place) (Ticks drawn) route
outcome_leaves w Chip_ticks apart = does_leave (record w.outer { chip = record { decoder = after_tick w.outer.chip.decoder; state = w.outer.chip.state } }) Ticked
outcome_leaves w (Repeats number drawn route) apart = repeats_leave w (refusal_of w.outer.air.frames number) (mesh.Repeats number drawn route)
outcome_leaves w (Wakes_device node route) apart = hand_leaves w.outer w.devices (place_of node w.devices) Wakes route
outcome_leaves w (Sets_device node value route) apart = hand_leaves w.outer w.devices (place_of node w.devices) (Sets value) route
outcome_leaves w (Marks_loss by_host) apart = refl
outcome_leaves w (Marks_loss by_chip) apart = refl
outcome_leaves w (Marks_change by_host garble) apart = refl
outcome_leaves w (Marks_change by_chip garble) apart = refl
outcome_leaves w (Clears_pipe by_host) apart = refl
outcome_leaves w (Clears_pipe by_chip) apart = refl
outcome_leaves w event apart = refl
