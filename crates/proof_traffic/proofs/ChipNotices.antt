-- What the chip tells the host changes nothing of the air, and neither its calls nor what is due to it.
use Rattle.std.proofs.Common.{◌≡◌, ℕ, zero, suc, Bool, true, false, if◌then◌else◌, Option, Some, None, List, [], ◌∷◌, ◌++◌, length, refl, ap, sym, ◌∙◌}
use Rattle.std.specs.Prelude.{◌==◌, ◌&&◌, nat_le, drop, slice_get}
use Rattle.std.specs.Option.{unwrap_or}
use Rattle.std.specs.List.{AllByRecursion}
use Rattle.serial_frame.specs.Frame.{FrameParts}
use Rattle.serial_frame.specs.Stream.{after_tick}
use Rattle.serial_link.specs.State.{copy_due}
use Rattle.serial_link.specs.declared.turn.Turn.{Turn}
use Rattle.serial_link.specs.declared.turn.Turn.TheVariants.{Idle, Copied, Paused}
use Rattle.chip_functions.specs.Notice.{status_of}
use Rattle.chip_functions.specs.declared.notice.TransmitStatus.{TransmitStatus}
use Rattle.chip_functions.specs.declared.notice.TransmitStatus.TheVariants.{Fail, NoRoute as no_route_status}
use Rattle.chip_sim.specs.declared.out.ChipOut.{ChipOut}
use Rattle.chip_sim.specs.declared.out.ChipOut.TheVariants.{Write, OnAir, NoRoute, AskInfo, Full}
use Rattle.chip_sim.specs.declared.out.Sending.{Sending}
use Rattle.chip_sim.specs.State.{ChipState}
use Rattle.chip_sim.specs.Requests.{callback_frame}
use Rattle.chip_sim.specs.Waiting.{PortState, is_full, queued_outs, queued_outs_at, ticked, ticked_outs, next_at, written, served_outs}
use Rattle.chip_sim.specs.Events.{ChipEvent, Ticked, Heard as chip_hears, Done as chip_done, Informed, ended_outs, after, outs}
use Rattle.route_table.specs.declared.route.Route.{Route}
use Rattle.route_table.specs.Network.{linked}
use Rattle.proof_device.specs.device_sim.State.{State}
use Rattle.proof_device.specs.device_sim.Event.{DeviceEvent, Ticks}
use Rattle.proof_device.specs.mesh_sim.Steps as mesh
use Rattle.proof_device.specs.mesh_sim.Steps.{mesh_after, mesh_outs}
use Rattle.proof_device.specs.mesh_sim.declared.event.AirEvent.{AirEvent}
use Rattle.proof_device.specs.mesh_sim.declared.event.AirEvent.TheVariants.{Heard, Lost, Unheard, Sent, Changed, ToChip, Done}
use Rattle.zw_text.specs.declared.entry.Entry.{Entry}
use Rattle.proof_device.specs.outside_model.declared.waits.Due.{Due}
use Rattle.proof_device.specs.outside_model.declared.waits.Due.TheVariants.{Info, NoRoute as no_route_due}
use Rattle.proof_device.specs.outside_model.State.{OuterState, Outside, with_chip, each}
use Rattle.proof_device.specs.outside_model.Chip.{put_out, chip_does}
use Rattle.proof_device.specs.outside_model.Results.{owes_call, call_back, no_route, no_routes, leading, forgets, frame_ends, profile_for, informs, gives}
use Rattle.proof_device.specs.outside_model.Air.{to_chip, deals}
use Rattle.proof_device.specs.outside_model.Devices.{acts_at}
use Rattle.proof_device.specs.outside_model.Events.{Arrives, Gives, Device_ticks, Chip_ticks, mesh_of, outcome, has_entered, happens}

-- a unit that goes to the host, or one that found no room
abbrev pub IsSaid : ChipOut → Type 0
IsSaid (Write unit) = Unit {0}
IsSaid (OnAir to route payload) = ⊥
IsSaid NoRoute = ⊥
IsSaid (AskInfo node) = ⊥
IsSaid Full = Unit {0}

abbrev pub AreSaid : List ChipOut → Type 0
AreSaid outs = AllByRecursion IsSaid outs

-- the air, the calls and what is due are as they were
pub record Leaves (o p : OuterState) : Type 0 where
  pub air : p.air ≡ o.air
  pub calls : p.calls ≡ o.calls
  pub due : p.due ≡ o.due

leaves_both : (o p q : OuterState) → Leaves o p → Leaves p q → Leaves o q
leaves_both o p q first later = record { air = later.air ∙ first.air; calls = later.calls ∙ first.calls; due = later.due ∙ first.due }

put_said : (o : OuterState) (out : ChipOut) → IsSaid out → Leaves o (put_out o out).outer
put_said o (Write unit) said = record { air = refl; calls = refl; due = refl }
put_said o (OnAir to route payload) said = absurd said
put_said o NoRoute said = absurd said
put_said o (AskInfo node) said = absurd said
put_said o Full said = record { air = refl; calls = refl; due = refl }

each_said : (o : OuterState) (outs : List ChipOut) → AreSaid outs → Leaves o (each put_out o outs).outer
each_said o [] said = record { air = refl; calls = refl; due = refl }
each_said o (out ∷ outs) said =
    leaves_both o (put_out o out).outer (each put_out (put_out o out).outer outs).outer (put_said o out said.0) (each_said (put_out o out).outer outs said.1)

pub does_said : (o : OuterState) (event : ChipEvent) → AreSaid (outs o.chip.state event) → Leaves o (chip_does o event).outer
unfolding chip_does
does_said o event said =
    let leaves : Leaves (with_chip o (after o.chip.state event)) (each put_out (with_chip o (after o.chip.state event)) (outs o.chip.state event)).outer =
    each_said (with_chip o (after o.chip.state event)) (outs o.chip.state event) said in
    record { air = leaves.air; calls = leaves.calls; due = leaves.due }

-- ---- which are

full_said : (b : Bool) → AreSaid (if b then Full ∷ [] else [])
full_said true = (tt, tt)
full_said false = tt

queued_at : (turn : Turn) (p : PortState) (f : FrameParts) → AreSaid (queued_outs_at turn p f)
queued_at Idle p f = (tt, tt)
queued_at (Copied g copies ticks) p f = full_said (is_full p.waiting)
queued_at (Paused g copies ticks) p f = full_said (is_full p.waiting)

pub queued_said : (p : PortState) (f : FrameParts) → AreSaid (queued_outs p f)
queued_said p f = queued_at p.side.turn p f

pub written_said : (f : Option FrameParts) → AreSaid (written f)
written_said None = tt
written_said (Some f) = (tt, tt)

pub said_both : (a b : List ChipOut) → AreSaid a → AreSaid b → AreSaid (a ++ b)
said_both [] b first later = later
said_both (out ∷ a) b first later = (first.0, said_both a b first.1 later)

pub ticked_said : (p : PortState) → AreSaid (ticked_outs p)
ticked_said p = said_both (written (copy_due p.side.turn)) (served_outs (ticked p)) (written_said (copy_due p.side.turn)) (written_said (next_at (ticked p).side.turn (ticked p).waiting))

ended_said : (sending : Option Sending) (s : ChipState) (status : TransmitStatus) → AreSaid (ended_outs sending s status)
ended_said None s status = tt
ended_said (Some sending) s status = queued_said s.port (callback_frame sending status)

pub done_said : (s : ChipState) (status : TransmitStatus) → AreSaid (outs s (chip_done status))
done_said s status = by (s.aborted == 0)
  where
    by : (b : Bool) → AreSaid (if b then ended_outs s.sending s status else [])
    by true = ended_said s.sending s status
    by false = tt

-- ---- results

-- the air and what is due; a call fewer is to come
record Answers (o p : OuterState) : Type 0 where
  air : p.air ≡ o.air
  due : p.due ≡ o.due

answers : (o : OuterState) (status : TransmitStatus) → Answers o (call_back o status).outer
answers o status = by (owes_call o.chip.state) refl
  where
    by : (b : Bool) → owes_call o.chip.state ≡ b → Answers o (call_back o status).outer
    by true e =
        let leaves : Leaves (record o { calls = drop 1 o.calls }) (chip_does (record o { calls = drop 1 o.calls }) (chip_done status)).outer =
        does_said (record o { calls = drop 1 o.calls }) (chip_done status) (done_said o.chip.state status) in
        rw e (record { air = leaves.air; due = leaves.due })
    by false e = rw e (record { air = refl; due = refl })

no_routes_air : (count : ℕ) (o : OuterState) → (no_routes count o).outer.air ≡ o.air
no_routes_air zero o = refl
no_routes_air (suc count) o = no_routes_air count (no_route o).outer ∙ (answers (record o { due = _ }) no_route_status).air

forgets_air : (o : OuterState) (dead : Option (ℕ × ℕ)) → (forgets o dead).outer.air ≡ o.air
forgets_air o None = refl
forgets_air o (Some hop) = by (linked o.chip.state.table hop.0 hop.1) refl
  where
    by : (b : Bool) → linked o.chip.state.table hop.0 hop.1 ≡ b → (forgets o (Some hop)).outer.air ≡ o.air
    by true e = rw e refl
    by false e = rw e refl

ends_air : (o : OuterState) (status : ℕ) (dead : Option (ℕ × ℕ)) → (frame_ends o status dead).outer.air ≡ o.air
ends_air o status dead =
    let forgot : OuterState = (forgets o dead).outer in
    let later : OuterState = (no_routes (leading forgot.calls) forgot).outer in
    (answers later (unwrap_or (status_of status) Fail)).air ∙ no_routes_air (leading forgot.calls) forgot ∙ forgets_air o dead

heard_air : (o : OuterState) (from : ℕ) (payload : List ℕ) → (to_chip o from payload).outer.air ≡ o.air
heard_air o from payload = by (nat_le 1 (length payload) && nat_le (length payload) 46) refl
  where
    by : (b : Bool) → (nat_le 1 (length payload) && nat_le (length payload) 46) ≡ b → (to_chip o from payload).outer.air ≡ o.air
    by true e = rw e (does_said o (chip_hears from payload) (queued_said o.chip.state.port _)).air
    by false e = rw e refl

-- what is told of the air changes nothing of it
deals_air : (devices : List State) (o : OuterState) (event : AirEvent) → (deals devices o event).outer.air ≡ o.air
deals_air devices o (Heard frame) = refl
deals_air devices o (Lost frame) = refl
deals_air devices o (Unheard frame) = refl
deals_air devices o (Sent frame from to route payload) = refl
deals_air devices o (Changed node at) = refl
deals_air devices o (ToChip frame from payload) = heard_air o from payload
deals_air devices o (Done frame status dead) = ends_air o status dead

deals_all : (devices : List State) (o : OuterState) (events : List AirEvent) → (each (deals devices) o events).outer.air ≡ o.air
deals_all devices o [] = refl
deals_all devices o (event ∷ events) = deals_all devices (deals devices o event).outer events ∙ deals_air devices o event

-- ---- events

pub entered_leaves : (o : OuterState) (entries : List Entry) → Leaves o (has_entered o entries)
entered_leaves o [] = record { air = refl; calls = refl; due = refl }
entered_leaves o (entry ∷ entries) = record { air = refl; calls = refl; due = refl }

-- the air after a frame arrived
pub arrived_air : (w : Outside) (drawn : List ℕ) (route : Option Route) → (happens w (Arrives drawn route)).outer.air ≡ (mesh_after (mesh_of w) (mesh.Arrives drawn route)).air
unfolding outcome
arrived_air w drawn route =
    (entered_leaves (outcome w (Arrives drawn route)).outer (outcome w (Arrives drawn route)).entries).air
    ∙ deals_all (mesh_after (mesh_of w) (mesh.Arrives drawn route)).devices (record w.outer { air = (mesh_after (mesh_of w) (mesh.Arrives drawn route)).air }) (mesh_outs (mesh_of w) (mesh.Arrives drawn route))

-- the first of what is due was given
pub record Given (o p : OuterState) : Type 0 where
  pub air : p.air ≡ o.air
  pub due : p.due ≡ drop 1 o.due

gives_one : (o : OuterState) (devices : List State) (due : List Due) (route : Option Route) → o.due ≡ due → Given o (gives o devices due route).outer
gives_one o devices [] route is = record { air = refl; due = is ∙ sym (ap (drop 1) is) }
gives_one o devices (no_route_due ∷ due) route is =
    let less : OuterState = record o { due = _ } in
    let given : Answers less (call_back less no_route_status).outer = answers less no_route_status in
    record { air = given.air; due = given.due ∙ rw is refl }
gives_one o devices (Info node ∷ due) route is =
    let less : OuterState = record o { due = due } in
    let leaves : Leaves less (informs less devices node route).outer = does_said less (Informed node (profile_for less.air devices node route)) (queued_said less.chip.state.port _) in
    record { air = leaves.air; due = leaves.due ∙ sym (ap (drop 1) is) }

pub given_first : (w : Outside) (route : Option Route) → Given w.outer (happens w (Gives route)).outer
unfolding outcome
given_first w route =
    let given : Given w.outer (gives w.outer w.devices w.outer.due route).outer = gives_one w.outer w.devices w.outer.due route refl in
    let leaves : Leaves (outcome w (Gives route)).outer (happens w (Gives route)).outer = entered_leaves (outcome w (Gives route)).outer (outcome w (Gives route)).entries in
    record { air = leaves.air ∙ given.air; due = leaves.due ∙ given.due }

acts_calls : (o : OuterState) (found : Option State) (event : DeviceEvent) (route : Option Route) → (acts_at o found event route).outer.calls ≡ o.calls
acts_calls o None event route = refl
acts_calls o (Some device) event route = refl

pub device_calls : (w : Outside) (place : ℕ) (drawn : List ℕ) (route : Option Route) → (happens w (Device_ticks place drawn route)).outer.calls ≡ w.outer.calls
unfolding outcome
device_calls w place drawn route =
    (entered_leaves (outcome w (Device_ticks place drawn route)).outer (outcome w (Device_ticks place drawn route)).entries).calls ∙ acts_calls w.outer (slice_get w.devices place) (Ticks drawn) route

pub ticks_calls : (w : Outside) → (happens w Chip_ticks).outer.calls ≡ w.outer.calls
unfolding outcome
ticks_calls w =
    let o : OuterState = w.outer in
    let at : OuterState = record o { chip = record { decoder = after_tick o.chip.decoder; state = o.chip.state } } in
    (entered_leaves (outcome w Chip_ticks).outer (outcome w Chip_ticks).entries).calls ∙ (does_said at Ticked (ticked_said o.chip.state.port)).calls
