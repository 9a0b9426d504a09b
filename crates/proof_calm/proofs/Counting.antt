-- A frame that arrives, or a result, brings one frame more at most to those that wait at the chip, and nothing more is due.
use Rattle.std.proofs.Common.{◌≡◌, ◌≤◌, ℕ, zero, suc, ◌+◌, ◌-◌, ◌==◌, ◌&&◌, nat_le, Bool, true, false, if◌then◌else◌, List, [], ◌∷◌, ◌++◌, length, drop, refl, sym, ap, subst, arith}
use Rattle.std.proofs.lemmas.List.{length_push}
use Rattle.std.specs.Option.{is_some, unwrap_or}
use Rattle.std.specs.Prelude.{Option, Some, None, slice_get}
use Rattle.std.specs.List.{AllByRecursion}
use Rattle.zw_base.proofs.Each.{all-append}
use Rattle.zw_text.specs.declared.entry.Entry.{Entry}
use Rattle.zw_text.specs.declared.entry.Entry.TheVariants as entry
use Rattle.serial_frame.specs.Frame.{FrameParts}
use Rattle.serial_link.specs.declared.turn.Turn.{Turn}
use Rattle.serial_link.specs.declared.turn.Turn.TheVariants.{Idle, Copied, Paused}
use Rattle.route_table.specs.Network.{linked}
use Rattle.route_table.specs.declared.route.Route.{Route}
use Rattle.chip_functions.specs.Notice.{status_of}
use Rattle.chip_functions.specs.declared.notice.TransmitStatus.{TransmitStatus}
use Rattle.chip_functions.specs.declared.notice.TransmitStatus.TheVariants.{Fail, NoRoute as no_route_status}
use Rattle.chip_sim.specs.Events.{Heard as chip_hears, Done, Informed, Forgets, after, ended}
use Rattle.chip_sim.specs.Requests.{callback_frame}
use Rattle.chip_sim.specs.State.{ChipState}
use Rattle.chip_sim.specs.Waiting.{PortState, is_full, queued_at}
use Rattle.chip_sim.specs.declared.out.Sending.{Sending}
use Rattle.air_frames.specs.Flown.{Flown}
use Rattle.air_frames.specs.Frames.{next_of}
use Rattle.air_frames.specs.declared.frame.Heading.{Heading}
use Rattle.air_frames.specs.declared.frame.Heading.TheVariants.{Outward, Homeward}
use Rattle.device_sim.specs.State.{State}
use Rattle.device_sim.specs.Event.{DeviceEvent, Hears}
use Rattle.mesh_sim.specs.Air.{AirState, departing, is_joined}
use Rattle.mesh_sim.specs.Fates.{Mesh, fate_of}
use Rattle.mesh_sim.specs.Steps as mesh
use Rattle.mesh_sim.specs.Steps.{acknowledged, answers, answers_if, arrival_outs_as, changed, done_of, landed, mesh_after, mesh_outs, outs_at}
use Rattle.mesh_sim.specs.declared.event.AirEvent.{AirEvent}
use Rattle.mesh_sim.specs.declared.event.AirEvent.TheVariants as air_event
use Rattle.mesh_sim.specs.declared.fate.Fate.{Fate}
use Rattle.mesh_sim.specs.declared.fate.Fate.TheVariants.{Lost, Dead, Missed, AtChip, AtDevice}
use Rattle.outside_model.specs.declared.waits.Due.{Due}
use Rattle.outside_model.specs.declared.waits.Due.TheVariants.{Info, NoRoute as no_route_due}
use Rattle.outside_model.specs.State.{OuterState, Outside, silent, tells, with_chip, each}
use Rattle.outside_model.specs.Air.{deals, to_chip}
use Rattle.outside_model.specs.Chip.{chip_does}
use Rattle.outside_model.specs.Events.{Begins_tick, Arrives, Gives, outcome, has_entered, mesh_of}
use Rattle.outside_model.specs.Results.{call_back, forgets, frame_ends, gives, leading, no_route, no_routes, owes_call, profile_for, without_no_route}
use Rattle.world_model.specs.State.{Machine}
use Rattle.world_model.specs.Events.{Outside_does, happens}
use Rattle.proof_waking.specs.proof_traffic.Facts.{one_if}
use Rattle.proof_work.proofs.Times.{does_chip}
use Rattle.proof_work.specs.proof_walk.Phases.{Ticked}
use Rattle.proof_waking.proofs.ChipNotices.{does_said, done_said, queued_said}
use Rattle.proof_calm.specs.Tied.{RoomAt}
use Rattle.proof_calm.proofs.ChipPart.{entered_state}
use Rattle.proof_calm.proofs.Awaiting.{few_if}

-- ---- the chip

abbrev waits : ChipState → ℕ
waits s = length s.port.waiting

-- with one for the call of the payload that it sends
abbrev weight : ChipState → ℕ
weight s = waits s + one_if (is_some s.sending)

queued_most : (t : Turn) (port : PortState) (frame : FrameParts) → length (queued_at t port frame).waiting ≤ length port.waiting + 1
queued_most Idle port frame = omega arith
queued_most (Copied g copies ticks) port frame = by (is_full port.waiting)
  where
    by : (b : Bool) → length (if b then port else record { side = port.side; waiting = port.waiting ++ frame ∷ [] }).waiting ≤ length port.waiting + 1
    by true = omega arith
    by false = let one = length_push port.waiting frame in omega (arith, one)
queued_most (Paused g copies ticks) port frame = by (is_full port.waiting)
  where
    by : (b : Bool) → length (if b then port else record { side = port.side; waiting = port.waiting ++ frame ∷ [] }).waiting ≤ length port.waiting + 1
    by true = omega arith
    by false = let one = length_push port.waiting frame in omega (arith, one)

ended_weight : (s : ChipState) (sending : Option Sending) (status : TransmitStatus) → s.sending ≡ sending → weight (ended sending s status) ≤ weight s
ended_weight s None status is = omega arith
ended_weight s (Some sent) status is =
    let most = queued_most s.port.side.turn s.port (callback_frame sent status) in
    let one : one_if (is_some s.sending) ≡ 1 = ap (λ (o : Option Sending). one_if (is_some o)) is in
    omega (arith, most, one)

done_weight : (s : ChipState) (status : TransmitStatus) → weight (after s (Done status)) ≤ weight s
done_weight s status = by (s.aborted == 0)
  where
    by : (b : Bool) → weight (if b then ended s.sending s status else record s { aborted = s.aborted - 1 }) ≤ weight s
    by true = ended_weight s s.sending status refl
    by false = omega arith

-- ---- results

-- no more than before
record NoMore (o p : OuterState) : Type 0 where
  chip : weight p.chip.state ≤ weight o.chip.state
  due : length p.due ≤ length o.due

no_more_same : (o : OuterState) → NoMore o o
no_more_same o = record { chip = omega arith; due = omega arith }

no_more_both : (o p q : OuterState) → NoMore o p → NoMore p q → NoMore o q
no_more_both o p q first later =
    let a = first.chip in
    let b = later.chip in
    let c = first.due in
    let d = later.due in
    record { chip = omega (arith, a, b); due = omega (arith, c, d) }

call_no_more : (o : OuterState) (status : TransmitStatus) → NoMore o (call_back o status).outer
call_no_more o status = by (owes_call o.chip.state)
  where
    p : OuterState
    p = record o { calls = drop 1 o.calls }

    by : (b : Bool) → NoMore o (if b then chip_does p (Done status) else silent p).outer
    by true = record {
      chip = subst (λ (s : ChipState). weight s ≤ weight o.chip.state) (sym (does_chip p (Done status))) (done_weight o.chip.state status);
      due = let same = ap (λ (due : List Due). length due) (does_said p (Done status) (done_said o.chip.state status)).due in omega (arith, same);
    }
    by false = record { chip = omega arith; due = omega arith }

fewer_due : (due : List Due) → length (without_no_route due) ≤ length due
fewer_due [] = omega arith
fewer_due (no_route_due ∷ due) = omega arith
fewer_due (Info node ∷ due) = let less = fewer_due due in omega (arith, less)

no_route_no_more : (o : OuterState) → NoMore o (no_route o).outer
no_route_no_more o =
    no_more_both o (record o { due = without_no_route o.due }) (no_route o).outer (record { chip = omega arith; due = fewer_due o.due }) (call_no_more (record o { due = without_no_route o.due }) no_route_status)

no_routes_no_more : (count : ℕ) (o : OuterState) → NoMore o (no_routes count o).outer
no_routes_no_more zero o = no_more_same o
no_routes_no_more (suc count) o = no_more_both o (no_route o).outer (no_routes count (no_route o).outer).outer (no_route_no_more o) (no_routes_no_more count (no_route o).outer)

forgets_no_more : (o : OuterState) (dead : Option (ℕ × ℕ)) → NoMore o (forgets o dead).outer
forgets_no_more o None = no_more_same o
forgets_no_more o (Some hop) = by (linked o.chip.state.table hop.0 hop.1)
  where
    by : (b : Bool) → NoMore o (if b then tells (with_chip o (after o.chip.state (Forgets hop.0 hop.1))) (entry.Forget hop.0 hop.1 ∷ []) else silent o).outer
    by true = record { chip = omega arith; due = omega arith }
    by false = no_more_same o

ends_no_more : (o : OuterState) (status : ℕ) (dead : Option (ℕ × ℕ)) → NoMore o (frame_ends o status dead).outer
ends_no_more o status dead =
    let forgot : OuterState = (forgets o dead).outer in
    let later : OuterState = (no_routes (leading forgot.calls) forgot).outer in
    no_more_both o forgot (frame_ends o status dead).outer (forgets_no_more o dead)
    (no_more_both forgot later (call_back later (unwrap_or (status_of status) Fail)).outer (no_routes_no_more (leading forgot.calls) forgot) (call_no_more later (unwrap_or (status_of status) Fail)))

-- ---- one frame more

pub record OneMore (o p : OuterState) : Type 0 where
  pub chip : length p.chip.state.port.waiting ≤ length o.chip.state.port.waiting + 1
  pub due : length p.due ≤ length o.due

one_more_of : (o p : OuterState) → NoMore o p → OneMore o p
one_more_of o p no_more =
    let chip = no_more.chip in
    let one = few_if (is_some o.chip.state.sending) in
    record { chip = omega (arith, chip, one); due = no_more.due }

to_chip_more : (o : OuterState) (from : ℕ) (payload : List ℕ) → OneMore o (to_chip o from payload).outer
to_chip_more o from payload = by (nat_le 1 (length payload) && nat_le (length payload) 46)
  where
    by : (b : Bool) → OneMore o (if b then chip_does o (chip_hears from payload) else silent o).outer
    by true = record {
      chip = subst (λ (s : ChipState). length s.port.waiting ≤ length o.chip.state.port.waiting + 1) (sym (does_chip o (chip_hears from payload))) (queued_most o.chip.state.port.side.turn o.chip.state.port _);
      due = let same = ap (λ (due : List Due). length due) (does_said o (chip_hears from payload) (queued_said o.chip.state.port _)).due in omega (arith, same);
    }
    by false = record { chip = omega arith; due = omega arith }

-- a result is given
pub gives_more : (o : OuterState) (devices : List State) (due : List Due) (route : Option Route) → length (gives o devices due route).outer.chip.state.port.waiting ≤ length o.chip.state.port.waiting + 1
gives_more o devices [] route = omega arith
gives_more o devices (no_route_due ∷ due) route = (one_more_of o (no_route o).outer (no_route_no_more o)).chip
gives_more o devices (Info node ∷ due) route =
    subst (λ (s : ChipState). length s.port.waiting ≤ length o.chip.state.port.waiting + 1) (sym (does_chip (record o { due = due }) (Informed node (profile_for o.air devices node route))))
    (queued_most o.chip.state.port.side.turn o.chip.state.port _)

-- ---- what is told of the air

-- no payload comes to the chip
abbrev pub IsAside : AirEvent → Type 0
IsAside (air_event.ToChip frame from payload) = ⊥
IsAside event = Unit {0}

deals_no_more : (devices : List State) (o : OuterState) (event : AirEvent) → IsAside event → NoMore o (deals devices o event).outer
deals_no_more devices o (air_event.ToChip frame from payload) aside = absurd aside
deals_no_more devices o (air_event.Done frame status dead) aside = ends_no_more o status dead
deals_no_more devices o (air_event.Heard frame) aside = no_more_same o
deals_no_more devices o (air_event.Lost frame) aside = no_more_same o
deals_no_more devices o (air_event.Unheard frame) aside = no_more_same o
deals_no_more devices o (air_event.Sent frame from to route payload) aside = no_more_same o
deals_no_more devices o (air_event.Changed node at) aside = no_more_same o

all_no_more : (devices : List State) (o : OuterState) (events : List AirEvent) → AllByRecursion IsAside events → NoMore o (each (deals devices) o events).outer
all_no_more devices o [] aside = no_more_same o
all_no_more devices o (event ∷ events) aside =
    no_more_both o (deals devices o event).outer (each (deals devices) (deals devices o event).outer events).outer (deals_no_more devices o event aside.0) (all_no_more devices (deals devices o event).outer events aside.1)

pub done_aside : (heading : Heading) (number status : ℕ) (dead : Option (ℕ × ℕ)) → AllByRecursion IsAside (done_of heading number status dead)
done_aside Outward number status dead = (tt, tt)
done_aside Homeward number status dead = tt

-- what is told where a device hears
module _ (Is : AirEvent → Type 0) (hears : (frame : ℕ) → Is (air_event.Heard frame)) (changes : (node at : ℕ) → Is (air_event.Changed node at))
    (sends : (frame from to : ℕ) (route : Route) (payload : List ℕ) → Is (air_event.Sent frame from to route payload)) where
  changed_all : (node first count : ℕ) → AllByRecursion Is (changed node first count)
  changed_all node first zero = tt
  changed_all node first (suc more) = (changes node _, changed_all node (first + 1) more)

  answers_all : (air : AirState) (node : ℕ) (way : Option Route) (replies : List (List ℕ)) → AllByRecursion Is (answers air node way replies)
  answers_all air node way [] = tt
  answers_all air node way (reply ∷ replies) = (sends _ _ _ _ _, answers_all (departing air node Homeward way reply) node way replies)

  answers_if_all : (b : Bool) (air : AirState) (node : ℕ) (way : Option Route) (replies : List (List ℕ)) → AllByRecursion Is (answers_if b air node way replies)
  answers_if_all true air node way replies = answers_all air node way replies
  answers_if_all false air node way replies = tt

  pub outs_all : (at : Mesh) (device : Option State) (number node : ℕ) (route : Option Route) (event : DeviceEvent) → AllByRecursion Is (outs_at at device number node route event)
  outs_all at None number node route event = tt
  outs_all at (Some device) number node route event = (hears number, all-append Is (changed node _ _) (answers_if (is_joined at.air node) at.air node _ _) (changed_all node _ _) (answers_if_all (is_joined at.air node) at.air node _ _))

pub outs_aside : (at : Mesh) (device : Option State) (number node : ℕ) (route : Option Route) (event : DeviceEvent) → AllByRecursion IsAside (outs_at at device number node route event)
outs_aside at device number node route event = outs_all IsAside (λ frame. tt) (λ changed place. tt) (λ frame from to way payload. tt) at device number node route event

fate_more : (devices : List State) (o : OuterState) (at : Mesh) (number : ℕ) (frame : Flown) (fate : Fate) (drawn : List ℕ) (route : Option Route) → OneMore o (each (deals devices) o (arrival_outs_as at number frame fate drawn route)).outer
fate_more devices o at number frame Lost drawn route = one_more_of o _ (all_no_more devices o (arrival_outs_as at number frame Lost drawn route) (tt, done_aside frame.heading number 1 None))
fate_more devices o at number frame (Dead from to) drawn route =
    one_more_of o _ (all_no_more devices o (arrival_outs_as at number frame (Dead from to) drawn route) (tt, done_aside frame.heading number 1 (Some (from, to))))
fate_more devices o at number frame Missed drawn route = one_more_of o _ (all_no_more devices o (arrival_outs_as at number frame Missed drawn route) (tt, done_aside frame.heading number 1 None))
fate_more devices o at number frame AtChip drawn route = to_chip_more o frame.node frame.payload
fate_more devices o at number frame (AtDevice place) drawn route =
    let heard : Mesh = record at { air = landed (acknowledged at.air) } in
    let outs : List AirEvent = outs_at heard (slice_get at.devices place) number frame.node route (Hears frame.payload drawn) in
    one_more_of o _ (all_no_more devices o (outs ++ air_event.Done number _ None ∷ []) (all-append IsAside outs (air_event.Done number _ None ∷ []) (outs_aside heard (slice_get at.devices place) number frame.node route (Hears frame.payload drawn)) (tt, tt)))

pub arrives_more : (w : Outside) (drawn : List ℕ) (route : Option Route) → OneMore w.outer (outcome w (Arrives drawn route)).outer
unfolding outcome mesh_outs
arrives_more w drawn route = by (next_of w.outer.air.frames)
  where
    at : Mesh
    at = mesh_of w

    later : Mesh
    later = mesh_after at (mesh.Arrives drawn route)

    o : OuterState
    o = record w.outer { air = later.air }

    by : (frame : Option Flown) → OneMore w.outer (each (deals later.devices) o (mesh.arrival_outs at frame drawn route)).outer
    by None = record { chip = omega arith; due = omega arith }
    by (Some frame) =
        let more = fate_more later.devices o at (at.air.frames.landed + 1) frame (fate_of at.air.network at.devices frame) drawn route in
        record { chip = more.chip; due = more.due }

-- ---- the machine

entered_more : (o p : OuterState) (told : List Entry) → OneMore o p → OneMore o (has_entered p told)
entered_more o p [] more = more
entered_more o p (one ∷ told) more = record { chip = more.chip; due = more.due }

pub machine_arrives : (m : Machine) (drawn : List ℕ) (route : Option Route) → OneMore m.outside.outer (happens m (Outside_does (Arrives drawn route))).outside.outer
unfolding happens
machine_arrives m drawn route =
    entered_more m.outside.outer (outcome m.outside (Arrives drawn route)).outer (outcome m.outside (Arrives drawn route)).entries (arrives_more m.outside drawn route)

pub machine_gives : (m : Machine) (route : Option Route) → length (happens m (Outside_does (Gives route))).outside.outer.chip.state.port.waiting ≤ length m.outside.outer.chip.state.port.waiting + 1
unfolding happens outcome
machine_gives m route =
    subst (λ (s : ChipState). length s.port.waiting ≤ length m.outside.outer.chip.state.port.waiting + 1) (sym (entered_state _ (outcome m.outside (Gives route)).entries))
    (gives_more m.outside.outer m.outside.devices m.outside.outer.due route)

-- nothing has come yet
pub machine_ticks : (m : Machine) → RoomAt (Ticked 0) m → RoomAt (Ticked 0) (happens m (Outside_does Begins_tick))
unfolding happens outcome
machine_ticks m room = room
