-- Of which events of the chip an outcome outside the host is made, and the steps that the chip's link does at each event of the machine.
use Rattle.std.proofs.Common.{◌≡◌, ◌&&◌, ℕ, zero, suc, Bool, true, false, if◌then◌else◌, List, [], ◌∷◌, ◌++◌, length, nat_le, refl}
use Rattle.std.specs.Prelude.{Option, Some, None, drop}
use Rattle.std.specs.Option.{unwrap_or}
use Rattle.std.specs.List.{AllByRecursion}
use Rattle.zw_base.proofs.Each.{all-weaker}
use Rattle.serial_link.specs.Rules.{Step}
use Rattle.route_table.specs.declared.route.Route.{Route}
use Rattle.route_table.specs.Network.{linked}
use Rattle.chip_functions.specs.Notice.{status_of}
use Rattle.chip_functions.specs.declared.notice.TransmitStatus.{TransmitStatus}
use Rattle.chip_functions.specs.declared.notice.TransmitStatus.TheVariants.{Fail, NoRoute as no_route_status}
use Rattle.chip_sim.specs.Did.{judged_all}
use Rattle.chip_sim.specs.Events.{ChipEvent, Collides, Done, Forgets, Heard as chip_hears, Informed, Ticked, after}
use Rattle.chip_sim.specs.Link.{link_steps}
use Rattle.chip_sim.specs.Rules.{over}
use Rattle.proof_world.specs.device_sim.State.{State}
use Rattle.proof_world.specs.device_sim.Event.{DeviceEvent}
use Rattle.air_frames.specs.Ages.{refusal_of}
use Rattle.air_frames.specs.declared.ages.Refusal.{Refusal as RepeatRefusal}
use Rattle.proof_walk.specs.mesh_sim.declared.event.AirEvent.{AirEvent}
use Rattle.proof_walk.specs.mesh_sim.declared.event.AirEvent.TheVariants as air_event
use Rattle.proof_walk.specs.mesh_sim.Air.{AirState}
use Rattle.proof_walk.specs.mesh_sim.Fates.{place_of}
use Rattle.proof_walk.specs.mesh_sim.Steps.{AirStep, mesh_after, mesh_outs}
use Rattle.proof_walk.specs.mesh_sim.Steps as mesh
use Rattle.zw_text.specs.declared.entry.Entry.TheVariants as entry
use Rattle.proof_walk.specs.outside_model.State.{OuterState, Outside, Outcome, each, silent, tells, and_then, with_chip}
use Rattle.proof_walk.specs.outside_model.Chip.{chip_does}
use Rattle.proof_walk.specs.outside_model.Results.{call_back, device_at, forgets, frame_ends, gives, leading, no_route, no_routes, owes_call, profile_for, without_no_route}
use Rattle.proof_walk.specs.outside_model.declared.waits.Call.{Call}
use Rattle.proof_walk.specs.outside_model.declared.waits.Due.{Due}
use Rattle.proof_walk.specs.outside_model.declared.waits.Due.TheVariants.{Info, NoRoute as no_route_due}
use Rattle.proof_walk.specs.outside_model.Air.{change_at, change_entries, deals}
use Rattle.proof_walk.specs.outside_model.Devices.{acts_at}
use Rattle.proof_walk.specs.outside_model.Events.{OuterEvent, Arrives, Chip_takes, Chip_ticks, Collides_next, Gives, Repeats, mesh_of, steps}
use Rattle.proof_walk.specs.world_model.State.{Machine}
use Rattle.proof_walk.specs.world_model.Events.{Event, Outside_does}
use Rattle.proof_walk.proofs.Entered.{IsChange, change_entered}
use Rattle.proof_walk.proofs.Results.{Gives as GivesSo, IsGiven, IsResult, IsSameChip}
use Rattle.proof_line.proofs.ChipTelling.{at_goes, change_of_air}
use Rattle.proof_walk.specs.Outside.{IsOfAir}

-- ---- accounts

-- it is made of these events of the chip, one after another, and of what is told of the air
pub data Account : (o : OuterState) (x : Outcome) → Type 0 where
  Still : (o p : OuterState) → IsSameChip o p → Account o (silent p)
  Both : (o : OuterState) (first : Outcome) (next : OuterState → Outcome) → Account o first → Account first.outer (next first.outer) → Account o (and_then first next)
  Later : (o p : OuterState) (x : Outcome) → IsSameChip o p → Account p x → Account o x
  Does : (o : OuterState) (event : ChipEvent) → IsGiven event → Account o (chip_does o event)
  Forgotten : (o : OuterState) (a b : ℕ) → Account o (tells (with_chip o (after o.chip.state (Forgets a b))) (entry.Forget a b ∷ []))
  Of_air : (o : OuterState) (x : Outcome) → AllByRecursion IsOfAir x.entries → x.outer.to_host ≡ o.to_host → x.outer.to_chip ≡ o.to_chip → x.outer.chip.state.port ≡ o.chip.state.port → Account o x
  In_air : (o : OuterState) (air : AirState) (x : Outcome) → Account (record o { air = air }) x → Account o x

-- the steps of the chip's link
abbrev pub steps_by : {o : OuterState} {x : Outcome} → Account o x → List Step
steps_by (Still o p is) = []
steps_by (Both o first next one later) = steps_by one ++ steps_by later
steps_by (Later o p x is account) = steps_by account
steps_by (Does o event given) = link_steps o.chip.state event
steps_by (Forgotten o a b) = []
steps_by (Of_air o x of_air to_host to_chip port) = []
steps_by (In_air o air x account) = steps_by account

accounts : GivesSo Account
accounts = record {
  still = λ o p is. Still o p is;
  both = λ o first next one later. Both o first next one (later first.outer);
  later = λ o p x is account. Later o p x is account;
  does = λ o event given. Does o event given;
  forgotten = λ o a b. Forgotten o a b;
}

-- ---- results

abbrev pub same_chip : (o : OuterState) (calls : List Call) (due : List Due) → IsSameChip o (record o { calls = calls; due = due })
same_chip o calls due = record { chip = refl; to_chip = refl; to_host = refl; air = refl; in_tick = refl; stamped = refl; clock = refl }

abbrev still_so : (o : OuterState) → Account o (silent o)
still_so o = Still o o (same_chip o o.calls o.due)

abbrev pub call_if : (b : Bool) (o : OuterState) (status : TransmitStatus)
    → Account o (if b then chip_does (record o { calls = drop 1 o.calls }) (Done status) else silent (record o { calls = drop 1 o.calls }))
call_if true o status =
    let p : OuterState = record o { calls = drop 1 o.calls } in Later o p (chip_does p (Done status)) (same_chip o (drop 1 o.calls) o.due) (Does p (Done status) tt)
call_if false o status = Still o (record o { calls = drop 1 o.calls }) (same_chip o (drop 1 o.calls) o.due)

abbrev pub call_account : (o : OuterState) (status : TransmitStatus) → Account o (call_back o status)
call_account o status = call_if (owes_call o.chip.state) o status

abbrev pub no_route_account : (o : OuterState) → Account o (no_route o)
no_route_account o =
    let p : OuterState = record o { due = without_no_route o.due } in Later o p (no_route o) (same_chip o o.calls (without_no_route o.due)) (call_account p no_route_status)

abbrev pub no_routes_account : (count : ℕ) (o : OuterState) → Account o (no_routes count o)
no_routes_account zero o = still_so o
no_routes_account (suc count) o = Both o (no_route o) (λ later. no_routes count later) (no_route_account o) (no_routes_account count (no_route o).outer)

abbrev pub forget_if : (b : Bool) (o : OuterState) (hop : ℕ × ℕ)
    → Account o (if b then tells (with_chip o (after o.chip.state (Forgets hop.0 hop.1))) (entry.Forget hop.0 hop.1 ∷ []) else silent o)
forget_if true o hop = Forgotten o hop.0 hop.1
forget_if false o hop = still_so o

abbrev pub forgets_account : (o : OuterState) (dead : Option (ℕ × ℕ)) → Account o (forgets o dead)
forgets_account o None = still_so o
forgets_account o (Some hop) = forget_if (linked o.chip.state.table hop.0 hop.1) o hop

-- a frame of the chip has ended
abbrev pub calls_account : (o : OuterState) (status : TransmitStatus) → Account o (and_then (no_routes (leading o.calls) o) (λ later. call_back later status))
calls_account o status =
    Both o (no_routes (leading o.calls) o) (λ later. call_back later status) (no_routes_account (leading o.calls) o) (call_account (no_routes (leading o.calls) o).outer status)

abbrev pub ends_account : (o : OuterState) (status : ℕ) (dead : Option (ℕ × ℕ)) → Account o (frame_ends o status dead)
ends_account o status dead =
    Both o (forgets o dead) (λ forgot. and_then (no_routes (leading forgot.calls) forgot) (λ later. call_back later (unwrap_or (status_of status) Fail))) (forgets_account o dead)
    (calls_account (forgets o dead).outer (unwrap_or (status_of status) Fail))

-- what is due is given
abbrev pub due_account : (o : OuterState) (devices : List State) (due : List Due) (route : Option Route) → Account o (gives o devices due route)
due_account o devices [] route = still_so o
due_account o devices (no_route_due ∷ due) route = no_route_account o
due_account o devices (Info node ∷ due) route =
    let p : OuterState = record o { due = due } in
    Later o p (gives o devices (Info node ∷ due) route) (same_chip o o.calls due) (Does p (Informed node (profile_for o.air devices node route)) tt)

-- no payload is heard among these
abbrev pub IsOfResults : {o : OuterState} {x : Outcome} → Account o x → Type 0
IsOfResults (Still o p is) = Unit {0}
IsOfResults (Both o first next one later) = IsOfResults one × IsOfResults later
IsOfResults (Later o p x is account) = IsOfResults account
IsOfResults (Does o event given) = IsResult event
IsOfResults (Forgotten o a b) = Unit {0}
IsOfResults (Of_air o x of_air to_host to_chip port) = Unit {0}
IsOfResults (In_air o air x account) = IsOfResults account

call_results : (b : Bool) (o : OuterState) (status : TransmitStatus) → IsOfResults (call_if b o status)
call_results true o status = tt
call_results false o status = tt

no_route_results : (o : OuterState) → IsOfResults (no_route_account o)
no_route_results o = call_results (owes_call o.chip.state) (record o { due = without_no_route o.due }) no_route_status

no_routes_results : (count : ℕ) (o : OuterState) → IsOfResults (no_routes_account count o)
no_routes_results zero o = tt
no_routes_results (suc count) o = (no_route_results o, no_routes_results count (no_route o).outer)

forget_results : (b : Bool) (o : OuterState) (hop : ℕ × ℕ) → IsOfResults (forget_if b o hop)
forget_results true o hop = tt
forget_results false o hop = tt

forgets_results : (o : OuterState) (dead : Option (ℕ × ℕ)) → IsOfResults (forgets_account o dead)
forgets_results o None = tt
forgets_results o (Some hop) = forget_results (linked o.chip.state.table hop.0 hop.1) o hop

ends_results : (o : OuterState) (status : ℕ) (dead : Option (ℕ × ℕ)) → IsOfResults (ends_account o status dead)
ends_results o status dead =
    let forgot : OuterState = (forgets o dead).outer in
    let later : OuterState = (no_routes (leading forgot.calls) forgot).outer in
    (forgets_results o dead, (no_routes_results (leading forgot.calls) forgot, call_results (owes_call later.chip.state) later (unwrap_or (status_of status) Fail)))

due_results : (o : OuterState) (devices : List State) (due : List Due) (route : Option Route) → IsOfResults (due_account o devices due route)
due_results o devices [] route = tt
due_results o devices (no_route_due ∷ due) route = no_route_results o
due_results o devices (Info node ∷ due) route = tt

-- ---- what the air tells

-- no payload comes to the chip
abbrev pub IsNoPayload : AirEvent → Type 0
IsNoPayload (air_event.ToChip frame from payload) = ⊥
IsNoPayload event = Unit {0}

-- the chip hears a payload that has room in a frame
abbrev pub heard_account : (b : Bool) (o : OuterState) (from : ℕ) (payload : List ℕ) → Account o (if b then chip_does o (chip_hears from payload) else silent o)
heard_account true o from payload = Does o (chip_hears from payload) tt
heard_account false o from payload = still_so o

module _ (devices : List State) where
  pub changes_told : (node at : ℕ) → AllByRecursion IsOfAir (change_entries node (change_at (device_at devices (place_of node devices)) at))
  changes_told node at =
      let change = change_at (device_at devices (place_of node devices)) at in all-weaker IsChange IsOfAir change_of_air (change_entries node change) (change_entered node change)

  abbrev pub deal_account : (o : OuterState) (event : AirEvent) → Account o (deals devices o event)
  deal_account o (air_event.Heard frame) = Of_air o (deals devices o (air_event.Heard frame)) (tt, tt) refl refl refl
  deal_account o (air_event.Lost frame) = Of_air o (deals devices o (air_event.Lost frame)) (tt, tt) refl refl refl
  deal_account o (air_event.Unheard frame) = Of_air o (deals devices o (air_event.Unheard frame)) (tt, tt) refl refl refl
  deal_account o (air_event.Sent frame from to route payload) = Of_air o (deals devices o (air_event.Sent frame from to route payload)) (tt, tt) refl refl refl
  deal_account o (air_event.Changed node at) = Of_air o (deals devices o (air_event.Changed node at)) (changes_told node at) refl refl refl
  deal_account o (air_event.ToChip frame from payload) = heard_account (nat_le 1 (length payload) && nat_le (length payload) 46) o from payload
  deal_account o (air_event.Done frame status dead) = ends_account o status dead

  abbrev pub all_account : (events : List AirEvent) (o : OuterState) → Account o (each (deals devices) o events)
  all_account [] o = still_so o
  all_account (event ∷ events) o = Both o (deals devices o event) (λ later. each (deals devices) later events) (deal_account o event) (all_account events (deals devices o event).outer)

  deal_results : (o : OuterState) (event : AirEvent) → IsNoPayload event → IsOfResults (deal_account o event)
  deal_results o (air_event.ToChip frame from payload) none = absurd none
  deal_results o (air_event.Done frame status dead) none = ends_results o status dead
  deal_results o (air_event.Heard frame) none = tt
  deal_results o (air_event.Lost frame) none = tt
  deal_results o (air_event.Unheard frame) none = tt
  deal_results o (air_event.Sent frame from to route payload) none = tt
  deal_results o (air_event.Changed node at) none = tt

  pub all_results : (events : List AirEvent) (o : OuterState) → AllByRecursion IsNoPayload events → IsOfResults (all_account events o)
  all_results [] o none = tt
  all_results (event ∷ events) o none = (deal_results o event none.0, all_results events (deals devices o event).outer none.1)

-- a frame arrives or is heard again; results are given; a device does something
unfoldable pub steps_account : (w : Outside) (step : AirStep) → Account w.outer (steps w step)
steps_account w step =
    In_air w.outer (mesh_after (mesh_of w) step).air (steps w step)
    (all_account (mesh_after (mesh_of w) step).devices (mesh_outs (mesh_of w) step) (record w.outer { air = (mesh_after (mesh_of w) step).air }))

unfoldable pub gives_account : (w : Outside) (route : Option Route) → Account w.outer (gives w.outer w.devices w.outer.due route)
gives_account w route = due_account w.outer w.devices w.outer.due route

pub gives_results : (w : Outside) (route : Option Route) → IsOfResults (gives_account w route)
unfolding gives_account
gives_results w route = due_results w.outer w.devices w.outer.due route

pub at_account : (o : OuterState) (found : Option State) (event : DeviceEvent) (route : Option Route) → Account o (acts_at o found event route)
at_account o found event route = at_goes Account accounts (λ p x of_air to_host to_chip port. Of_air p x of_air to_host to_chip port) (λ p air x account. In_air p air x account) o found event route

pub at_none : (o : OuterState) (found : Option State) (event : DeviceEvent) (route : Option Route) → steps_by (at_account o found event route) ≡ []
unfolding at_account at_goes
at_none o None event route = refl
at_none o (Some device) event route = refl

-- ---- the steps at each event

-- a repeat that is refused has none
abbrev pub repeat_steps : Outside → Option RepeatRefusal → AirStep → List Step
repeat_steps w (Some refused) step = []
repeat_steps w None step = steps_by (steps_account w step)

unfoldable pub outer_steps : Outside → OuterEvent → List Step
outer_steps w (Chip_takes count rest ways) = over link_steps w.outer.chip.state (judged_all ways)
outer_steps w Chip_ticks = link_steps w.outer.chip.state Ticked
outer_steps w Collides_next = link_steps w.outer.chip.state Collides
outer_steps w (Arrives drawn route) = steps_by (steps_account w (mesh.Arrives drawn route))
outer_steps w (Gives route) = steps_by (gives_account w route)
outer_steps w (Repeats number drawn route) = repeat_steps w (refusal_of w.outer.air.frames number) (mesh.Repeats number drawn route)
outer_steps w event = []

unfoldable pub event_steps : Machine → Event → List Step
event_steps m (Outside_does event) = outer_steps m.outside event
event_steps m event = []
