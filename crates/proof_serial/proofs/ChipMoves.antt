-- Whatever happens outside the host but at the line itself: the chip does some events, each as is asked of them, and writes what they put out to the host.
use Rattle.std.proofs.Common.{◌≡◌, ℕ, zero, suc, ◌&&◌, Bool, true, false, List, [], ◌∷◌, ◌++◌, length, refl, ap, sym, filter}
use Rattle.std.specs.Prelude.{Option, Some, None, nat_le, if◌then◌else◌, drop, slice_get}
use Rattle.std.specs.List.{AllByRecursion, range_with_len}
use Rattle.std.specs.Option.{unwrap_or, is_some}
use Rattle.zw_base.proofs.Each.{all-append, all-weaker}
use Rattle.route_table.specs.declared.route.Route.{Route}
use Rattle.route_table.specs.Network.{linked}
use Rattle.chip_functions.specs.Notice.{status_of}
use Rattle.chip_functions.specs.declared.notice.TransmitStatus.{TransmitStatus}
use Rattle.chip_functions.specs.declared.notice.TransmitStatus.TheVariants.{Fail, NoRoute as no_route_status}
use Rattle.world_model.specs.chip_sim.Events.{ChipEvent, Done, Heard as chip_hears, Informed, Forgets, Joined, Linked, Collides, after, May}
use Rattle.world_model.specs.chip_sim.Did.{after_all}
use Rattle.world_model.specs.chip_sim.Link.{chip_units}
use Rattle.world_model.specs.chip_sim.declared.out.ChipOut.{ChipOut}
use Rattle.world_model.specs.device_sim.State.{State}
use Rattle.world_model.specs.device_sim.Event.{DeviceEvent}
use Rattle.world_model.specs.mesh_sim.Air.{AirState, is_joined, joining}
use Rattle.world_model.specs.mesh_sim.Fates.{place_of}
use Rattle.world_model.specs.mesh_sim.Steps.{AirStep, mesh_after, mesh_outs}
use Rattle.world_model.specs.mesh_sim.declared.event.AirEvent.{AirEvent}
use Rattle.world_model.specs.mesh_sim.declared.event.AirEvent.TheVariants as air_event
use Rattle.air_frames.specs.declared.ages.Refusal.{Refusal as RepeatRefusal}
use Rattle.zw_text.specs.declared.entry.Entry.TheVariants.{Forget}
use Rattle.world_model.specs.outside_model.declared.waits.Due.{Due}
use Rattle.world_model.specs.outside_model.declared.waits.Due.TheVariants.{Info, NoRoute as no_route_due}
use Rattle.world_model.specs.outside_model.State.{OuterState, Outside, Outcome, silent, tells, and_then, each, with_chip}
use Rattle.world_model.specs.outside_model.Chip.{chip_does}
use Rattle.world_model.specs.outside_model.Results.{owes_call, call_back, no_route, no_routes, leading, forgets, frame_ends, gives, without_no_route, profile_for, device_at, informs}
use Rattle.world_model.specs.outside_model.Air.{to_chip, deals}
use Rattle.world_model.specs.outside_model.Devices.{acts_at, acts_by_hand}
use Rattle.world_model.specs.outside_model.Nodes.{joins, discovers, links_of, all_pairs, is_known}
use Rattle.world_model.specs.outside_model.Events.{mesh_of, steps, repeats}
use Rattle.proof_serial.specs.Way.{written_all}
use Rattle.proof_serial.specs.Chip.{ChipDoes}
use Rattle.proof_serial.proofs.ChipWays.{IsStill, SetsTable, all_pairs_set, does_both, does_one, fits_for, owes, quiet_one, sets_map, sets_may, short_payload, still_does}

-- some events of the chip were done, each as is asked
pub record Moves (Asks : ChipEvent → Type 0) (old new : OuterState) : Type 0 where
  pub events : List ChipEvent
  pub does : ChipDoes events old new
  pub asks : AllByRecursion Asks events

-- it tells the chip nothing of a node
abbrev pub IsFree : ChipEvent → Type 0
IsFree (Informed n profile) = ⊥
IsFree event = Unit {0}

-- what is asked of events that tell nothing of a node, and of one that tells what the devices say
pub record Rule (Asks : ChipEvent → Type 0) (Premise : List State → Type 0) : Type 0 where
  pub free : (event : ChipEvent) → IsFree event → Asks event
  pub informed : (air : AirState) (devices : List State) (node : ℕ) (route : Option Route) → Premise devices → Asks (Informed node (profile_for air devices node route))

module _ {Asks : ChipEvent → Type 0} {Premise : List State → Type 0} (rule : Rule Asks Premise) where
  abbrev Goes : OuterState → OuterState → Type 0
  Goes = Moves Asks

  pub still_moves : (o n : OuterState) → IsStill o n → Goes o n
  still_moves o n still = record { events = []; does = still_does o n still; asks = tt }

  pub moves_here : (o n : OuterState) → n.chip ≡ o.chip → n.to_host ≡ o.to_host → n.to_chip ≡ o.to_chip → Goes o n
  moves_here o n chip to_host to_chip = still_moves o n (record { chip = chip; to_host = to_host; to_chip = to_chip })

  pub moves_both : (o p q : OuterState) → Goes o p → Goes p q → Goes o q
  moves_both o p q first later = record {
    events = first.events ++ later.events;
    does = does_both first.events later.events o p q first.does later.does;
    asks = all-append Asks first.events later.events first.asks later.asks;
  }

  -- what is changed before the chip does something, or after it
  pub moves_from : (o p q : OuterState) → IsStill o p → Goes p q → Goes o q
  moves_from o p q still moves = moves_both o p q (still_moves o p still) moves

  then_moves : (o : OuterState) (first : Outcome) (next : OuterState → Outcome) → Goes o first.outer → ((p : OuterState) → Goes p (next p).outer) → Goes o (and_then first next).outer
  then_moves o first next before later = moves_both o first.outer (next first.outer).outer before (later first.outer)

  each_moves : {X : Type 0} (step : OuterState → X → Outcome) → ((o : OuterState) (x : X) → Goes o (step o x).outer) → (o : OuterState) (xs : List X) → Goes o (each step o xs).outer
  each_moves step moves o [] = moves_here o o refl refl refl
  each_moves step moves o (x ∷ xs) = moves_both o (step o x).outer (each step (step o x).outer xs).outer (moves o x) (each_moves step moves (step o x).outer xs)

  -- ---- one event of the chip

  moves_one : (o : OuterState) (e : ChipEvent) → May o.chip.state e → Asks e → Goes o (chip_does o e).outer
  moves_one o e may asks = record { events = e ∷ []; does = does_one o e may; asks = (asks, tt) }

  -- ---- results

  call_moves : (o : OuterState) (status : TransmitStatus) → Goes o (call_back o status).outer
  call_moves o status = by (owes_call o.chip.state) refl
    where
      by : (b : Bool) → owes_call o.chip.state ≡ b → Goes o (if b then chip_does (record o { calls = drop 1 o.calls }) (Done status) else silent (record o { calls = drop 1 o.calls })).outer
      by true e = moves_from o (record o { calls = drop 1 o.calls }) _ (record { chip = refl; to_host = refl; to_chip = refl }) (moves_one (record o { calls = drop 1 o.calls }) (Done status) (owes o.chip.state e) (rule.free (Done status) tt))
      by false e = moves_here o (record o { calls = drop 1 o.calls }) refl refl refl

  no_route_moves : (o : OuterState) → Goes o (no_route o).outer
  no_route_moves o =
      moves_from o (record o { due = without_no_route o.due }) _ (record { chip = refl; to_host = refl; to_chip = refl }) (call_moves (record o { due = without_no_route o.due }) no_route_status)

  no_routes_move : (count : ℕ) (o : OuterState) → Goes o (no_routes count o).outer
  no_routes_move zero o = moves_here o o refl refl refl
  no_routes_move (suc count) o = then_moves o (no_route o) (λ later. no_routes count later) (no_route_moves o) (λ later. no_routes_move count later)

  -- the chip's table changes
  forgets_moves : (o : OuterState) (dead : Option (ℕ × ℕ)) → Goes o (forgets o dead).outer
  forgets_moves o None = moves_here o o refl refl refl
  forgets_moves o (Some hop) = by (linked o.chip.state.table hop.0 hop.1)
    where
      by : (b : Bool) → Goes o (if b then tells (with_chip o (after o.chip.state (Forgets hop.0 hop.1))) (Forget hop.0 hop.1 ∷ []) else silent o).outer
      by true = record { events = Forgets hop.0 hop.1 ∷ []; does = quiet_one o (Forgets hop.0 hop.1) tt refl; asks = (rule.free (Forgets hop.0 hop.1) tt, tt) }
      by false = moves_here o o refl refl refl

  ends_moves : (o : OuterState) (status : ℕ) (dead : Option (ℕ × ℕ)) → Goes o (frame_ends o status dead).outer
  ends_moves o status dead =
      then_moves o (forgets o dead) (λ forgot. and_then (no_routes (leading forgot.calls) forgot) (λ later. call_back later (unwrap_or (status_of status) Fail))) (forgets_moves o dead)
      (λ forgot. then_moves forgot (no_routes (leading forgot.calls) forgot) (λ later. call_back later (unwrap_or (status_of status) Fail)) (no_routes_move (leading forgot.calls) forgot)
      (λ later. call_moves later (unwrap_or (status_of status) Fail)))

  -- ---- the information of a node

  informs_moves : (o : OuterState) (devices : List State) (node : ℕ) (route : Option Route) → Premise devices → Goes o (informs o devices node route).outer
  informs_moves o devices node route premise =
      moves_one o (Informed node (profile_for o.air devices node route)) (fits_for (is_joined o.air node && is_some route) (device_at devices (place_of node devices)))
      (rule.informed o.air devices node route premise)

  pub gives_moves : (o : OuterState) (devices : List State) (due : List Due) (route : Option Route) → Premise devices → Goes o (gives o devices due route).outer
  gives_moves o devices [] route premise = moves_here o o refl refl refl
  gives_moves o devices (no_route_due ∷ due) route premise = no_route_moves o
  gives_moves o devices (Info node ∷ due) route premise = moves_from o (record o { due = due }) _ (record { chip = refl; to_host = refl; to_chip = refl }) (informs_moves (record o { due = due }) devices node route premise)

  -- ---- the air

  to_chip_moves : (o : OuterState) (from : ℕ) (payload : List ℕ) → Goes o (to_chip o from payload).outer
  to_chip_moves o from payload = by (nat_le 1 (length payload) && nat_le (length payload) 46) refl
    where
      by : (b : Bool) → (nat_le 1 (length payload) && nat_le (length payload) 46) ≡ b → Goes o (if b then chip_does o (chip_hears from payload) else silent o).outer
      by true e = moves_one o (chip_hears from payload) (short_payload payload e) (rule.free (chip_hears from payload) tt)
      by false e = moves_here o o refl refl refl

  deals_moves : (devices : List State) (o : OuterState) (event : AirEvent) → Goes o (deals devices o event).outer
  deals_moves devices o (air_event.Heard frame) = moves_here o o refl refl refl
  deals_moves devices o (air_event.Lost frame) = moves_here o o refl refl refl
  deals_moves devices o (air_event.Unheard frame) = moves_here o o refl refl refl
  deals_moves devices o (air_event.Sent frame from to route payload) = moves_here o o refl refl refl
  deals_moves devices o (air_event.Changed node at) = moves_here o o refl refl refl
  deals_moves devices o (air_event.ToChip frame from payload) = to_chip_moves o from payload
  deals_moves devices o (air_event.Done frame status dead) = ends_moves o status dead

  pub steps_moves : (w : Outside) (step : AirStep) → Goes w.outer (steps w step).outer
  steps_moves w step =
      let devices = (mesh_after (mesh_of w) step).devices in
      let flown = record w.outer { air = (mesh_after (mesh_of w) step).air } in
      moves_from w.outer flown _ (record { chip = refl; to_host = refl; to_chip = refl }) (each_moves (deals devices) (deals_moves devices) flown (mesh_outs (mesh_of w) step))

  pub repeats_moves : (w : Outside) (refused : Option RepeatRefusal) (step : AirStep) → Goes w.outer (repeats w refused step).outer
  repeats_moves w None step = steps_moves w step
  repeats_moves w (Some refused) step = moves_here w.outer w.outer refl refl refl

  -- ---- devices

  pub at_moves : (o : OuterState) (device : Option State) (event : DeviceEvent) (route : Option Route) → Goes o (acts_at o device event route).outer
  at_moves o None event route = moves_here o o refl refl refl
  at_moves o (Some device) event route = moves_here o (acts_at o (Some device) event route).outer refl refl refl

  pub hand_moves : (o : OuterState) (devices : List State) (place : Option ℕ) (event : DeviceEvent) (route : Option Route) → Goes o (acts_by_hand o devices place event route).outer
  hand_moves o devices None event route = moves_here o o refl refl refl
  hand_moves o devices (Some place) event route = at_moves o (slice_get devices place) event route

  -- ---- nodes

  sets_ask : (e : ChipEvent) → SetsTable e → Asks e
  sets_ask (Joined n listening) sets = rule.free (Joined n listening) tt
  sets_ask (Linked a b live) sets = rule.free (Linked a b live) tt
  sets_ask e sets = absurd sets

  sets_moves : (o : OuterState) (events : List ChipEvent) → AllByRecursion SetsTable events → Goes o (with_chip o (after_all o.chip.state events))
  sets_moves o events all =
      let may = sets_may o.chip.state events all in record {
        events = events;
        does = record {
          may = may.0;
          state = refl;
          to_host = ap (λ (l : List ChipOut). written_all o.to_host (chip_units l)) (sym may.1);
          decoder = refl;
          to_chip = refl;
        };
        asks = all-weaker SetsTable Asks sets_ask events all;
      }

  pub joins_moves : (o : OuterState) (node : ℕ) (listening : Bool) → Goes o (joins o node listening)
  joins_moves o node listening =
      let air = joining o.air node listening in
      let events = Joined node listening ∷ links_of air node in
      let known = filter (λ (other : ℕ). is_known air other && linked air.network node other) (range_with_len 1 232) in
      let all : AllByRecursion SetsTable events = (tt, sets_map (λ (other : ℕ). Linked node other true) (λ (other : ℕ). tt) known) in
      moves_both o (with_chip o (after_all o.chip.state events)) (joins o node listening) (sets_moves o events all) (moves_here _ _ refl refl refl)

  pub discovers_moves : (o : OuterState) → Goes o (discovers o)
  discovers_moves o = sets_moves o (all_pairs o.air) (all_pairs_set o.air)

  pub collides_moves : (o : OuterState) → Goes o (with_chip o (after o.chip.state Collides))
  collides_moves o = record { events = Collides ∷ []; does = quiet_one o Collides tt refl; asks = (rule.free Collides tt, tt) }
