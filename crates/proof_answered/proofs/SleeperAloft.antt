-- No frame of the host is on the air where it has no request, and after that with No More Information was heard, until it is over.
use Rattle.std.proofs.Common.{◌≡◌, ◌≢◌, ℕ, zero, suc, ◌+◌, Bool, true, false, inl, inr, List, [], ◌∷◌, map, length, refl, sym, ap, ◌∙◌, subst, arith}
use Rattle.std.proofs.lemmas.List.{length-map}
use Rattle.std.specs.Prelude.{Option, Some, None}
use Rattle.std.specs.Option.{is_some}
use Rattle.std.specs.List.{AllByRecursion}
use Rattle.serial_frame.specs.Frame.{FrameParts}
use Rattle.serial_link.specs.declared.turn.Turn.TheVariants.{Idle as no_turn}
use Rattle.route_table.specs.declared.route.Route.{Route}
use Rattle.air_frames.specs.Flown.{Flown}
use Rattle.air_frames.specs.Frames.{next_of}
use Rattle.air_frames.specs.declared.frame.Heading.{Heading}
use Rattle.air_frames.specs.declared.frame.Heading.TheVariants.{Outward, Homeward}
use Rattle.chip_sim.specs.Nodes.{is_marked}
use Rattle.chip_sim.specs.declared.out.Sending.{Sending}
use Rattle.host_model.specs.Ticking.{tick_events}
use Rattle.outside_model.specs.Events.{OuterEvent, Arrives, Chip_takes}
use Rattle.world_model.specs.Events.{Event, Outside_does, happens, May}
use Rattle.world_model.specs.State.{Machine}
use Rattle.proof_calm.specs.proof_traffic.Facts.{one_if}
use Rattle.proof_calm.specs.proof_traffic.Flights.{Fly}
use Rattle.proof_calm.specs.proof_traffic.OnAir.{hosts_on_air, on_air}
use Rattle.proof_calm.specs.proof_traffic.OutsideTraffic.{one_outward, outward}
use Rattle.proof_calm.specs.proof_work.proof_walk.Phases.{Phase, Between, Said_line, Begun, Doing, To_tick, Ticked, Arriving, Giving, Ticking_devices, Ticking_chip, Ticking_decoder, Ticking_host, Sleeping, Submitting, Moving, Moved, Goes}
use Rattle.proof_calm.specs.Awaited.{Awaits, AwaitsAt}
use Rattle.proof_calm.specs.Resting.{LineAt}
use Rattle.proof_calm.specs.Settling.{Asks, Free, Heard, Heard_asks, Line as TheLine, Sent, Sent_asks}
use Rattle.proof_calm.specs.Tied.{At_chip, Called, Nowhere, On_way, Tied, TieAt, TieOf, ends_of, unheard}
use Rattle.proof_calm.proofs.proof_traffic_Parts.{Airs}
use Rattle.proof_calm.proofs.Peopled.{covers_of}
use Rattle.proof_calm.proofs.Pending.{has_kept}
use Rattle.proof_answered.specs.Outward.{IsFor, IsSentTo}
use Rattle.proof_answered.proofs.Outwards.{awaits_of, home_out, next_flight, outs_on, takes_for}
use Rattle.proof_answered.proofs.Staffing.{effect_sent, idle_sent}
use Rattle.proof_answered.proofs.Walking.{hosts_less, hosts_sent, one_host}

-- ---- the chip has given up no payload

line_kept : (m : Machine) → TheLine m → m.outside.outer.chip.state.aborted ≡ 0
line_kept m (Free line) = line.at_chip.none_given_up
line_kept m (Asks asked fits line) = line.at_chip.none_given_up
line_kept m (Heard frame ticks frames line) = line.at_chip.none_given_up
line_kept m (Heard_asks asked frame ticks frames fits line) = line.at_chip.none_given_up
line_kept m (Sent frame ticks frames line) = line.at_chip.none_given_up
line_kept m (Sent_asks asked frame ticks frames fits line) = line.at_chip.none_given_up

pub none_aborted : (here : Phase) (m : Machine) → LineAt here m → m.outside.outer.chip.state.aborted ≡ 0
none_aborted Between m at = at.at_chip.none_given_up
none_aborted (Said_line line) m at = at.1.at_chip.none_given_up
none_aborted (Begun line) m at = at.1.at_chip.none_given_up
none_aborted (Doing line left) m at = at.1.at_chip.none_given_up
none_aborted (To_tick ticks) m at = at.at_chip.none_given_up
none_aborted (Ticked ticks) m at = has_kept 0 m.outside.outer at.has
none_aborted (Arriving frames ticks) m at = has_kept 0 m.outside.outer at.has
none_aborted (Giving results ticks) m at = has_kept 0 m.outside.outer at.has
none_aborted (Ticking_devices place count ticks) m at = has_kept 0 m.outside.outer at.has
none_aborted (Ticking_chip ticks) m at = has_kept 0 m.outside.outer at.has
none_aborted (Ticking_decoder ticks) m at = has_kept 1 m.outside.outer at.has
none_aborted (Ticking_host events ticks) m at = has_kept 1 m.outside.outer at.1.has
none_aborted (Sleeping passes ticks) m (inl done) = done.line.at_chip.none_given_up
none_aborted (Sleeping passes ticks) m (inr stands) = line_kept m stands.live.line
none_aborted (Submitting passes ticks) m (inl done, none) = done.line.at_chip.none_given_up
none_aborted (Submitting passes ticks) m (inr live, none) = line_kept m live.line
none_aborted (Moving passes ticks) m (inl done) = done.line.at_chip.none_given_up
none_aborted (Moving passes ticks) m (inr can) = line_kept m can.live.line
none_aborted (Moved b passes ticks) m (inl done) = done.line.at_chip.none_given_up
none_aborted (Moved b passes ticks) m (inr has) = has.line.at_chip.none_given_up

-- ---- where the host has no request the chip sends nothing

tie_idle : (counted : Bool) (m : Machine) (asking : List FrameParts) → TieOf counted m asking → m.host.state.requests.under_way ≡ None → m.outside.outer.chip.state.sending ≡ None
tie_idle counted m asking tie none = by tie.tied
  where
    by : Tied counted (ends_of m.host.state m.outside.outer.chip.state) (unheard m.outside.outer) asking → m.outside.outer.chip.state.sending ≡ None
    by (Nowhere is) = is.idle
    by (On_way u of fresh is) = absurd (let wrong : None ≡ Some u = sym none ∙ of.under_way in cc)
    by (At_chip u of fresh is) = absurd (let wrong : None ≡ Some u = sym none ∙ of.under_way in cc)
    by (Called u of fresh is) = absurd (let wrong : None ≡ Some u = sym none ∙ of.under_way in cc)

sends_none : (here : Phase) (m : Machine) → TieAt here m → m.host.state.requests.under_way ≡ None → m.outside.outer.chip.state.sending ≡ None
sends_none (Ticking_host events ticks) m at none = tie_idle at.counted m _ at.tie none
sends_none (Sleeping passes ticks) m at none = tie_idle true m _ at none
sends_none (Submitting passes ticks) m at none = tie_idle true m _ at none
sends_none (Moving passes ticks) m at none = tie_idle true m _ at none
sends_none (Moved b passes ticks) m at none = tie_idle true m _ at none
sends_none here m at none = tie_idle false m [] at none

-- so none of its frames flies
unsent_none : (m : Machine) → Awaits m → m.outside.outer.chip.state.aborted ≡ 0 → m.outside.outer.chip.state.sending ≡ None → hosts_on_air m.outside.outer ≡ 0
unsent_none m is kept none =
    let sent = hosts_sent m is kept in
    let idle : one_if (is_some m.outside.outer.chip.state.sending) ≡ 0 = ap (λ (o : Option Sending). one_if (is_some o)) none in
    omega (arith, sent, idle)

pub none_fly : (here : Phase) (m : Machine) → LineAt here m → AwaitsAt here m → TieAt here m → m.host.state.requests.under_way ≡ None → hosts_on_air m.outside.outer ≡ 0
none_fly here m line_at awaits tie none = unsent_none m (awaits_of here m awaits) (none_aborted here m line_at) (sends_none here m tie none)

-- ---- a frame of the host arrives: none is left

pub host_lands : (airs : Airs) (m : Machine) (drawn : List ℕ) (route : Option Route) (frame : Flown) → Awaits m → m.outside.outer.chip.state.aborted ≡ 0 → next_of m.outside.outer.air.frames ≡ Some frame → frame.heading ≡ Outward
    → hosts_on_air (happens m (Outside_does (Arrives drawn route))).outside.outer ≡ 0
host_lands airs m drawn route frame is kept next out =
    let first = next_flight airs is.log (on_air m.outside.outer.air.frames) m.outside.outer.air.frames frame is.follows.fly next in
    let less = hosts_less airs m drawn route is.log frame first.0 first.1 (subst (λ (fs : List Flown). Fly is.log fs m.outside.outer.air.frames) first.1 is.follows.fly) in
    let one = one_host m is kept in
    let outward_one : one_outward frame.heading ≡ 1 = ap one_outward out in
    omega (arith, less, one, outward_one)

-- ---- where none is there, and none is asked for, none comes

-- none of the nodes
abbrev pub unmarked : List Bool → List Bool
unmarked these = map (λ (b : Bool). false) these

pub none_marked : (these : List Bool) (n : ℕ) → is_marked (map (λ (b : Bool). false) these) n ≡ true → ⊥
none_marked [] n marked = absurd cc
none_marked (b ∷ these) zero marked = absurd cc
none_marked (b ∷ these) (suc n) marked = none_marked these n marked

none_outward : (these : List Bool) (frames : List Flown) → AllByRecursion (IsFor (map (λ (b : Bool). false) these)) frames → outward frames ≡ 0
none_outward these [] all = refl
none_outward these (frame ∷ frames) all = by (none_outward these frames all.1) frame.heading refl
  where
    by : outward frames ≡ 0 → (heading : Heading) → frame.heading ≡ heading → one_outward frame.heading + outward frames ≡ 0
    by rest Homeward is = let one : one_outward frame.heading ≡ 0 = ap one_outward is in omega (arith, one, rest)
    by rest Outward is = absurd (none_marked these frame.node (all.0 is))

-- the chip is asked for none
asked_as : (these : List Bool) (m : Machine) (event is : Event) → event ≡ is → IsSentTo these m is → IsSentTo these m event
asked_as these m event is same sent = subst (IsSentTo these m) (sym same) sent

idle_asked : (these : List Bool) (here next : Phase) (m : Machine) (event : Event) → Goes here m event next → May m event → LineAt here m → m.host.state.side.turn ≡ no_turn → IsSentTo these m event
idle_asked these (Said_line line) next m event (is, to) may line_at idle = asked_as these m event _ is tt
idle_asked these (Doing line (first ∷ left)) next m event (is, to) may line_at idle = asked_as these m event first is (effect_sent these m first line_at.0.0)
idle_asked these (To_tick (suc ticks)) next m event (is, to) may line_at idle = asked_as these m event _ is tt
idle_asked these (Arriving (suc frames) ticks) next m event (drawn, route, is, to) may line_at idle = asked_as these m event _ is tt
idle_asked these (Giving (suc results) ticks) next m event (route, is, to) may line_at idle = asked_as these m event _ is tt
idle_asked these (Ticking_devices place (suc count) ticks) next m event (drawn, route, is, to) may line_at idle = asked_as these m event _ is tt
idle_asked these (Ticking_chip ticks) next m event (is, to) may line_at idle = asked_as these m event _ is tt
idle_asked these (Ticking_decoder ticks) next m event (is, to) may line_at idle = asked_as these m event _ is tt
idle_asked these (Ticking_host (first ∷ events) ticks) next m event (is, to) may line_at idle = asked_as these m event _ is tt
idle_asked these (Sleeping passes ticks) next m event (node, wants, is, to) may line_at idle = asked_as these m event _ is tt
idle_asked these (Submitting passes ticks) next m event (asked_is, next_is_so, is, to) may line_at idle = asked_as these m event _ is tt
idle_asked these (Moving passes ticks) next m event (rest, ways, is, to) may line_at idle = asked_as these m event _ is (idle_sent these passes m rest ways line_at (subst (May m) is may) idle)
idle_asked these (Moved b passes ticks) next m event (rest, items, done, is, to) may line_at idle = asked_as these m event _ is tt
idle_asked these here next m event goes may line_at idle = absurd goes

pub none_comes : (airs : Airs) (these : List Bool) → length these ≡ 233 → (here next : Phase) (m : Machine) (event : Event) → Goes here m event next → May m event → LineAt here m → AwaitsAt here m → m.host.state.side.turn ≡ no_turn
    → hosts_on_air m.outside.outer ≡ 0 → hosts_on_air (happens m event).outside.outer ≡ 0
none_comes airs these many here next m event goes may line_at awaits idle none =
    none_outward these (on_air (happens m event).outside.outer.air.frames)
    (outs_on (λ (frame : Flown). is_marked (unmarked these) frame.node ≡ true) airs m is all event (covers_of here next m event goes line_at) may
    (λ count rest ways takes. takes_for airs (unmarked these) (length-map these (λ (b : Bool). false) ∙ many) m is all count rest ways (subst (IsSentTo (unmarked these) m) takes (idle_asked (unmarked these) here next m event goes may line_at idle))))
  where
    is : Awaits m
    is = awaits_of here m awaits

    all : AllByRecursion (IsFor (unmarked these)) (on_air m.outside.outer.air.frames)
    all = home_out (λ (frame : Flown). is_marked (unmarked these) frame.node ≡ true) (on_air m.outside.outer.air.frames) none

-- ---- the host has no frame on the line then, if it had none

outer_idle : (m : Machine) (event : OuterEvent) → m.host.state.side.turn ≡ no_turn → (happens m (Outside_does event)).host.state.side.turn ≡ no_turn
unfolding happens
outer_idle m event idle = idle

-- the line says so where it is not the chip that takes
pub then_idle : (here next : Phase) (m : Machine) (event : Event) → Goes here m event next → LineAt next (happens m event) → m.host.state.side.turn ≡ no_turn → m.host.state.requests.under_way ≢ None → (happens m event).host.state.side.turn ≡ no_turn
then_idle here next m event goes later idle busy = by here goes
  where
    at_next : (to : Phase) → next ≡ to → LineAt to (happens m event)
    at_next to same = subst (λ (q : Phase). LineAt q (happens m event)) same later

    sleeping : (passes ticks : ℕ) → LineAt (Sleeping passes ticks) (happens m event) → (happens m event).host.state.side.turn ≡ no_turn
    sleeping passes ticks (inl done) = done.line.at_host.turn_is
    sleeping passes ticks (inr stands) = stands.turn

    by : (at : Phase) → Goes at m event next → (happens m event).host.state.side.turn ≡ no_turn
    by (Said_line line) (is, to) = (at_next (Begun line) to).1.at_host.turn_is
    by (Doing line (first ∷ left)) (is, to) = (at_next (Doing line left) to).1.at_host.turn_is
    by (To_tick (suc ticks)) (is, to) = (at_next (Ticked ticks) to).at_host.turn_is
    by (Arriving (suc frames) ticks) (drawn, route, is, to) = (at_next (Arriving frames ticks) to).at_host.turn_is
    by (Giving (suc results) ticks) (route, is, to) = (at_next (Giving results ticks) to).at_host.turn_is
    by (Ticking_devices place (suc count) ticks) (drawn, route, is, to) = (at_next (Ticking_devices (place + 1) count ticks) to).at_host.turn_is
    by (Ticking_chip ticks) (is, to) = (at_next (Ticking_decoder ticks) to).at_host.turn_is
    by (Ticking_decoder ticks) (is, to) = (at_next (Ticking_host (tick_events m.host.state) ticks) to).1.at_host.turn_is
    by (Ticking_host (first ∷ events) ticks) (is, to) = (at_next (Ticking_host events ticks) to).1.at_host.turn_is
    by (Sleeping passes ticks) (node, wants, is, to) = sleeping passes ticks (at_next (Sleeping passes ticks) to)
    by (Submitting passes ticks) (asked, next_is_so, is, to) = absurd (busy next_is_so.0.none_under_way)
    by (Moving passes ticks) (rest, ways, is, to) = subst (λ (e : Event). (happens m e).host.state.side.turn ≡ no_turn) (sym is) (outer_idle m (Chip_takes (length m.outside.outer.to_chip.bytes) rest ways) idle)
    by (Moved b passes ticks) (rest, items, done, is, to) = sleeping passes ticks (at_next (Sleeping passes ticks) to)
    by at goes_there = absurd goes_there
