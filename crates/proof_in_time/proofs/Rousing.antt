-- The Notification of a node that was woken comes nearer to the host from phase to phase, until it has risen.
use Rattle.std.proofs.Common.{◌≡◌, ◌≤◌, ◌<◌, ℕ, zero, suc, ◌+◌, ◌-◌, nat_lt, inl, inr, Bool, true, false, List, [], ◌∷◌, ◌++◌, length, refl, sym, ap, ◌∙◌, subst, arith}
use Rattle.std.specs.Prelude.{◌⊎◌, Option}
use Rattle.zw_text.specs.declared.line.Line.{Line}
use Rattle.zw_text.specs.declared.entry.Entry.{Entry}
use Rattle.zw_text.specs.declared.entry.Entry.TheVariants as entry
use Rattle.serial_frame.specs.Frame.{FrameParts}
use Rattle.serial_frame.specs.Stream.{Rest}
use Rattle.serial_frame.specs.declared.item.Item.{Item}
use Rattle.route_table.specs.declared.route.Route.{Route}
use Rattle.chip_sim.specs.Nodes.{is_marked}
use Rattle.air_frames.specs.Flown.{Flown}
use Rattle.device_sim.specs.State.{State}
use Rattle.law_time.specs.Stretches.{turns, wakes_never}
use Rattle.host_model.specs.Events.{HostEvent, Accepts}
use Rattle.host_model.specs.Pumping.{no_more_event}
use Rattle.outside_model.specs.Events.{Begins_line, Begins_tick, Arrives, Device_ticks, Chip_ticks, Wakes_device, Shows, Cuts, outcome}
use Rattle.world_model.specs.Events.{Event, Outside_does, Host_does, Host_takes, Decoder_ticks, Refuses, Shows_values, entries, happens, May, shown_values}
use Rattle.world_model.specs.State.{Machine}
use Rattle.proof_answered.specs.proof_calm.proof_traffic.OnAir.{on_air}
use Rattle.proof_answered.specs.proof_calm.proof_work.proof_walk.Phases.{Phase, Between, Said_line, Begun, Doing, To_tick, Ticked, Arriving, Giving, Ticking_devices, Ticking_chip, Ticking_decoder, Ticking_host, Sleeping, Submitting, Moving, Moved, Goes, Turns, after_pump, passes_after}
use Rattle.proof_answered.specs.proof_calm.Awaited.{Awaits, AwaitsAt}
use Rattle.proof_answered.specs.proof_calm.Live.{IsLive}
use Rattle.proof_answered.specs.proof_calm.Passes.{chip_taken}
use Rattle.proof_answered.specs.proof_calm.Resting.{IsEffect, IsGiven, LineAt}
use Rattle.proof_answered.specs.proof_calm.Routed.{IsRouted}
use Rattle.proof_answered.specs.proof_calm.Tied.{IsPeopled, RoomAt, TieAt, unheard}
use Rattle.proof_answered.specs.Outward.{IsSentTo}
use Rattle.proof_answered.specs.Sleepers.{Back_asleep, Before, Comes_home, Flies_home, IsNotification, IsToWake, OneWakes, SleeperAt, TellsWaking, Up, Was_told, Woken}
use Rattle.proof_answered.proofs.Calm.{does_calm, enters_calm, takes_calm}
use Rattle.proof_answered.proofs.Judging.{AnyFrame}
use Rattle.proof_answered.proofs.Outwards.{next_is_live}
use Rattle.proof_answered.proofs.proof_traffic_Parts.{Airs}
use Rattle.proof_answered.proofs.Tying.{rests_unheard}
use Rattle.proof_answered.proofs.Unheard.{chip_part_says, counts_says, decoder_says, device_says, does_says, effect_says, line_says, tick_says}
use Rattle.proof_answered.proofs.Walking.{none_given}
use Rattle.proof_in_time.specs.Coming.{Has, Stands, brings, one_later, ticks_left}
use Rattle.proof_in_time.specs.Sleeping.{ComesUp, Flies, Told}
use Rattle.proof_in_time.proofs.Bounded.{counted_air, decoder_adds, shows_adds, still_fits}
use Rattle.proof_in_time.proofs.Busy.{unless_ticking}
use Rattle.proof_in_time.proofs.Carried.{Fits, later_once, many_on_air, near, nothing_more, stands_within}
use Rattle.proof_in_time.proofs.Grown.{Adds, Arrived, arrives_there, calm_adds, device_adds, same_adds, stands_next, stands_on, takes_add, wakes_add}
use Rattle.proof_in_time.proofs.Landed.{arrives_has, has_piled, report_comes}
use Rattle.proof_in_time.proofs.Lasting.{never_sooner, sooner}
use Rattle.proof_in_time.proofs.Retried.{ticks_then}
use Rattle.proof_in_time.proofs.Rising.{HasRisen, RestsAt, none_comes, none_flies, one_comes, one_flies, risen_or, woken_still}

-- ---- nothing leaves

fly_carry : (n left then_left : ℕ) (here next : Phase) (m later : Machine) → Adds m.outside.outer later.outside.outer → Fits n (many_on_air m) here left next then_left → (at : Stands (IsNotification n) (on_air m.outside.outer.air.frames))
    → ticks_left here + one_later here (length at.before) ≤ left → ComesUp n then_left next later
fly_carry n left then_left here next m later adds fits at few =
    let on = stands_on (IsNotification n) (on_air m.outside.outer.air.frames) (on_air later.outside.outer.air.frames) adds at in
    let same : length on.0.before ≡ length at.before = ap (λ (fs : List Flown). length fs) on.1 in
    let fit = fits.joint (length at.before) (stands_within (IsNotification n) (on_air m.outside.outer.air.frames) at) in
    let so = near (ticks_left next + one_later next (length at.before)) (ticks_left here + one_later here (length at.before)) left then_left fit few in
    Flies on.0 (subst (λ (k : ℕ). ticks_left next + one_later next k ≤ then_left) (sym same) so)

up_carry : (n left then_left : ℕ) (here next : Phase) (m later : Machine) → Adds m.outside.outer later.outside.outer → ((x : FrameParts) → Has x (unheard m.outside.outer) → Has x (unheard later.outside.outer))
    → Fits n (many_on_air m) here left next then_left → ComesUp n left here m → ComesUp n then_left next later
up_carry n left then_left here next m later adds has fits (Flies at few) = fly_carry n left then_left here next m later adds fits at few
up_carry n left then_left here next m later adds has fits (Told payload tells there few) = Told payload tells (has (brings n payload) there) (near (ticks_left next) (ticks_left here) left then_left fits.alone few)

up_stays : (n left : ℕ) (here next : Phase) (m later : Machine) → Adds m.outside.outer later.outside.outer → ((x : FrameParts) → Has x (unheard m.outside.outer) → Has x (unheard later.outside.outer))
    → ((place : ℕ) → ticks_left next + one_later next place ≤ ticks_left here + one_later here place) → ticks_left next ≤ ticks_left here → ComesUp n left here m → ComesUp n left next later
up_stays n left here next m later adds has joint alone comes = up_carry n left left here next m later adds has (still_fits n (many_on_air m) left here next joint alone) comes

-- one tick is to begin first, at least
pub some_up : (n left ticks : ℕ) (m : Machine) → ComesUp n left (To_tick (suc ticks)) m → 1 ≤ left
some_up n left ticks m (Flies at few) = omega (arith, few)
some_up n left ticks m (Told payload tells has few) = omega (arith, few)

pub up_said : (n left : ℕ) (line : Line) (m : Machine) → ComesUp n left Between m → ComesUp n left (Said_line line) m
up_said n left line m (Flies at few) = Flies at few
up_said n left line m (Told payload tells has few) = Told payload tells has few

-- ---- a frame arrives

lands_up : (airs : Airs) (m : Machine) (is : Awaits m) (drawn : List ℕ) (route : Option Route) (at : Arrived airs m is drawn route) → IsGiven 0 m → IsGiven 0 (happens m (Outside_does (Arrives drawn route)))
    → length m.outside.outer.chip.state.port.waiting ≤ 31 → (n : ℕ) → (at.frame.node ≡ n → IsLive m.outside.outer.air.network at.frame) → (left frames ticks : ℕ) → ComesUp n left (Arriving (suc frames) ticks) m
    → ComesUp n left (Arriving frames ticks) (happens m (Outside_does (Arrives drawn route)))
lands_up airs m is drawn route at given later room n live left frames ticks (Told payload tells there few) = Told payload tells (arrives_has (brings n payload) m drawn route given later there) few
lands_up airs m is drawn route at given later room n live left frames ticks (Flies stands few) =
    by (length stands.before) (omega (arith, few))
    (stands_next (IsNotification n) at.frame at.rest (record { before = stands.before; frame = stands.frame; behind = stands.behind; are = sym at.were ∙ stands.are; is = stands.is }))
  where
    by : (place : ℕ) → unless_ticking (nat_lt place (suc frames)) ≤ left → IsNotification n at.frame ⊎ ((on : Stands (IsNotification n) at.rest) × (place ≡ suc (length on.before)))
        → ComesUp n left (Arriving frames ticks) (happens m (Outside_does (Arrives drawn route)))
    by place soon (inl tells) =
        Told at.frame.payload tells.tells
        (subst (λ (k : ℕ). Has (brings k at.frame.payload) (unheard (happens m (Outside_does (Arrives drawn route))).outside.outer)) tells.node
        (report_comes m drawn route at.frame at.next tells.home (live tells.node) tells.tells.some tells.tells.few given later room)) (omega (arith, soon))
    by place soon (inr (on, same)) =
        let there = stands_on (IsNotification n) at.rest (on_air (happens m (Outside_does (Arrives drawn route))).outside.outer.air.frames) at.grows on in
        let as_far : unless_ticking (nat_lt (length on.before) frames) ≡ unless_ticking (nat_lt place (suc frames)) = sym (ap (λ (k : ℕ). unless_ticking (nat_lt k (suc frames))) same ∙ later_once (length on.before) frames) in
        Flies there.0
        (nothing_more (unless_ticking (nat_lt (length there.0.before) frames)) left
        (subst (λ (k : ℕ). unless_ticking (nat_lt k frames) ≤ left) (sym (ap (λ (fs : List Flown). length fs) there.1)) (subst (λ (k : ℕ). k ≤ left) (sym as_far) soon)))

-- ---- what is on the air

line_adds : (m : Machine) → Adds m.outside.outer (happens m (Outside_does Begins_line)).outside.outer
unfolding happens outcome
line_adds m = same_adds m.outside.outer (happens m (Outside_does Begins_line)).outside.outer refl

tick_adds : (m : Machine) → Adds m.outside.outer (happens m (Outside_does Begins_tick)).outside.outer
unfolding happens outcome
tick_adds m = same_adds m.outside.outer (happens m (Outside_does Begins_tick)).outside.outer refl

counted_adds : (m : Machine) → Adds m.outside.outer (happens m (Outside_does Chip_ticks)).outside.outer
counted_adds m = same_adds m.outside.outer (happens m (Outside_does Chip_ticks)).outside.outer (counted_air m)

does_adds : (airs : Airs) (m : Machine) (event : HostEvent) → Adds m.outside.outer (happens m (Host_does event)).outside.outer
does_adds airs m event = calm_adds m.outside.outer (happens m (Host_does event)).outside.outer (does_calm airs m event)

effect_adds : (airs : Airs) (m : Machine) (event : Event) → IsEffect event → Awaits m → Adds m.outside.outer (happens m event).outside.outer
unfolding happens outcome
effect_adds airs m (Outside_does (Wakes_device node route)) is awaits = wakes_add airs m awaits node route
effect_adds airs m (Outside_does (Shows node)) is awaits = shows_adds m node
effect_adds airs m (Outside_does (Cuts size)) is awaits = same_adds m.outside.outer (happens m (Outside_does (Cuts size))).outside.outer refl
effect_adds airs m (Host_does (Accepts order carriage)) is awaits = does_adds airs m (Accepts order carriage)
effect_adds airs m (Refuses of refusal) is awaits = calm_adds m.outside.outer (happens m (Refuses of refusal)).outside.outer (enters_calm airs m (entry.Refused refusal))
effect_adds airs m (Shows_values node) is awaits = calm_adds m.outside.outer (happens m (Shows_values node)).outside.outer (enters_calm airs m (shown_values m.host.state node))
effect_adds airs m (Outside_does event) is awaits = absurd is
effect_adds airs m (Host_does event) is awaits = absurd is
effect_adds airs m event is awaits = absurd is

-- ---- from phase to phase

-- it was with the chip for the host, which has judged what was on its way
record IsJudged (n : ℕ) (m : Machine) (next : Phase) (later : Machine) : Type 0 where
  pub passes : ℕ
  pub ticks : ℕ
  pub to : next ≡ Sleeping passes ticks
  pub payload : List ℕ
  pub tells : TellsWaking payload
  pub has : Has (brings n payload) (unheard m.outside.outer)
  pub same : on_air later.outside.outer.air.frames ≡ on_air m.outside.outer.air.frames

module _ (airs : Airs) (these : List Bool) (many : length these ≡ 233) (n : ℕ) (marked : is_marked these n ≡ true) where
  abbrev Leads : ℕ → Phase → Machine → Event → Type 0
  Leads left next m event = LineAt next (happens m event) → ComesUp n left next (happens m event) ⊎ IsJudged n m next (happens m event)

  as_is : (left : ℕ) (next to : Phase) (m : Machine) (event is : Event) → event ≡ is → next ≡ to → Leads left to m is → Leads left next m event
  as_is left next to m event is event_is next_is leads = subst (λ (e : Event). Leads left next m e) (sym event_is) (subst (λ (q : Phase). Leads left q m is) (sym next_is) leads)

  effect_up : (line : Line) (rest : List Event) (left : ℕ) (m : Machine) (event : Event) → IsEffect event → Awaits m → ComesUp n left (Doing line (event ∷ rest)) m → ComesUp n left (Doing line rest) (happens m event)
  effect_up line rest left m event is awaits comes =
      up_stays n left (Doing line (event ∷ rest)) (Doing line rest) m (happens m event) (effect_adds airs m event is awaits) (λ x has. effect_says AnyFrame (Has x) (has_piled x) airs m event is has) (λ place. omega arith) (omega arith) comes

  does_up : (here next : Phase) (left : ℕ) (m : Machine) (event : HostEvent) → ((place : ℕ) → ticks_left next + one_later next place ≤ ticks_left here + one_later here place) → ticks_left next ≤ ticks_left here → ComesUp n left here m
      → ComesUp n left next (happens m (Host_does event))
  does_up here next left m event joint alone comes =
      up_stays n left here next m (happens m (Host_does event)) (does_adds airs m event) (λ x has. does_says AnyFrame (Has x) (has_piled x) airs m event has) joint alone comes

  -- the host judges: what is on the air stays there
  judged_up : (b : Bool) (passes ticks left : ℕ) (m : Machine) (rest : Rest) (items : List Item) (events : List HostEvent) → ComesUp n left (Moved b passes ticks) m
      → ComesUp n left (Sleeping passes ticks) (happens m (Host_takes (length m.outside.outer.to_host.bytes) rest items events)) ⊎ IsJudged n m (Sleeping passes ticks) (happens m (Host_takes (length m.outside.outer.to_host.bytes) rest items events))
  judged_up b passes ticks left m rest items events (Flies at few) =
      let later : Machine = happens m (Host_takes (length m.outside.outer.to_host.bytes) rest items events) in
      inl
      (fly_carry n left left (Moved b passes ticks) (Sleeping passes ticks) m later (calm_adds m.outside.outer later.outside.outer (takes_calm airs m (length m.outside.outer.to_host.bytes) rest items events))
      (still_fits n (many_on_air m) left (Moved b passes ticks) (Sleeping passes ticks) (λ place. omega arith) (omega arith)) at few)
  judged_up b passes ticks left m rest items events (Told payload tells has few) =
      inr (record { passes = passes; ticks = ticks; to = refl; payload = payload; tells = tells; has = has; same = (takes_calm airs m (length m.outside.outer.to_host.bytes) rest items events).on })

  up_on : (left : ℕ) (here next : Phase) (m : Machine) (event : Event) → Goes here m event next → May m event → LineAt here m → AwaitsAt here m → RoomAt here m → IsRouted m.outside.outer → TieAt here m → IsPeopled these m → IsSentTo these m event
      → ComesUp n left here m → Leads (ticks_then left here) next m event
  up_on left (Said_line line) next m event (is, to) may at awaits room routed tie peopled sent comes =
      as_is left next (Begun line) m event _ is to
      (λ later. inl (up_stays n left (Said_line line) (Begun line) m (happens m (Outside_does Begins_line)) (line_adds m) (λ x has. line_says AnyFrame (Has x) (has_piled x) m has) (λ place. omega arith) (omega arith) comes))
  up_on left (Doing line (first ∷ rest)) next m event (is, to) may at awaits room routed tie peopled sent comes = as_is left next (Doing line rest) m event first is to (λ later. inl (effect_up line rest left m first at.0.0 awaits comes))
  up_on left (To_tick (suc ticks)) next m event (is, to) may at awaits room routed tie peopled sent comes =
      as_is (left - 1) next (Ticked ticks) m event _ is to
      (λ later.
      inl (up_carry n left (left - 1) (To_tick (suc ticks)) (Ticked ticks) m (happens m (Outside_does Begins_tick)) (tick_adds m) (λ x has. tick_says AnyFrame (Has x) (has_piled x) m has) (record { joint = λ place less. omega arith; alone = omega arith })
      comes))
  up_on left (Arriving (suc frames) ticks) next m event (drawn, route, is, to) may at awaits room routed tie peopled sent comes =
      as_is left next (Arriving frames ticks) m event _ is to
      (λ later.
      let there : Arrived airs m awaits.awaits drawn route = arrives_there airs m awaits.awaits drawn route (subst (May m) is may) in
      inl
      (lands_up airs m awaits.awaits drawn route there at later (omega (arith, room)) n
      (λ same. next_is_live these m.outside.outer peopled.live there.frame there.next (λ home. subst (λ (k : ℕ). is_marked these k ≡ true) (sym same) marked)) left frames ticks comes))
  up_on left (Giving (suc results) ticks) next m event (route, is, to) may at awaits room routed tie peopled sent comes = absurd (none_given m results routed awaits.many)
  up_on left (Ticking_devices place (suc count) ticks) next m event (drawn, route, is, to) may at awaits room routed tie peopled sent comes =
      as_is left next (Ticking_devices (place + 1) count ticks) m event _ is to
      (λ later.
      inl (up_stays n left (Ticking_devices place (suc count) ticks) (Ticking_devices (place + 1) count ticks) m (happens m (Outside_does (Device_ticks place drawn route))) (device_adds airs m awaits.awaits place drawn route)
      (λ x has. device_says AnyFrame (Has x) (has_piled x) m place drawn route has) (λ frames. omega arith) (omega arith) comes))
  up_on left (Ticking_chip ticks) next m event (is, to) may at awaits room routed tie peopled sent comes =
      as_is left next (Ticking_decoder ticks) m event _ is to
      (λ later.
      inl (up_stays n left (Ticking_chip ticks) (Ticking_decoder ticks) m (happens m (Outside_does Chip_ticks)) (counted_adds m) (λ x has. counts_says AnyFrame (Has x) (has_piled x) m at later has) (λ place. omega arith) (omega arith) comes))
  up_on left (Ticking_decoder ticks) next m event (is, to) may at awaits room routed tie peopled sent comes =
      as_is left next (Ticking_host _ ticks) m event _ is to
      (λ later. inl (up_stays n left (Ticking_decoder ticks) (Ticking_host _ ticks) m (happens m Decoder_ticks) (decoder_adds m) (λ x has. decoder_says AnyFrame (Has x) (has_piled x) m has) (λ place. omega arith) (omega arith) comes))
  up_on left (Ticking_host (first ∷ events) ticks) next m event (is, to) may at awaits room routed tie peopled sent comes =
      as_is left next (Ticking_host events ticks) m event _ is to (λ later. inl (does_up (Ticking_host (first ∷ events) ticks) (Ticking_host events ticks) left m first (λ place. omega arith) (omega arith) comes))
  up_on left (Sleeping passes ticks) next m event (k, wants, is, to) may at awaits room routed tie peopled sent comes =
      as_is left next (Sleeping passes ticks) m event _ is to (λ later. inl (does_up (Sleeping passes ticks) (Sleeping passes ticks) left m (no_more_event m.host.state k) (λ place. omega arith) (omega arith) comes))
  up_on left (Submitting passes ticks) next m event (asked, next_is, is, to) may at awaits room routed tie peopled sent comes =
      as_is left next (Submitting passes ticks) m event _ is to (λ later. inl (does_up (Submitting passes ticks) (Submitting passes ticks) left m asked (λ place. omega arith) (omega arith) comes))
  up_on left (Moving passes ticks) next m event (rest, ways, is, to) may at awaits room routed tie peopled sent comes =
      as_is left next (Moved true passes ticks) m event _ is to
      (λ later.
      inl (up_stays n left (Moving passes ticks) (Moved true passes ticks) m (chip_taken m rest ways) (takes_add airs m awaits these many (length m.outside.outer.to_chip.bytes) rest ways (subst (IsSentTo these m) is sent))
      (λ x has. chip_part_says AnyFrame (Has x) (has_piled x) tt passes m rest ways (subst (May m) is may) at room tie later has) (λ place. omega arith) (omega arith) comes))
  up_on left (Moved b passes ticks) next m event (rest, items, events, is, to) may at awaits room routed tie peopled sent comes = as_is left next (Sleeping passes ticks) m event _ is to (λ later. judged_up b passes ticks left m rest items events comes)
  up_on left here next m event goes may at awaits room routed tie peopled sent comes = absurd goes

  -- ---- and with no event

  to_is : (left : ℕ) (next to : Phase) (m : Machine) → next ≡ to → ComesUp n left to m → ComesUp n left next m
  to_is left next to m same comes = subst (λ (q : Phase). ComesUp n left q m) (sym same) comes

  turned : (left : ℕ) (here next : Phase) (m : Machine) → Fits n (many_on_air m) here left next left → ComesUp n left here m → ComesUp n left next m
  turned left here next m fits comes = up_carry n left left here next m m (same_adds m.outside.outer m.outside.outer refl) (λ x has. has) fits comes

  simply : (left : ℕ) (here next : Phase) (m : Machine) → ((place : ℕ) → ticks_left next + one_later next place ≤ ticks_left here + one_later here place) → ticks_left next ≤ ticks_left here → ComesUp n left here m → ComesUp n left next m
  simply left here next m joint alone comes = turned left here next m (still_fits n (many_on_air m) left here next joint alone) comes

  pumped_up : (left passes ticks : ℕ) (m : Machine) → LineAt (after_pump passes ticks) m → ComesUp n left (Submitting passes ticks) m → ComesUp n left (after_pump passes ticks) m
  pumped_up left zero ticks m rests (Flies at few) = Flies at (omega (arith, few))
  pumped_up left zero ticks m rests (Told payload tells has few) = absurd (subst (Has (brings n payload)) (rests_unheard m rests) has)
  pumped_up left (suc passes) ticks m rests comes = simply left (Submitting (suc passes) ticks) (Moving passes ticks) m (λ place. omega arith) (omega arith) comes

  arriving_up : (left ticks : ℕ) (m : Machine) → Awaits m → ComesUp n left (Ticked ticks) m → ComesUp n left (Arriving (m.outside.outer.air.frames.sent - m.outside.outer.air.frames.landed) ticks) m
  arriving_up left ticks m is comes =
      turned left (Ticked ticks) (Arriving (m.outside.outer.air.frames.sent - m.outside.outer.air.frames.landed) ticks) m
      (record {
        joint = λ place less.
            let soon = sooner place (m.outside.outer.air.frames.sent - m.outside.outer.air.frames.landed)
            (subst (λ (k : ℕ). place < k) (airs.count is.log (on_air m.outside.outer.air.frames) m.outside.outer.air.frames is.follows.fly) less) in
            omega (arith, soon);
        alone = omega arith;
      })
      comes

  giving_up : (left results ticks : ℕ) (m : Machine) → ComesUp n left (Arriving zero ticks) m → ComesUp n left (Giving results ticks) m
  giving_up left results ticks m comes =
      turned left (Arriving zero ticks) (Giving results ticks) m (record { joint = λ place less. let late = never_sooner place in omega (arith, late); alone = omega arith }) comes

  pub up_turn : (left : ℕ) (here next : Phase) (m : Machine) → Turns here m next → AwaitsAt here m → LineAt next m → ComesUp n left here m → ComesUp n left next m
  up_turn left (Begun line) next m (inl (events, is, same)) awaits at comes = to_is left next (Doing line events) m same (simply left (Begun line) (Doing line events) m (λ place. omega arith) (omega arith) comes)
  up_turn left (Begun line) next m (inr (ticks, is, same)) awaits at comes = to_is left next (To_tick ticks) m same (simply left (Begun line) (To_tick ticks) m (λ place. omega arith) (omega arith) comes)
  up_turn left (Doing line []) next m same awaits at comes = to_is left next (Sleeping 64 0) m same (simply left (Doing line []) (Sleeping 64 0) m (λ place. omega arith) (omega arith) comes)
  up_turn left (To_tick zero) next m same awaits at comes = to_is left next Between m same (simply left (To_tick zero) Between m (λ place. omega arith) (omega arith) comes)
  up_turn left (Ticked ticks) next m same awaits at comes = to_is left next (Arriving _ ticks) m same (arriving_up left ticks m awaits comes)
  up_turn left (Arriving zero ticks) next m same awaits at comes = to_is left next (Giving _ ticks) m same (giving_up left _ ticks m comes)
  up_turn left (Giving zero ticks) next m same awaits at comes =
      to_is left next (Ticking_devices 0 (length m.outside.devices) ticks) m same (simply left (Giving zero ticks) (Ticking_devices 0 (length m.outside.devices) ticks) m (λ place. omega arith) (omega arith) comes)
  up_turn left (Ticking_devices place zero ticks) next m same awaits at comes =
      to_is left next (Ticking_chip ticks) m same (simply left (Ticking_devices place zero ticks) (Ticking_chip ticks) m (λ frames. omega arith) (omega arith) comes)
  up_turn left (Ticking_host [] ticks) next m same awaits at comes = to_is left next (Sleeping 64 ticks) m same (simply left (Ticking_host [] ticks) (Sleeping 64 ticks) m (λ place. omega arith) (omega arith) comes)
  up_turn left (Sleeping passes ticks) next m (none, same) awaits at comes = to_is left next (Submitting passes ticks) m same (simply left (Sleeping passes ticks) (Submitting passes ticks) m (λ place. omega arith) (omega arith) comes)
  up_turn left (Submitting passes ticks) next m (pumped, same) awaits at comes =
      to_is left next (after_pump passes ticks) m same (pumped_up left passes ticks m (subst (λ (q : Phase). LineAt q m) same at) comes)
  up_turn left (Moving passes ticks) next m (still, same) awaits at comes = to_is left next (Moved false passes ticks) m same (simply left (Moving passes ticks) (Moved false passes ticks) m (λ place. omega arith) (omega arith) comes)
  up_turn left (Moved b passes ticks) next m (still, same) awaits at comes =
      to_is left next (Sleeping (passes_after b passes) ticks) m same (simply left (Moved b passes ticks) (Sleeping (passes_after b passes) ticks) m (λ place. omega arith) (omega arith) comes)
  up_turn left here next m turns awaits at comes = absurd turns

  -- ---- once the host was told, it has risen

  -- it is woken
  one_at : (left : ℕ) (device : State) (here : Phase) (past : List Entry) (m : Machine) → SleeperAt n device here past m → ComesUp n left here m → (wakes_never (turns n past) ≡ false) × OneWakes n m
  one_at left device here past m (Before before down none quiet) (Flies at few) = absurd (none_flies n (on_air m.outside.outer.air.frames) quiet.frames at)
  one_at left device here past m (Before before down none quiet) (Told payload tells has few) = absurd (none_comes n payload (unheard m.outside.outer) quiet.pending tells has)
  one_at left device here past m (Woken later down none one awake) comes = (later.woken, one)
  one_at left device here past m (Up later up quiet awake) (Flies at few) = absurd (none_flies n (on_air m.outside.outer.air.frames) quiet.frames at)
  one_at left device here past m (Up later up quiet awake) (Told payload tells has few) = absurd (none_comes n payload (unheard m.outside.outer) quiet.pending tells has)
  one_at left device here past m (Was_told later up telling line none quiet) (Flies at few) = absurd (none_flies n (on_air m.outside.outer.air.frames) quiet.frames at)
  one_at left device here past m (Was_told later up telling line none quiet) (Told payload tells has few) = absurd (none_comes n payload (unheard m.outside.outer) quiet.pending tells has)
  one_at left device here past m (Back_asleep later down nothing none quiet) (Flies at few) = absurd (none_flies n (on_air m.outside.outer.air.frames) quiet.frames at)
  one_at left device here past m (Back_asleep later down nothing none quiet) (Told payload tells has few) = absurd (none_comes n payload (unheard m.outside.outer) quiet.pending tells has)

  pub come_on : (left : ℕ) (here next : Phase) (past : List Entry) (m : Machine) (event : Event) → Goes here m event next → May m event → LineAt here m → AwaitsAt here m → RoomAt here m → IsRouted m.outside.outer → TieAt here m → IsPeopled these m
      → IsSentTo these m event → LineAt next (happens m event) → RestsAt n here past m → RestsAt n next (past ++ entries m event) (happens m event) → ComesUp n left here m
      → ComesUp n (ticks_then left here) next (happens m event) ⊎ HasRisen n next (past ++ entries m event) (happens m event)
  come_on left here next past m event goes may at awaits room routed tie peopled sent later was is comes = by (up_on left here next m event goes may at awaits room routed tie peopled sent comes later)
    where
      woken : (wakes_never (turns n past) ≡ false) × OneWakes n m
      woken = one_at left was.0.device here past m was.1 comes

      then_on : IsJudged n m next (happens m event) → OneWakes n (happens m event) → ComesUp n (ticks_then left here) next (happens m event)
      then_on judged (Flies_home one pending) = absurd (still woken.1)
        where
          there : Stands (IsNotification n) (on_air m.outside.outer.air.frames)
          there = subst (λ (fs : List Flown). Stands (IsNotification n) fs) judged.same (one_flies n (on_air (happens m event).outside.outer.air.frames) one)

          still : OneWakes n m → ⊥
          still (Flies_home first waits) = none_comes n judged.payload (unheard m.outside.outer) waits judged.tells judged.has
          still (Comes_home frames first) = none_flies n (on_air m.outside.outer.air.frames) frames there
      then_on judged (Comes_home frames one) =
          let from = one_comes n (unheard (happens m event).outside.outer) one in
          let soon : ticks_left next ≡ 0 = ap ticks_left judged.to in
          Told from.payload from.tells from.has (omega (arith, soon))

      by : ComesUp n (ticks_then left here) next (happens m event) ⊎ IsJudged n m next (happens m event) → ComesUp n (ticks_then left here) next (happens m event) ⊎ HasRisen n next (past ++ entries m event) (happens m event)
      by (inl on) = inl on
      by (inr judged) =
          of (risen_or n is.0.device next (past ++ entries m event) (happens m event) is.1 (woken_still n past (entries m event) woken.0) (λ wakes. subst (λ (q : Phase). IsToWake n q) judged.to wakes))
        where
          of : OneWakes n (happens m event) ⊎ HasRisen n next (past ++ entries m event) (happens m event) → ComesUp n (ticks_then left here) next (happens m event) ⊎ HasRisen n next (past ++ entries m event) (happens m event)
          of (inl one) = inl (then_on judged one)
          of (inr risen) = inr risen
