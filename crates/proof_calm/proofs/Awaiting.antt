-- The calls that the chip awaits go on from phase to phase, beside the line.
use Rattle.std.proofs.Common.{◌≡◌, ℕ, zero, suc, ◌+◌, ◌-◌, ◌==◌, ◌≤◌, Bool, true, false, if◌then◌else◌, inl, inr, List, [], ◌∷◌, ◌++◌, map, length, refl, sym, ap, ◌∙◌, subst, arith, append-nil, append_assoc}
use Rattle.std.proofs.lemmas.List.{length_push}
use Rattle.std.specs.Option.{is_some}
use Rattle.std.specs.Prelude.{Option, drop}
use Rattle.serial_frame.specs.Stream.{Rest}
use Rattle.serial_frame.specs.declared.item.Item.{Item}
use Rattle.route_table.specs.declared.route.Route.{Route}
use Rattle.air_frames.specs.Flown.{Flown}
use Rattle.air_frames.specs.History.{Mark}
use Rattle.mesh_sim.specs.Air.{AirState}
use Rattle.host_model.specs.Events.{HostEvent, Accepts}
use Rattle.host_model.specs.Pumping.{no_more_event}
use Rattle.outside_model.specs.declared.waits.Call.{Call}
use Rattle.outside_model.specs.declared.waits.Call.TheVariants.{OfFrame, NoRoute as no_route_call}
use Rattle.outside_model.specs.declared.waits.Due.{Due}
use Rattle.outside_model.specs.State.{OuterState, Outside}
use Rattle.outside_model.specs.Chip.{chip_takes}
use Rattle.outside_model.specs.Events.{OuterEvent, Begins_line, Begins_tick, Arrives, Gives, Device_ticks, Chip_ticks, Chip_takes, Wakes_device, Shows, Cuts, outcome, happens as happens_outside, May as MayOutside}
use Rattle.world_model.specs.State.{Machine}
use Rattle.world_model.specs.Events.{Event, Outside_does, Host_does, Host_takes, Decoder_ticks, Refuses, Shows_values, happens, May}
use Rattle.proof_work.specs.proof_walk.Phases.{Phase, Between, Said_line, Begun, Doing, To_tick, Ticked, Arriving, Giving, Ticking_devices, Ticking_chip, Ticking_decoder, Ticking_host, Sleeping, Submitting, Moving, Moved, Turns, Goes, after_pump, passes_after}
use Rattle.proof_waking.specs.proof_traffic.Flights.{Fly}
use Rattle.proof_waking.specs.proof_traffic.Requests.{Word, Traffic, Step, Submits, Copies, Loses, Acknowledges, Gives_up, Answers, Ends, Falls_silent, Takes, Stops, Calls, Restarts, after as after_step, May as MayStep, after_all as after_steps, MayAll as MaySteps}
use Rattle.proof_waking.specs.proof_traffic.Facts.{one_if, flying_in}
use Rattle.proof_waking.specs.proof_traffic.OutsideTraffic.{flags, outward, no_routes_due, without_frame, words_all, InTurn, AreNodes, Goes as OuterGoes}
use Rattle.proof_waking.specs.proof_traffic.OutsideTraffic as outer
use Rattle.proof_waking.specs.proof_traffic.OnAir.{on_air}
use Rattle.proof_waking.proofs.proof_traffic_Parts.{Airs}
use Rattle.proof_waking.proofs.Calm.{Calm, calm_entered, calm_same, does_calm, takes_calm, enters_calm}
use Rattle.proof_waking.proofs.Flights.{flights_are, follows_on_air}
use Rattle.proof_waking.proofs.Outside.{follows_calm}
use Rattle.proof_waking.proofs.CourseSteps.{nodes_kept}
use Rattle.proof_waking.proofs.ArrivedFrames.{Homes, arrives_home}
use Rattle.proof_waking.proofs.Arrivals.{outward-append}
use Rattle.proof_waking.proofs.ChipNotices.{Given, given_first, device_calls, ticks_calls}
use Rattle.proof_calm.specs.Awaited.{Awaits, AwaitsFrames, AwaitsResults, AwaitsNone, AwaitsAt}
use Rattle.proof_calm.specs.Resting.{IsEffect, LineAt}

-- what is proved of what is outside the host
pub record Outsides : Type 0 where
  pub air : Airs
  pub events : (t : Traffic) (log : List Mark) (flights : List Flown) (w : Outside) (event : OuterEvent) → outer.Follows t log flights w.outer → AreNodes w.devices → MayOutside w event → InTurn flights event →
      OuterGoes t log flights (happens_outside w event).outer t.up
  pub items : (t : Traffic) (log : List Mark) (flights : List Flown) (o : OuterState) (count : ℕ) (rest : Rest) (ways : List (Item × Option Route)) (later : List Word) →
      outer.Follows t log flights o → t.up ≡ words_all (map (λ w. w.0) ways) ++ later → OuterGoes t log flights (chip_takes o count rest ways).outer later

-- ---- a call is to come for each payload

abbrev EachCall : Traffic → Type 0
EachCall t = length t.calls ≡ t.aborted + one_if t.sending

takes_one : (t : Traffic) (flies : Bool) → EachCall t → t.sending ≡ false → length (t.calls ++ flies ∷ []) ≡ t.aborted + 1
takes_one t flies each none =
    let idle : one_if t.sending ≡ 0 = ap one_if none in
    let one = length_push t.calls flies in
    omega (arith, each, idle, one)

stops_one : (t : Traffic) → EachCall t → t.sending ≡ true → length t.calls ≡ (t.aborted + 1) + 0
stops_one t each some = let busy : one_if t.sending ≡ 1 = ap one_if some in omega (arith, each, busy)

less_one : (calls : List Bool) → length (drop 1 calls) ≡ length calls - 1
less_one [] = refl
less_one (call ∷ calls) = omega arith

pub outer_of : (m : Machine) (event : OuterEvent) → (happens m (Outside_does event)).outside ≡ happens_outside m.outside event
unfolding happens
outer_of m event = refl

pub few_if : (b : Bool) → one_if b ≤ 1
few_if true = omega arith
few_if false = omega arith

called_one : (t : Traffic) → EachCall t → EachCall (after_step t Calls)
called_one t each = by (t.aborted == 0) refl
  where
    less : length (drop 1 t.calls) ≡ length t.calls - 1
    less = less_one t.calls

    few : one_if t.sending ≤ 1
    few = few_if t.sending

    by : (none : Bool) → (t.aborted == 0) ≡ none → EachCall (if none then record t { sending = false; calls = drop 1 t.calls } else record t { aborted = t.aborted - 1; calls = drop 1 t.calls })
    by true is = let zero : t.aborted ≡ 0 = grind (arith, is) in omega (arith, each, less, few, zero)
    by false is = let some : 1 ≤ t.aborted = grind (arith, is) in omega (arith, each, less, few, some)

each_kept : (t : Traffic) (step : Step) → EachCall t → MayStep t step → EachCall (after_step t step)
each_kept t (Submits word) each may = each
each_kept t Copies each may = each
each_kept t (Loses at) each may = each
each_kept t Acknowledges each may = each
each_kept t Gives_up each may = each
each_kept t Answers each may = each
each_kept t Ends each may = each
each_kept t Falls_silent each may = each
each_kept t (Takes flies) each may = takes_one t flies each may.1
each_kept t Stops each may = stops_one t each may.1
each_kept t Calls each may = called_one t each
each_kept t Restarts each may = each

all_kept : (t : Traffic) (steps : List Step) → EachCall t → MaySteps t steps → EachCall (after_steps t steps)
all_kept t [] each may = each
all_kept t (step ∷ steps) each may = all_kept (after_step t step) steps (each_kept t step each may.0) may.1

-- ---- where no frame of the host is on the air, and nothing is due, no call is to come

no_calls : (calls : List Call) → flying_in (flags calls) ≡ 0 → without_frame (flags calls) ≡ 0 → calls ≡ []
no_calls [] flies due = refl
no_calls (OfFrame ∷ calls) flies due = absurd (omega (arith, flies))
no_calls (no_route_call ∷ calls) flies due = absurd (omega (arith, due))

none_of : {A : Type 0} (xs : List A) → length xs ≡ 0 → xs ≡ []
none_of [] none = refl
none_of (x ∷ xs) none = absurd (grind (arith, none))

none_to_come : (m : Machine) → AwaitsResults 0 m → AwaitsNone m
none_to_come m is =
    let f = is.awaits.follows in
    let none : m.outside.outer.due ≡ [] = none_of m.outside.outer.due is.many in
    record { awaits = is.awaits; no_call = no_calls m.outside.outer.calls (sym f.await.frames ∙ is.none_flies) (sym f.await.results ∙ ap no_routes_due none) }

-- ---- events

-- only sessions may have begun
calm_awaits : (m n : Machine) → Calm m.outside.outer n.outside.outer → AreNodes n.outside.devices → Awaits m → Awaits n
calm_awaits m n calm nodes is =
    let flights : List Flown = on_air m.outside.outer.air.frames in
    let begun = calm.begins is.log flights is.follows.fly in
    record {
      course = is.course;
      log = is.log ++ begun.0;
      follows = follows_on_air is.course (is.log ++ begun.0) flights n.outside.outer (follows_calm is.course is.log begun.0 flights m.outside.outer n.outside.outer calm begun.1 is.follows);
      each_call = is.each_call;
      nodes = nodes;
    }

module _ (laws : Outsides) where
  outside_awaits : (m : Machine) (event : OuterEvent) → May m (Outside_does event) → InTurn (on_air m.outside.outer.air.frames) event → Awaits m → Awaits (happens m (Outside_does event))
  unfolding happens May
  outside_awaits m event may turn is =
      let flights : List Flown = on_air m.outside.outer.air.frames in
      let g = laws.events is.course is.log flights m.outside event is.follows is.nodes may.1 turn in
      record {
        course = after_steps is.course g.steps;
        log = is.log ++ g.more;
        follows = follows_on_air (after_steps is.course g.steps) (is.log ++ g.more) g.now (happens_outside m.outside event).outer g.follows;
        each_call = all_kept is.course g.steps is.each_call g.may;
        nodes = nodes_kept m (Outside_does event ∷ []) is.nodes;
      }

  -- whatever words were on their way
  takes_awaits : (m : Machine) (count : ℕ) (rest : Rest) (ways : List (Item × Option Route)) → Awaits m → Awaits (happens m (Outside_does (Chip_takes count rest ways)))
  unfolding happens outcome
  takes_awaits m count rest ways is =
      let o : OuterState = m.outside.outer in
      let flights : List Flown = on_air o.air.frames in
      let words : List Word = words_all (map (λ (w : Item × Option Route). w.0) ways) in
      let t : Traffic = record is.course { up = words } in
      let f : outer.Follows t is.log flights o = record {
        knows = record { aborted = is.follows.knows.aborted; sending = is.follows.knows.sending; calls = is.follows.knows.calls };
        await = is.follows.await;
        fly = is.follows.fly;
        joined = is.follows.joined;
      } in
      let g = laws.items t is.log flights o count rest ways [] f (sym (append-nil words)) in
      let taken : OuterState = (chip_takes o count rest ways).outer in
      let p : OuterState = (happens_outside m.outside (Chip_takes count rest ways)).outer in
      let entered : Calm taken p = calm_entered taken (outcome m.outside (Chip_takes count rest ways)).entries in
      let begun = entered.begins (is.log ++ g.more) g.now g.follows.fly in
      record {
        course = after_steps t g.steps;
        log = (is.log ++ g.more) ++ begun.0;
        follows = follows_on_air (after_steps t g.steps) ((is.log ++ g.more) ++ begun.0) g.now p (follows_calm (after_steps t g.steps) (is.log ++ g.more) begun.0 g.now taken p entered begun.1 g.follows);
        each_call = all_kept t g.steps is.each_call g.may;
        nodes = nodes_kept m (Outside_does (Chip_takes count rest ways) ∷ []) is.nodes;
      }

  host_awaits : (m : Machine) (event : HostEvent) → Awaits m → Awaits (happens m (Host_does event))
  host_awaits m event is = calm_awaits m (happens m (Host_does event)) (does_calm laws.air m event) (nodes_kept m (Host_does event ∷ []) is.nodes) is

  host_takes_awaits : (m : Machine) (count : ℕ) (rest : Rest) (items : List Item) (events : List HostEvent) → Awaits m → Awaits (happens m (Host_takes count rest items events))
  host_takes_awaits m count rest items events is =
      calm_awaits m (happens m (Host_takes count rest items events)) (takes_calm laws.air m count rest items events) (nodes_kept m (Host_takes count rest items events ∷ []) is.nodes) is

  decoder_awaits : (m : Machine) → Awaits m → Awaits (happens m Decoder_ticks)
  unfolding happens
  decoder_awaits m is = calm_awaits m (happens m Decoder_ticks) (calm_same m.outside.outer m.outside.outer refl refl refl refl) is.nodes is

  refuses_awaits : (m : Machine) (line : _) (refusal : _) → Awaits m → Awaits (happens m (Refuses line refusal))
  unfolding happens
  refuses_awaits m line refusal is = calm_awaits m (happens m (Refuses line refusal)) (enters_calm laws.air m _) (nodes_kept m (Refuses line refusal ∷ []) is.nodes) is

  shows_awaits : (m : Machine) (node : ℕ) → Awaits m → Awaits (happens m (Shows_values node))
  unfolding happens
  shows_awaits m node is = calm_awaits m (happens m (Shows_values node)) (enters_calm laws.air m _) (nodes_kept m (Shows_values node ∷ []) is.nodes) is

  -- ---- a frame arrives

  none_both : (all a b : ℕ) → all ≡ a + b → a ≡ 0 → b ≡ 0 → all ≡ 0
  none_both all a b x y z = omega arith

  one_less : (a b : ℕ) → suc a ≡ suc b → a ≡ b
  one_less a b e = omega arith

  arrives_awaits : (m : Machine) (drawn : List ℕ) (route : Option Route) (frames : ℕ) → May m (Outside_does (Arrives drawn route)) → AwaitsFrames (suc frames) m
      → AwaitsFrames frames (happens m (Outside_does (Arrives drawn route)))
  arrives_awaits m drawn route frames may is = by is.first is.are is.many
    where
      n : Machine
      n = happens m (Outside_does (Arrives drawn route))

      by : (first : List Flown) → on_air m.outside.outer.air.frames ≡ first ++ is.behind → length first ≡ suc frames → AwaitsFrames frames n
      by [] are many = absurd (grind (arith, many))
      by (flight ∷ later) are many =
          let log : List Mark = is.awaits.log in
          let fly : Fly log (flight ∷ (later ++ is.behind)) m.outside.outer.air.frames = subst (λ (fs : List Flown). Fly log fs m.outside.outer.air.frames) are is.awaits.follows.fly in
          let homes : Homes log (later ++ is.behind) n.outside.outer.air.frames =
          subst (λ (w : Outside). Homes log (later ++ is.behind) w.outer.air.frames) (sym (outer_of m (Arrives drawn route))) (arrives_home laws.air log flight (later ++ is.behind) m.outside drawn route fly) in
          record {
            awaits = outside_awaits m (Arrives drawn route) may tt is.awaits;
            first = later;
            behind = is.behind ++ homes.home;
            are = sym (flights_are (log ++ homes.more) ((later ++ is.behind) ++ homes.home) n.outside.outer.air.frames homes.fly) ∙ append_assoc later is.behind homes.home;
            many = one_less (length later) frames many;
            home = none_both (outward (is.behind ++ homes.home)) (outward is.behind) (outward homes.home) (outward-append is.behind homes.home) is.home homes.none_outward;
          }

  -- ---- a result is given

  gives_awaits : (m : Machine) (route : Option Route) (results : ℕ) → May m (Outside_does (Gives route)) → AwaitsResults (suc results) m → AwaitsResults results (happens m (Outside_does (Gives route)))
  gives_awaits m route results may is =
      let n : Machine = happens m (Outside_does (Gives route)) in
      let given : Given m.outside.outer n.outside.outer = subst (λ (w : Outside). Given m.outside.outer w.outer) (sym (outer_of m (Gives route))) (given_first m.outside route) in
      record {
        awaits = outside_awaits m (Gives route) may is.none_flies is.awaits;
        none_flies = ap (λ (a : AirState). outward (on_air a.frames)) given.air ∙ is.none_flies;
        many = ap (λ (due : List Due). length due) given.due ∙ fewer m.outside.outer.due is.many;
      }
    where
      fewer : (due : List Due) → length due ≡ suc results → length (drop 1 due) ≡ results
      fewer [] many = absurd (grind (arith, many))
      fewer (one ∷ due) many = one_less (length due) results many

  -- ---- devices tick, and the chip

  device_awaits : (m : Machine) (place : ℕ) (drawn : List ℕ) (route : Option Route) → May m (Outside_does (Device_ticks place drawn route)) → AwaitsNone m → AwaitsNone (happens m (Outside_does (Device_ticks place drawn route)))
  device_awaits m place drawn route may is = record {
    awaits = outside_awaits m (Device_ticks place drawn route) may tt is.awaits;
    no_call = ap (λ (w : Outside). w.outer.calls) (outer_of m (Device_ticks place drawn route)) ∙ device_calls m.outside place drawn route ∙ is.no_call;
  }

  chip_awaits : (m : Machine) → May m (Outside_does Chip_ticks) → AwaitsNone m → AwaitsNone (happens m (Outside_does Chip_ticks))
  chip_awaits m may is = record {
    awaits = outside_awaits m Chip_ticks may tt is.awaits;
    no_call = ap (λ (w : Outside). w.outer.calls) (outer_of m Chip_ticks) ∙ ticks_calls m.outside ∙ is.no_call;
  }

  decoder_none : (m : Machine) → AwaitsNone m → AwaitsNone (happens m Decoder_ticks)
  unfolding happens
  decoder_none m is = record { awaits = decoder_awaits m is.awaits; no_call = is.no_call }

  host_none : (m : Machine) (event : HostEvent) → AwaitsNone m → AwaitsNone (happens m (Host_does event))
  host_none m event is = record { awaits = host_awaits m event is.awaits; no_call = (does_calm laws.air m event).calls ∙ is.no_call }

  -- ---- the effect of a quiet line

  effect_awaits : (m : Machine) (event : Event) → IsEffect event → May m event → Awaits m → Awaits (happens m event)
  effect_awaits m (Outside_does (Wakes_device node route)) effect may is = outside_awaits m (Wakes_device node route) may tt is
  effect_awaits m (Outside_does (Shows node)) effect may is = outside_awaits m (Shows node) may tt is
  effect_awaits m (Outside_does (Cuts size)) effect may is = outside_awaits m (Cuts size) may tt is
  effect_awaits m (Host_does (Accepts order carriage)) effect may is = host_awaits m (Accepts order carriage) is
  effect_awaits m (Refuses line refusal) effect may is = refuses_awaits m line refusal is
  effect_awaits m (Shows_values node) effect may is = shows_awaits m node is
  effect_awaits m (Outside_does event) effect may is = absurd effect
  effect_awaits m (Host_does event) effect may is = absurd effect
  effect_awaits m event effect may is = absurd effect

  -- ---- each event, and each part that begins

  as_is : (next to : Phase) (m : Machine) (event is : Event) → event ≡ is → next ≡ to → AwaitsAt to (happens m is) → AwaitsAt next (happens m event)
  as_is next to m event is event_is next_is leads =
      subst (λ (e : Event). AwaitsAt next (happens m e)) (sym event_is) (subst (λ (q : Phase). AwaitsAt q (happens m is)) (sym next_is) leads)

  pub event_awaits : (here next : Phase) (m : Machine) (event : Event) → Goes here m event next → May m event → LineAt here m → AwaitsAt here m → AwaitsAt next (happens m event)
  event_awaits (Said_line line) next m event (is, to) may line_at at = as_is next (Begun line) m event (Outside_does Begins_line) is to (outside_awaits m Begins_line (subst (May m) is may) tt at)
  event_awaits (Doing line (first ∷ left)) next m event (is, to) may line_at at = as_is next (Doing line left) m event first is to (effect_awaits m first line_at.0.0 (subst (May m) is may) at)
  event_awaits (To_tick (suc ticks)) next m event (is, to) may line_at at = as_is next (Ticked ticks) m event (Outside_does Begins_tick) is to (outside_awaits m Begins_tick (subst (May m) is may) tt at)
  event_awaits (Arriving (suc frames) ticks) next m event (drawn, route, is, to) may line_at at =
      as_is next (Arriving frames ticks) m event (Outside_does (Arrives drawn route)) is to (arrives_awaits m drawn route frames (subst (May m) is may) at)
  event_awaits (Giving (suc results) ticks) next m event (route, is, to) may line_at at =
      as_is next (Giving results ticks) m event (Outside_does (Gives route)) is to (gives_awaits m route results (subst (May m) is may) at)
  event_awaits (Ticking_devices place (suc count) ticks) next m event (drawn, route, is, to) may line_at at =
      as_is next (Ticking_devices (place + 1) count ticks) m event (Outside_does (Device_ticks place drawn route)) is to (device_awaits m place drawn route (subst (May m) is may) at)
  event_awaits (Ticking_chip ticks) next m event (is, to) may line_at at = as_is next (Ticking_decoder ticks) m event (Outside_does Chip_ticks) is to (chip_awaits m (subst (May m) is may) at)
  event_awaits (Ticking_decoder ticks) next m event (is, to) may line_at at = as_is next (Ticking_host _ ticks) m event Decoder_ticks is to (decoder_none m at)
  event_awaits (Ticking_host (first ∷ events) ticks) next m event (is, to) may line_at at = as_is next (Ticking_host events ticks) m event (Host_does first) is to (host_none m first at)
  event_awaits (Sleeping passes ticks) next m event (node, wants, is, to) may line_at at =
      as_is next (Sleeping passes ticks) m event (Host_does (no_more_event m.host.state node)) is to (host_awaits m (no_more_event m.host.state node) at)
  event_awaits (Submitting passes ticks) next m event (asked, next_is, is, to) may line_at at = as_is next (Submitting passes ticks) m event (Host_does asked) is to (host_awaits m asked at)
  event_awaits (Moving passes ticks) next m event (rest, ways, is, to) may line_at at =
      as_is next (Moved true passes ticks) m event (Outside_does (Chip_takes (length m.outside.outer.to_chip.bytes) rest ways)) is to (takes_awaits m (length m.outside.outer.to_chip.bytes) rest ways at)
  event_awaits (Moved b passes ticks) next m event (rest, items, done, is, to) may line_at at =
      as_is next (Sleeping passes ticks) m event (Host_takes (length m.outside.outer.to_host.bytes) rest items done) is to (host_takes_awaits m (length m.outside.outer.to_host.bytes) rest items done at)
  event_awaits here next m event goes may line_at at = absurd goes

  -- all that are on the air arrive
  all_arrive : (m : Machine) → Awaits m → AwaitsFrames (m.outside.outer.air.frames.sent - m.outside.outer.air.frames.landed) m
  all_arrive m is = record {
    awaits = is;
    first = on_air m.outside.outer.air.frames;
    behind = [];
    are = sym (append-nil (on_air m.outside.outer.air.frames));
    many = laws.air.count is.log (on_air m.outside.outer.air.frames) m.outside.outer.air.frames is.follows.fly;
    home = refl;
  }

  all_arrived : (m : Machine) → AwaitsFrames 0 m → AwaitsResults (length m.outside.outer.due) m
  all_arrived m is = record {
    awaits = is.awaits;
    none_flies = ap outward (is.are ∙ ap (λ (fs : List Flown). fs ++ is.behind) (none_of is.first is.many)) ∙ is.home;
    many = refl;
  }

  to : (is next : Phase) (m : Machine) → next ≡ is → AwaitsAt is m → AwaitsAt next m
  to is next m same at = subst (λ (q : Phase). AwaitsAt q m) (sym same) at

  pump_awaits : (passes ticks : ℕ) (m : Machine) → Awaits m → AwaitsAt (after_pump passes ticks) m
  pump_awaits zero ticks m is = is
  pump_awaits (suc passes) ticks m is = is

  pub turn_awaits : (here next : Phase) (m : Machine) → Turns here m next → AwaitsAt here m → AwaitsAt next m
  turn_awaits (Begun line) next m (inl (events, is, same)) at = to (Doing line events) next m same at
  turn_awaits (Begun line) next m (inr (ticks, is, same)) at = to (To_tick ticks) next m same at
  turn_awaits (Doing line []) next m same at = to (Sleeping 64 0) next m same at
  turn_awaits (To_tick zero) next m same at = to Between next m same at
  turn_awaits (Ticked ticks) next m same at = to (Arriving _ ticks) next m same (all_arrive m at)
  turn_awaits (Arriving zero ticks) next m same at = to (Giving _ ticks) next m same (all_arrived m at)
  turn_awaits (Giving zero ticks) next m same at = to (Ticking_devices 0 _ ticks) next m same (none_to_come m at)
  turn_awaits (Ticking_devices place zero ticks) next m same at = to (Ticking_chip ticks) next m same at
  turn_awaits (Ticking_host [] ticks) next m same at = to (Sleeping 64 ticks) next m same at.awaits
  turn_awaits (Sleeping passes ticks) next m (none, same) at = to (Submitting passes ticks) next m same at
  turn_awaits (Submitting passes ticks) next m (pumped, same) at = to (after_pump passes ticks) next m same (pump_awaits passes ticks m at)
  turn_awaits (Moving passes ticks) next m (still, same) at = to (Moved false passes ticks) next m same at
  turn_awaits (Moved b passes ticks) next m (still, same) at = to (Sleeping (passes_after b passes) ticks) next m same at
  turn_awaits here next m turns at = absurd turns

-- ---- what the chip sends then

-- where no call is to come it sends nothing, if none was given up
pub sends_nothing : (m : Machine) → AwaitsNone m → is_some m.outside.outer.chip.state.sending ≡ false
sends_nothing m is = by (is_some m.outside.outer.chip.state.sending) refl
  where
    many : is.awaits.course.aborted + one_if (is_some m.outside.outer.chip.state.sending) ≡ 0
    many =
        ap (λ (b : Bool). is.awaits.course.aborted + one_if b) (sym is.awaits.follows.knows.sending) ∙ sym is.awaits.each_call ∙ ap (λ (bs : List Bool). length bs) is.awaits.follows.knows.calls
        ∙ ap (λ (calls : List Call). length (flags calls)) is.no_call

    by : (b : Bool) → is_some m.outside.outer.chip.state.sending ≡ b → is_some m.outside.outer.chip.state.sending ≡ false
    by false is_false = is_false
    by true is_true = absurd (let one : one_if (is_some m.outside.outer.chip.state.sending) ≡ 1 = ap one_if is_true in omega (arith, many, one))
