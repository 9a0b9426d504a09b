-- Over the phases of a line: the results that the chip waits for are those of its frames on the air and those that are due, so that where all results of a tick have come it waits for none.
use Rattle.std.proofs.Common.{◌≡◌, ℕ, zero, suc, ◌+◌, ◌-◌, true, false, inl, inr, Bool, List, [], ◌∷◌, ◌++◌, length, refl, sym, ap, subst, ◌∙◌, append_assoc, append-nil, length-drop, arith}
use Rattle.std.proofs.lemmas.List.{length-map}
use Rattle.std.specs.Prelude.{Option, Some, None, drop}
use Rattle.std.specs.Option.{is_some}
use Rattle.serial_frame.specs.Stream.{Rest}
use Rattle.serial_frame.specs.declared.item.Item.{Item}
use Rattle.route_table.specs.declared.route.Route.{Route}
use Rattle.air_frames.specs.Flown.{Flown}
use Rattle.chip_sim.specs.declared.out.Sending.{Sending as SendingParts}
use Rattle.mesh_sim.specs.Air.{AirState}
use Rattle.zw_text.specs.declared.line.Line.{Line}
use Rattle.zw_text.specs.declared.line.Line.TheVariants as lines
use Rattle.zw_text.specs.declared.entry.Entry.{Entry}
use Rattle.host_model.specs.Ticking.{tick_events}
use Rattle.outside_model.specs.State.{OuterState, Outside}
use Rattle.outside_model.specs.Events.{Begins_line, Begins_tick, Chip_takes, Arrives, Gives, happens as happens_outside}
use Rattle.world_model.specs.State.{Machine}
use Rattle.world_model.specs.Events.{Event, Outside_does, happens, entries, May}
use Rattle.proof_line.specs.proof_traffic.Flights.{Fly}
use Rattle.proof_line.specs.proof_traffic.Facts.{flying_in, one_if}
use Rattle.proof_line.specs.proof_traffic.OnAir.{hosts_on_air, on_air}
use Rattle.proof_line.specs.proof_traffic.OutsideTraffic.{flags, no_routes_due, of_frame, outward, without_frame}
use Rattle.proof_line.proofs.ArrivedFrames.{arrives_home}
use Rattle.proof_line.proofs.Arrivals.{Homes, NoNexting, outward-append}
use Rattle.proof_line.proofs.ChipNotices.{Given, given_first}
use Rattle.proof_line.proofs.Flights.{flights_are}
use Rattle.proof_line.proofs.Parts.{Laws}
use Rattle.proof_air.specs.proof_walk.Outside.{CoversOuter, nothing}
use Rattle.proof_air.specs.proof_walk.ByLine.{CoversLine}
use Rattle.proof_air.specs.proof_walk.Phases.{Phase, Between, Said_line, Begun, Doing, To_tick, Ticked, Arriving, Giving, Ticking_devices, Ticking_chip, Ticking_decoder, Ticking_host, Sleeping, Submitting, Moving, Moved, Goes, Turns}
use Rattle.proof_air.specs.proof_walk.Walk.{WalkOver}
use Rattle.proof_air.proofs.ByLine.{effect_covered}
use Rattle.proof_air.proofs.Stepping.{Steps, event_then}
use Rattle.proof_air.specs.Hearing.{KnowAir}
use Rattle.proof_air.specs.Logs.{Tie}
use Rattle.proof_air.proofs.Handling.{tie_here}
use Rattle.proof_chip.specs.Knowing.{AnyEntry}
use Rattle.proof_chip.specs.Calling.{AreGiven, AreLanding, CallsAt, KnowCalls, LeavesCalls, Waits}
use Rattle.proof_chip.proofs.Calling.{arrives_waits, event_waits, flying, gives_waits, takes_waits}
use Rattle.proof_chip.proofs.Learning.{any_each}
use Rattle.proof_chip.proofs.Finishing.{no_length}

-- ---- where all results have come

each_or : (calls : List Bool) → length calls ≡ flying_in calls + without_frame calls
each_or [] = refl
each_or (true ∷ calls) = let later = each_or calls in omega (arith, later)
each_or (false ∷ calls) = let later = each_or calls in omega (arith, later)

none_under_way : (sending : Option SendingParts) (aborted : ℕ) → aborted + one_if (is_some sending) ≡ 0 → sending ≡ None
none_under_way None aborted is = refl
none_under_way (Some parts) aborted is = absurd (grind (arith, is))

pub waits_none : (o : OuterState) → Waits o → AreGiven 0 o → o.chip.state.sending ≡ None
waits_none o known given =
    let many : length (flags o.calls) ≡ flying_in (flags o.calls) + without_frame (flags o.calls) = each_or (flags o.calls) in
    let same : length (flags o.calls) ≡ length o.calls = length-map o.calls of_frame in
    let each = known.each in
    let frames = known.await.frames in
    let results = known.await.results in
    let clear = given.none in
    let due = ap no_routes_due (no_length o.due given.many) in
    none_under_way o.chip.state.sending o.chip.state.aborted (omega (arith, many, same, each, frames, results, clear, due))

-- ---- frames arrive

module _ (laws : Laws) (past : List Entry) (w : Outside) (tie : Tie nothing past w) where
  -- at first all that are on the air are still to arrive
  landing_first : AreLanding (w.outer.air.frames.sent - w.outer.air.frames.landed) w.outer
  landing_first = record {
    before = on_air w.outer.air.frames;
    since = [];
    are = sym (append-nil (on_air w.outer.air.frames));
    many = laws.air.count tie.log (on_air w.outer.air.frames) w.outer.air.frames (flying tie.log w.outer.air.frames tie.kept);
    home = refl;
  }

  landing_next : (left : ℕ) (drawn : List ℕ) (route : Option Route) → AreLanding (suc left) w.outer → AreLanding left (happens_outside w (Arrives drawn route)).outer
  landing_next left drawn route known = by known.before known.since known.are known.many known.home
    where
      one_less : (a b : ℕ) → suc a ≡ suc b → a ≡ b
      one_less a b is = omega (arith, is)

      by : (before since : List Flown) → on_air w.outer.air.frames ≡ before ++ since → length before ≡ suc left → outward since ≡ 0 → AreLanding left (happens_outside w (Arrives drawn route)).outer
      by [] since are many home = absurd (grind (arith, many))
      by (flight ∷ before) since are many home =
          let later : OuterState = (happens_outside w (Arrives drawn route)).outer in
          let fly : Fly tie.log (flight ∷ (before ++ since)) w.outer.air.frames =
          subst (λ (flights : List Flown). Fly tie.log flights w.outer.air.frames) are (flying tie.log w.outer.air.frames tie.kept) in
          let homes : Homes tie.log (before ++ since) later.air.frames = arrives_home laws.air tie.log flight (before ++ since) w drawn route fly in
          let all : outward (since ++ homes.home) ≡ outward since + outward homes.home = outward-append since homes.home in
          let none = homes.none_outward in
          record {
            before = before;
            since = since ++ homes.home;
            are = sym (flights_are (tie.log ++ homes.more) ((before ++ since) ++ homes.home) later.air.frames homes.fly) ∙ append_assoc before since homes.home;
            many = one_less (length before) left many;
            home = omega (arith, all, home, none);
          }

-- all have arrived, and what is due is given
landing_done : (o : OuterState) → AreLanding 0 o → AreGiven (length o.due) o
landing_done o known = record { none = by known.before known.are known.many; many = refl }
  where
    by : (before : List Flown) → on_air o.air.frames ≡ before ++ known.since → length before ≡ 0 → hosts_on_air o ≡ 0
    by [] are many = ap outward are ∙ known.home
    by (flight ∷ before) are many = absurd (grind (arith, many))

given_next : (left : ℕ) (w : Outside) (route : Option Route) → AreGiven (suc left) w.outer → AreGiven left (happens_outside w (Gives route)).outer
given_next left w route known =
    let given : Given w.outer (happens_outside w (Gives route)).outer = given_first w route in
    let less : length (drop 1 w.outer.due) ≡ length w.outer.due - 1 = length-drop 1 w.outer.due in
    let many : length w.outer.due ≡ suc left = known.many in
    let fewer : length (drop 1 w.outer.due) ≡ left = omega (arith, less, many) in
    record {
      none = ap (λ (a : AirState). outward (on_air a.frames)) given.air ∙ known.none;
      many = ap length given.due ∙ fewer;
    }

-- ---- lines

covers_line : (line : Line) → CoversLine LeavesCalls line
covers_line (lines.Repeat frame) = λ drawn route. tt
covers_line (lines.Wake node) = λ route. tt
covers_line (lines.Local node value) = λ route. tt
covers_line lines.Restart = (tt, tt)
covers_line line = tt

-- ---- each phase

module _ (laws : Laws) (none : NoNexting) where
  abbrev Keeps : Phase → List Entry → Machine → Event → Type 0
  Keeps = Steps AnyEntry KnowCalls

  goes_to : (next to : Phase) (event is : Event) (past : List Entry) (m : Machine) → event ≡ is → next ≡ to → KnowCalls to (past ++ entries m is) (happens m is) → Keeps next past m event
  goes_to next to event is past m event_is next_is known = event_then AnyEntry KnowCalls next to event is past m event_is next_is (any_each past (entries m is), known)

  -- an event at which the chip takes nothing and no result comes
  leaves : (here next to : Phase) (event is : Event) (past : List Entry) (m : Machine) → event ≡ is → next ≡ to → CoversOuter LeavesCalls is → KnowAir here past m → Waits m.outside.outer
      → CallsAt to (happens m is).outside.outer → Keeps next past m event
  leaves here next to event is past m event_is next_is covers ground known also =
      goes_to next to event is past m event_is next_is (event_waits laws none past m is covers (tie_here here past m ground) known, also)

  arrives : (left ticks : ℕ) (past : List Entry) (m : Machine) (drawn : List ℕ) (route : Option Route) → May m (Outside_does (Arrives drawn route)) → Tie nothing past m.outside
      → KnowCalls (Arriving (suc left) ticks) past m → KnowCalls (Arriving left ticks) (past ++ entries m (Outside_does (Arrives drawn route))) (happens m (Outside_does (Arrives drawn route)))
  unfolding happens May
  arrives left ticks past m drawn route may tie known = (arrives_waits laws none past m.outside tie drawn route may.1 known.0, landing_next laws past m.outside tie left drawn route known.1)

  gives : (left ticks : ℕ) (past : List Entry) (m : Machine) (route : Option Route) → May m (Outside_does (Gives route)) → Tie nothing past m.outside
      → KnowCalls (Giving (suc left) ticks) past m → KnowCalls (Giving left ticks) (past ++ entries m (Outside_does (Gives route))) (happens m (Outside_does (Gives route)))
  unfolding happens May
  gives left ticks past m route may tie known = (gives_waits laws none past m.outside tie route may.1 known.1.none known.0, given_next left m.outside route known.1)

  takes : (past : List Entry) (m : Machine) (count : ℕ) (rest : Rest) (ways : List (Item × Option Route)) → Tie nothing past m.outside → Waits m.outside.outer
      → Waits (happens m (Outside_does (Chip_takes count rest ways))).outside.outer
  unfolding happens
  takes past m count rest ways tie known = takes_waits laws none past m.outside tie count rest ways known

  event_goes : (here next : Phase) (past : List Entry) (m : Machine) (event : Event) → Goes here m event next → May m event → KnowAir here past m → KnowCalls here past m → Keeps next past m event
  event_goes (Said_line line) next past m event (event_is, next_is) may ground known = leaves (Said_line line) next (Begun line) event (Outside_does Begins_line) past m event_is next_is tt ground known.0 tt
  event_goes (Doing line (first ∷ left)) next past m event (event_is, next_is) may ground known =
      leaves (Doing line (first ∷ left)) next (Doing line left) event first past m event_is next_is known.1.0 ground known.0 known.1.1
  event_goes (To_tick (suc ticks)) next past m event (event_is, next_is) may ground known =
      leaves (To_tick (suc ticks)) next (Ticked ticks) event (Outside_does Begins_tick) past m event_is next_is tt ground known.0 tt
  event_goes (Arriving (suc left) ticks) next past m event (drawn, route, event_is, next_is) may ground known =
      goes_to next (Arriving left ticks) event (Outside_does (Arrives drawn route)) past m event_is next_is
      (arrives left ticks past m drawn route (subst (May m) event_is may) (tie_here (Arriving (suc left) ticks) past m ground) known)
  event_goes (Giving (suc left) ticks) next past m event (route, event_is, next_is) may ground known =
      goes_to next (Giving left ticks) event (Outside_does (Gives route)) past m event_is next_is
      (gives left ticks past m route (subst (May m) event_is may) (tie_here (Giving (suc left) ticks) past m ground) known)
  event_goes (Ticking_devices place (suc count) ticks) next past m event (drawn, route, event_is, next_is) may ground known =
      leaves (Ticking_devices place (suc count) ticks) next (Ticking_devices (place + 1) count ticks) event _ past m event_is next_is tt ground known.0 tt
  event_goes (Ticking_chip ticks) next past m event (event_is, next_is) may ground known =
      leaves (Ticking_chip ticks) next (Ticking_decoder ticks) event _ past m event_is next_is tt ground known.0 tt
  event_goes (Ticking_decoder ticks) next past m event (event_is, next_is) may ground known =
      leaves (Ticking_decoder ticks) next (Ticking_host (tick_events m.host.state) ticks) event _ past m event_is next_is tt ground known.0 tt
  event_goes (Ticking_host (first ∷ events) ticks) next past m event (event_is, next_is) may ground known =
      leaves (Ticking_host (first ∷ events) ticks) next (Ticking_host events ticks) event _ past m event_is next_is tt ground known.0 tt
  event_goes (Sleeping passes ticks) next past m event (node, wants, event_is, next_is) may ground known =
      leaves (Sleeping passes ticks) next (Sleeping passes ticks) event _ past m event_is next_is tt ground known.0 tt
  event_goes (Submitting passes ticks) next past m event (asked, is, event_is, next_is) may ground known =
      leaves (Submitting passes ticks) next (Submitting passes ticks) event _ past m event_is next_is tt ground known.0 tt
  event_goes (Moving passes ticks) next past m event (rest, ways, event_is, next_is) may ground known =
      goes_to next (Moved true passes ticks) event _ past m event_is next_is (takes past m _ rest ways (tie_here (Moving passes ticks) past m ground) known.0, tt)
  event_goes (Moved has_moved passes ticks) next past m event (rest, items, done, event_is, next_is) may ground known =
      leaves (Moved has_moved passes ticks) next (Sleeping passes ticks) event _ past m event_is next_is tt ground known.0 tt
  event_goes here next past m event goes may ground known = absurd goes

  -- ---- a part begins

  to : (next phase : Phase) (past : List Entry) (m : Machine) → next ≡ phase → KnowCalls phase past m → KnowCalls next past m
  to next phase past m is known = subst (λ (q : Phase). KnowCalls q past m) (sym is) known

  turn_goes : (here next : Phase) (past : List Entry) (m : Machine) → Turns here m next → KnowAir here past m → KnowCalls here past m → KnowCalls next past m
  turn_goes (Begun line) next past m (inl (events, is, next_is)) ground known = to next (Doing line events) past m next_is (known.0, effect_covered LeavesCalls line m events (covers_line line) is)
  turn_goes (Begun line) next past m (inr (ticks, line_is, next_is)) ground known = to next (To_tick ticks) past m next_is known
  turn_goes (Doing line []) next past m next_is ground known = to next (Sleeping 64 0) past m next_is (known.0, tt)
  turn_goes (To_tick zero) next past m next_is ground known = to next Between past m next_is known
  turn_goes (Ticked ticks) next past m next_is ground known =
      to next (Arriving _ ticks) past m next_is (known.0, landing_first laws past m.outside (tie_here (Ticked ticks) past m ground))
  turn_goes (Arriving zero ticks) next past m next_is ground known = to next (Giving _ ticks) past m next_is (known.0, landing_done m.outside.outer known.1)
  turn_goes (Giving zero ticks) next past m next_is ground known = to next (Ticking_devices 0 _ ticks) past m next_is (known.0, tt)
  turn_goes (Ticking_devices place zero ticks) next past m next_is ground known = to next (Ticking_chip ticks) past m next_is known
  turn_goes (Ticking_host [] ticks) next past m next_is ground known = to next (Sleeping 64 ticks) past m next_is known
  turn_goes (Sleeping passes ticks) next past m (wants, next_is) ground known = to next (Submitting passes ticks) past m next_is known
  turn_goes (Submitting zero ticks) next past m (pumped, next_is) ground known = to next (To_tick ticks) past m next_is known
  turn_goes (Submitting (suc passes) ticks) next past m (pumped, next_is) ground known = to next (Moving passes ticks) past m next_is known
  turn_goes (Moving passes ticks) next past m (still, next_is) ground known = to next (Moved false passes ticks) past m next_is known
  turn_goes (Moved has_moved passes ticks) next past m (still, next_is) ground known = to next (Sleeping _ ticks) past m next_is known
  turn_goes here next past m turns ground known = absurd turns

  pub call_walk : WalkOver KnowAir AnyEntry KnowCalls
  call_walk = record { said = λ past m words line read ground known. (tt, (known.0, tt)); event = event_goes; turn = turn_goes }
