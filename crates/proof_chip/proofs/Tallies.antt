-- The count of the frames for the host goes on with each event where it may come, and with each part of a line that begins.
use Rattle.std.proofs.Common.{◌≡◌, ℕ, zero, suc, ◌+◌, ◌-◌, ◌&&◌, not, Bool, true, false, inl, inr, List, [], ◌∷◌, ◌++◌, length, refl, sym, ap, subst, arith}
use Rattle.std.specs.Prelude.{Option, None}
use Rattle.std.specs.Option.{is_some}
use Rattle.serial_link.specs.Rules.{SideObeys, Step}
use Rattle.route_table.specs.declared.route.Route.{Route}
use Rattle.air_frames.specs.Flown.{Flown}
use Rattle.air_frames.specs.Frames.{no_frames}
use Rattle.chip_sim.specs.Waiting.{PortState, no_port}
use Rattle.chip_sim.specs.declared.out.Sending.{Sending as SendingParts}
use Rattle.s0_crypto.specs.declared.key_pair.Keys.{Keys}
use Rattle.zw_text.specs.declared.line.Line.{Line}
use Rattle.zw_text.specs.declared.line.Line.TheVariants as lines
use Rattle.zw_text.specs.declared.entry.Entry.{Entry}
use Rattle.zw_text.specs.declared.entry.Entry.TheVariants as entry
use Rattle.law_transcript.specs.Restarts.{is_repeat, repeats as answers_repeat}
use Rattle.law_transcript.specs.Lists.{EachAfter}
use Rattle.law_wire.specs.Asked.{Course, clock_of, course_of}
use Rattle.law_wire.specs.Answering.{MayWait}
use Rattle.host_model.specs.Ticking.{tick_events}
use Rattle.outside_model.specs.Devices.{State}
use Rattle.outside_model.specs.State.{OuterState, first_outer}
use Rattle.outside_model.specs.Events.{OuterEvent, Begins_line, Begins_tick, Chip_takes, Arrives, Gives, Chip_ticks, Repeats, Collides_next, Device_ticks, outcome, entries as entries_outside, happens as happens_outside}
use Rattle.world_model.specs.State.{Machine, first_machine}
use Rattle.world_model.specs.Events.{Event, Outside_does, Host_does, Host_takes, Decoder_ticks, Refuses, Shows_values, Restarts, May, entries, happens}
use Rattle.proof_host.proofs.Lists.{each-append}
use Rattle.proof_air.specs.proof_walk.ByLine.{CoversLine}
use Rattle.proof_air.specs.proof_walk.Outside.{CoversOuter, awaits_number}
use Rattle.proof_air.specs.proof_walk.Phases.{Phase, Between, Said_line, Begun, Doing, To_tick, Ticked, Arriving, Giving, Ticking_devices, Ticking_chip, Ticking_decoder, Ticking_host, Sleeping, Submitting, Moving, Moved, Goes, Turns}
use Rattle.proof_air.specs.Landing.{KnowLanding, Landed}
use Rattle.proof_air.proofs.ByLine.{effect_covered}
use Rattle.proof_air.proofs.LandingWalk.{sent_frames}
use Rattle.proof_line.specs.proof_traffic.Facts.{one_if}
use Rattle.proof_line.specs.proof_traffic.OnAir.{on_air}
use Rattle.proof_line.proofs.Arrivals.{NoNexting}
use Rattle.proof_line.proofs.ChipAccounts.{event_steps, outer_steps}
use Rattle.proof_line.proofs.Parts.{Laws}
use Rattle.proof_line.proofs.Outside.{may_outside}
use Rattle.proof_chip.specs.Calling.{AreLanding, KnowCalls}
use Rattle.proof_chip.specs.Sending.{GroundAir, KnowAir}
use Rattle.proof_chip.specs.Serving.{GoesOn}
use Rattle.proof_chip.specs.Tally.{IsOfLine, KnowTally, Outlook, TallyAt, TallyBefore, TallyNow, TallySo, infos_in, outlook}
use Rattle.proof_chip.proofs.Growing.{serves_aside, serves_none}
use Rattle.proof_chip.proofs.Giving.{map_t}
use Rattle.proof_chip.proofs.Standing.{few_stand}
use Rattle.proof_chip.proofs.Coming.{before_next}
use Rattle.proof_chip.proofs.Opening.{before_over, now_said}
use Rattle.proof_chip.proofs.Hosted.{BeforeSo, IsOfHost, NowSo, host_goes}
use Rattle.proof_chip.proofs.Outsides.{Kind, Collides_it, Repeats_one, Stays_still, Ticks_chip, arrives_go, collides_go, gives_go, kind_of, line_goes, repeats_go, still_goes, takes_go, tick_goes, ticks_go}
use Rattle.proof_chip.proofs.Finishing.{no_length}

-- ---- each phase

pub covers_line : (line : Line) → CoversLine IsOfLine line
covers_line (lines.Repeat frame) = λ drawn route. tt
covers_line (lines.Wake node) = λ route. tt
covers_line (lines.Local node value) = λ route. tt
covers_line lines.Restart = (tt, tt)
covers_line line = tt

module _ (devices : List State) (laws : Laws) (none : NoNexting) (Ground : Phase → List Entry → Machine → Type 0) (law : GroundAir devices Ground)
    (lands : (here : Phase) (past : List Entry) (m : Machine) → Ground here past m → KnowLanding here past m) (calls : (here : Phase) (past : List Entry) (m : Machine) → Ground here past m → KnowCalls here past m)
    (did : List Step) where
  abbrev Steps : Phase → List Entry → Machine → Event → Type 0
  Steps next past m event = KnowTally devices (did ++ event_steps m event) next (past ++ entries m event) (happens m event)

  goes_to : (next to : Phase) (event is : Event) (past : List Entry) (m : Machine) → event ≡ is → next ≡ to → Steps to past m is → Steps next past m event
  goes_to next to event is past m event_is next_is known =
      subst (λ (e : Event). Steps next past m e) (sym event_is) (subst (λ (q : Phase). Steps q past m is) (sym next_is) known)

  abbrev NowAfter : List Entry → Machine → Event → Type 0
  NowAfter past m event = NowSo devices (did ++ event_steps m event) (past ++ entries m event) (happens m event).outside.outer

  -- an event outside the host, as one of the machine
  outside_now : (past : List Entry) (m : Machine) (event : OuterEvent)
      → NowSo devices (did ++ outer_steps m.outside event) (past ++ entries_outside m.outside event) (happens_outside m.outside event).outer → NowAfter past m (Outside_does event)
  unfolding happens entries event_steps
  outside_now past m event so = so

  outside_before : (past : List Entry) (m : Machine) (event : OuterEvent) (arriving : Bool) (left : ℕ)
      → BeforeSo devices arriving left (did ++ outer_steps m.outside event) (past ++ entries_outside m.outside event) (happens_outside m.outside event).outer
      → BeforeSo devices arriving left (did ++ event_steps m (Outside_does event)) (past ++ entries m (Outside_does event)) (happens m (Outside_does event)).outside.outer
  unfolding happens entries event_steps
  outside_before past m event arriving left so = so

  host_now : (past : List Entry) (m : Machine) (event : Event) → IsOfHost event → May m event → NowSo devices did past m.outside.outer → NowAfter past m event
  host_now past m event is may so = host_goes devices did m event is may past so

  -- an event of the effect of a line
  pub again_of : (line : Line) (left : List Event) (past : List Entry) (m : Machine) (number : ℕ) (drawn : List ℕ) (route : Option Route)
      → KnowLanding (Doing line (Outside_does (Repeats number drawn route) ∷ left)) past m → (answers_repeat past ≡ true) × (m.outside.outer.in_tick ≡ false)
  again_of line left past m number drawn route (inl one) = (ap is_repeat one.opened.0.last, one.opened.1)
  again_of line left past m number drawn route (inr (none_lands, landed)) = absurd none_lands.0

  outer_now : (line : Line) (left : List Event) (past : List Entry) (m : Machine) (event : OuterEvent) → Kind event → Ground (Doing line (Outside_does event ∷ left)) past m → NowSo devices did past m.outside.outer
      → NowAfter past m (Outside_does event)
  outer_now line left past m event (Stays_still still steady) ground so =
      outside_now past m event (still_goes devices laws none did past m.outside (law.history (Doing line (Outside_does event ∷ left)) past m ground) event still steady so)
  outer_now line left past m event (Ticks_chip is) ground so =
      let tie = law.history (Doing line (Outside_does event ∷ left)) past m ground in
      subst (λ (e : OuterEvent). NowAfter past m (Outside_does e)) (sym is) (outside_now past m Chip_ticks (ticks_go devices laws none did past m.outside tie so))
  outer_now line left past m event (Collides_it is) ground so =
      let tie = law.history (Doing line (Outside_does event ∷ left)) past m ground in
      subst (λ (e : OuterEvent). NowAfter past m (Outside_does e)) (sym is) (outside_now past m Collides_next (collides_go devices laws none did past m.outside tie so))
  outer_now line left past m event (Repeats_one number drawn route is) ground so =
      let tie = law.history (Doing line (Outside_does event ∷ left)) past m ground in
      let again = again_of line left past m number drawn route
      (subst (λ (e : OuterEvent). KnowLanding (Doing line (Outside_does e ∷ left)) past m) is (lands (Doing line (Outside_does event ∷ left)) past m ground)) in
      subst (λ (e : OuterEvent). NowAfter past m (Outside_does e)) (sym is)
      (outside_now past m (Repeats number drawn route) (repeats_go devices laws none did past m.outside tie number drawn route again.0 again.1 so))

  doing_now : (line : Line) (first : Event) (left : List Event) (past : List Entry) (m : Machine) → CoversOuter IsOfLine first → May m first → Ground (Doing line (first ∷ left)) past m → NowSo devices did past m.outside.outer
      → NowAfter past m first
  doing_now line (Outside_does event) left past m covers may ground so = outer_now line left past m event (kind_of event covers) ground so
  doing_now line (Host_does event) left past m covers may ground so = host_now past m (Host_does event) tt may so
  doing_now line (Host_takes count rest items events) left past m covers may ground so = host_now past m (Host_takes count rest items events) tt may so
  doing_now line Decoder_ticks left past m covers may ground so = host_now past m Decoder_ticks tt may so
  doing_now line (Refuses refused refusal) left past m covers may ground so = host_now past m (Refuses refused refusal) tt may so
  doing_now line (Shows_values node) left past m covers may ground so = host_now past m (Shows_values node) tt may so
  doing_now line (Restarts state) left past m covers may ground so = host_now past m (Restarts state) tt may so

  -- the next frame arrives
  arrives : (left ticks : ℕ) (past : List Entry) (m : Machine) (drawn : List ℕ) (route : Option Route) → May m (Outside_does (Arrives drawn route)) → Ground (Arriving (suc left) ticks) past m
      → BeforeSo devices true (suc left) did past m.outside.outer
      → BeforeSo devices true left (did ++ event_steps m (Outside_does (Arrives drawn route))) (past ++ entries m (Outside_does (Arrives drawn route))) (happens m (Outside_does (Arrives drawn route))).outside.outer
  arrives left ticks past m drawn route may ground so = by landing.before landing.are landing.many
    where
      known : KnowCalls (Arriving (suc left) ticks) past m
      known = calls (Arriving (suc left) ticks) past m ground

      landing : AreLanding (suc left) m.outside.outer
      landing = known.1

      lands_here : KnowLanding (Arriving (suc left) ticks) past m
      lands_here = lands (Arriving (suc left) ticks) past m ground

      by : (before : List Flown) → on_air m.outside.outer.air.frames ≡ before ++ landing.since → length before ≡ suc left
          → BeforeSo devices true left (did ++ event_steps m (Outside_does (Arrives drawn route))) (past ++ entries m (Outside_does (Arrives drawn route))) (happens m (Outside_does (Arrives drawn route))).outside.outer
      by [] are many = absurd (omega (arith, many))
      by (flight ∷ before) are many =
          outside_before past m (Arrives drawn route) true left
          (arrives_go devices laws none did past m.outside (law.history (Arriving (suc left) ticks) past m ground) left drawn route (may_outside m (Arrives drawn route) may) known.0 flight (before ++ landing.since) are
          (λ awaits. lands_here.sent.0.apart refl awaits) so)

  gives_here : (left ticks : ℕ) (past : List Entry) (m : Machine) (route : Option Route) → Ground (Giving (suc left) ticks) past m → BeforeSo devices false 0 did past m.outside.outer
      → BeforeSo devices false 0 (did ++ event_steps m (Outside_does (Gives route))) (past ++ entries m (Outside_does (Gives route))) (happens m (Outside_does (Gives route))).outside.outer
  gives_here left ticks past m route ground so =
      let known = calls (Giving (suc left) ticks) past m ground in
      outside_before past m (Gives route) false 0 (gives_go devices laws none did past m.outside (law.history (Giving (suc left) ticks) past m ground) route known.0 known.1.none so)

  -- a tick begins
  begins : (ticks : ℕ) (past : List Entry) (m : Machine) → Ground (To_tick (suc ticks)) past m → NowSo devices did past m.outside.outer → Steps (Ticked ticks) past m (Outside_does Begins_tick)
  unfolding happens entries event_steps outcome
  begins ticks past m ground so =
      let tie = law.history (To_tick (suc ticks)) past m ground in
      let landed : Landed past m = lands (To_tick (suc ticks)) past m ground in
      let fated = landed.fated in
      let sent = sent_frames past m.outside tie in
      let order = tie.kept.order in
      (tick_goes devices laws none did past m.outside tie (omega (arith, fated, sent, order)) so, tt)

  pub tally_event : (here next : Phase) (past : List Entry) (m : Machine) (event : Event) → Goes here m event next → May m event → Ground here past m → KnowAir devices did here past m → KnowTally devices did here past m
      → Steps next past m event
  tally_event (Said_line line) next past m event (event_is, next_is) may ground airs known =
      goes_to next (Begun line) event (Outside_does Begins_line) past m event_is next_is
      (outside_now past m Begins_line (line_goes devices laws none did past m.outside (law.history (Said_line line) past m ground) known.0), tt)
  tally_event (Doing line (first ∷ left)) next past m event (event_is, next_is) may ground airs known =
      goes_to next (Doing line left) event first past m event_is next_is (doing_now line first left past m known.1.0 (subst (May m) event_is may) ground known.0, known.1.1)
  tally_event (To_tick (suc ticks)) next past m event (event_is, next_is) may ground airs known =
      goes_to next (Ticked ticks) event (Outside_does Begins_tick) past m event_is next_is (begins ticks past m ground known.0)
  tally_event (Arriving (suc left) ticks) next past m event (drawn, route, event_is, next_is) may ground airs known =
      goes_to next (Arriving left ticks) event (Outside_does (Arrives drawn route)) past m event_is next_is (arrives left ticks past m drawn route (subst (May m) event_is may) ground known.0, tt)
  tally_event (Giving (suc left) ticks) next past m event (route, event_is, next_is) may ground airs known =
      goes_to next (Giving left ticks) event (Outside_does (Gives route)) past m event_is next_is (gives_here left ticks past m route ground known.0, tt)
  tally_event (Ticking_devices place (suc count) ticks) next past m event (drawn, route, event_is, next_is) may ground airs known =
      goes_to next (Ticking_devices (place + 1) count ticks) event (Outside_does (Device_ticks place drawn route)) past m event_is next_is (
        outside_now past m (Device_ticks place drawn route)
            (still_goes devices laws none did past m.outside (law.history (Ticking_devices place (suc count) ticks) past m ground) (Device_ticks place drawn route) tt tt known.0),
        tt,
      )
  tally_event (Ticking_chip ticks) next past m event (event_is, next_is) may ground airs known =
      goes_to next (Ticking_decoder ticks) event (Outside_does Chip_ticks) past m event_is next_is
      (outside_now past m Chip_ticks (ticks_go devices laws none did past m.outside (law.history (Ticking_chip ticks) past m ground) known.0), tt)
  tally_event (Ticking_decoder ticks) next past m event (event_is, next_is) may ground airs known =
      goes_to next (Ticking_host (tick_events m.host.state) ticks) event Decoder_ticks past m event_is next_is (host_now past m Decoder_ticks tt (subst (May m) event_is may) known.0, tt)
  tally_event (Ticking_host (first ∷ events) ticks) next past m event (event_is, next_is) may ground airs known =
      goes_to next (Ticking_host events ticks) event (Host_does first) past m event_is next_is (host_now past m (Host_does first) tt (subst (May m) event_is may) known.0, tt)
  tally_event (Sleeping passes ticks) next past m event (node, wants, event_is, next_is) may ground airs known =
      goes_to next (Sleeping passes ticks) event (Host_does _) past m event_is next_is (host_now past m (Host_does _) tt (subst (May m) event_is may) known.0, tt)
  tally_event (Submitting passes ticks) next past m event (asked, is, event_is, next_is) may ground airs known =
      goes_to next (Submitting passes ticks) event (Host_does asked) past m event_is next_is (host_now past m (Host_does asked) tt (subst (May m) event_is may) known.0, tt)
  tally_event (Moving passes ticks) next past m event (rest, ways, event_is, next_is) may ground airs known =
      let count : ℕ = length m.outside.outer.to_chip.bytes in
      goes_to next (Moved true passes ticks) event (Outside_does (Chip_takes count rest ways)) past m event_is next_is (
        outside_now past m (Chip_takes count rest ways)
            (takes_go devices laws none did past m.outside (law.history (Moving passes ticks) past m ground) count rest ways (may_outside m (Chip_takes count rest ways) (subst (May m) event_is may))
            (law.agrees passes ticks past m ground) airs.0 known.0),
        tt,
      )
  tally_event (Moved has_moved passes ticks) next past m event (rest, items, done, event_is, next_is) may ground airs known =
      goes_to next (Sleeping passes ticks) event (Host_takes _ rest items done) past m event_is next_is (host_now past m (Host_takes _ rest items done) tt (subst (May m) event_is may) known.0, tt)
  tally_event here next past m event goes may ground airs known = absurd goes

  -- ---- a part begins

  to : (next phase : Phase) (past : List Entry) (m : Machine) → next ≡ phase → KnowTally devices did phase past m → KnowTally devices did next past m
  to next phase past m is known = subst (λ (q : Phase). KnowTally devices did q past m) (sym is) known

  -- all frames have arrived
  arrived_all : (o : OuterState) (past : List Entry) → BeforeSo devices true 0 did past o → BeforeSo devices false 0 did past o
  arrived_all o past so =
      map_t devices (TallyBefore devices (outlook o) true 0 (awaits_number o) 0) (TallyBefore devices (outlook o) false 0 (awaits_number o) 0)
      (λ count course all was. before_next devices course all (outlook o) (outlook o) true false (awaits_number o) 0 0 count 0 count refl refl (λ many is. omega (arith, is)) was.numbered (λ entries own. own) was)
      did past o.chip.state.port so

  -- and all results have come
  given_all : (o : OuterState) (past : List Entry) → length o.due ≡ 0 → o.chip.state.sending ≡ None → BeforeSo devices false 0 did past o → NowSo devices did past o
  given_all o past due sending so =
      let infos = ap infos_in (no_length o.due due) in
      let flag : one_if ((outlook o).sending && not (outlook o).by_frame) ≡ 0 = ap (λ (x : Option SendingParts). one_if (is_some x && not (outlook o).by_frame)) sending in
      map_t devices (TallyBefore devices (outlook o) false 0 (awaits_number o) 0) (TallyNow devices (outlook o) (awaits_number o) 0)
      (λ count course all was. before_over devices course all (outlook o) false (awaits_number o) count (omega (arith, infos, flag)) was) did past o.chip.state.port so

  pub tally_turn : (here next : Phase) (past : List Entry) (m : Machine) → Turns here m next → Ground here past m → KnowTally devices did here past m → KnowTally devices did next past m
  tally_turn (Begun line) next past m (inl (events, is, next_is)) ground known = to next (Doing line events) past m next_is (known.0, effect_covered IsOfLine line m events (covers_line line) is)
  tally_turn (Begun line) next past m (inr (ticks, line_is, next_is)) ground known = to next (To_tick ticks) past m next_is known
  tally_turn (Doing line []) next past m next_is ground known = to next (Sleeping 64 0) past m next_is (known.0, tt)
  tally_turn (To_tick zero) next past m next_is ground known = to next Between past m next_is known
  tally_turn (Ticked ticks) next past m next_is ground known = to next (Arriving _ ticks) past m next_is known
  tally_turn (Arriving zero ticks) next past m next_is ground known = to next (Giving _ ticks) past m next_is (arrived_all m.outside.outer past known.0, tt)
  tally_turn (Giving zero ticks) next past m next_is ground known =
      to next (Ticking_devices 0 _ ticks) past m next_is (given_all m.outside.outer past (calls (Giving 0 ticks) past m ground).1.many (law.none ticks past m ground) known.0, tt)
  tally_turn (Ticking_devices place zero ticks) next past m next_is ground known = to next (Ticking_chip ticks) past m next_is known
  tally_turn (Ticking_host [] ticks) next past m next_is ground known = to next (Sleeping 64 ticks) past m next_is known
  tally_turn (Sleeping passes ticks) next past m (wants, next_is) ground known = to next (Submitting passes ticks) past m next_is known
  tally_turn (Submitting zero ticks) next past m (pumped, next_is) ground known = to next (To_tick ticks) past m next_is known
  tally_turn (Submitting (suc passes) ticks) next past m (pumped, next_is) ground known = to next (Moving passes ticks) past m next_is known
  tally_turn (Moving passes ticks) next past m (still, next_is) ground known = to next (Moved false passes ticks) past m next_is known
  tally_turn (Moved has_moved passes ticks) next past m (still, next_is) ground known = to next (Sleeping _ ticks) past m next_is known
  tally_turn here next past m turns ground known = absurd turns

  -- ---- the words of a line

  pub tally_said : (past : List Entry) (m : Machine) (words : List ℕ) (line : Line) → clock_of (past ++ entry.Said words ∷ []) ≡ m.outside.outer.clock → KnowTally devices did Between past m
      → KnowTally devices did (Said_line line) (past ++ entry.Said words ∷ []) m
  tally_said past m words line clock known =
      let (given_frames, serves, are) = known.0 in
      let port : PortState = m.outside.outer.chip.state.port in (
        (
          given_frames,
          serves_aside did given_frames past (entry.Said words ∷ []) port port (tt, tt) refl refl serves,
          λ later goes.
              now_said devices later past (outlook m.outside.outer) (awaits_number m.outside.outer) (length given_frames) words clock
              (few_stand devices did given_frames past port serves later goes) (are later goes),
        ),
        tt,
      )

-- ---- the law

module _ (devices : List State) (did : List Step) (past : List Entry) (o : OuterState) where
  now_waits : (v : Outlook) (awaits : Bool) → TallySo (TallyNow devices v awaits 0) did past o.chip.state.port → (course : Course) → GoesOn (course_of did) course → EachAfter (MayWait devices course) [] past
  now_waits v awaits (given_frames, serves, are) course goes = (are course goes).waits

  before_waits : (v : Outlook) (arriving : Bool) (left : ℕ) (awaits : Bool) → TallySo (TallyBefore devices v arriving left awaits 0) did past o.chip.state.port → (course : Course) → GoesOn (course_of did) course
      → EachAfter (MayWait devices course) [] past
  before_waits v arriving left awaits (given_frames, serves, are) course goes = (are course goes).waits

  pub at_waits : (here : Phase) → TallySo (TallyAt devices here o) did past o.chip.state.port → (course : Course) → GoesOn (course_of did) course → EachAfter (MayWait devices course) [] past
  at_waits (Said_line line) so course goes = now_waits (outlook o) false so course goes
  at_waits (Ticked ticks) so course goes = before_waits (outlook o) true (o.air.frames.sent - o.air.frames.landed) (awaits_number o) so course goes
  at_waits (Arriving left ticks) so course goes = before_waits (outlook o) true left (awaits_number o) so course goes
  at_waits (Giving results ticks) so course goes = before_waits (outlook o) false 0 (awaits_number o) so course goes
  at_waits here so course goes = now_waits (outlook o) (awaits_number o) so course goes

  -- and with what would stand before a further line
  pub ended_waits : NowSo devices did past o → (course : Course) → GoesOn (course_of did) course → EachAfter (MayWait devices course) [] (past ++ entry.Said [] ∷ [])
  ended_waits (given_frames, serves, are) course goes =
      let was = are course goes in
      let many = was.many in
      each-append (MayWait devices course) [] past (entry.Said [] ∷ []) was.waits (few_stand devices did given_frames past o.chip.state.port serves course goes (omega (arith, many)), tt)

-- ---- at first

pub tally_first : (keys : Keys) (records : Option (List (List ℕ))) (devices : List State) → SideObeys [] no_port.port.side → KnowTally devices [] Between [] (first_machine keys records devices)
unfolding first_outer on_air no_frames
tally_first keys records devices obeys = (
  (
    [],
    serves_none (first_machine keys records devices).outside.outer.chip.state.port refl obeys,
    λ later goes.
        record {
          waits = tt;
          numbered = tt;
          own = tt;
          timed = record { now = λ is. refl; was = λ is. absurd (let no : false ≡ true = is in cc); fates = λ is. refl; landed = λ is. absurd (let no : false ≡ true = is in cc); sent = λ is. absurd (let no : false ≡ true = is in cc) };
          old = [];
          silent = [];
          here = [];
          are = refl;
          settled = tt;
          unsettled = tt;
          new = tt;
          informs = refl;
          owes = refl;
          many = refl;
        },
  ),
  tt,
)
