-- The law of what goes on the air, over lines: it goes on through each phase of a line on the ground of what other walks tell of the chip and the transcript (`GroundAir`).
use Rattle.std.proofs.Common.{◌≡◌, ◌≤◌, ◌<◌, ℕ, zero, suc, ◌+◌, ◌==◌, Bool, true, false, if◌then◌else◌, inl, inr, List, [], ◌∷◌, ◌++◌, refl, sym, ap, ◌∙◌, subst, eqb-true, arith}
use Rattle.std.specs.Prelude.{Option, None}
use Rattle.std.specs.List.{AllByRecursion}
use Rattle.zw_base.proofs.Each.{all-weaker}
use Rattle.s0_crypto.specs.declared.key_pair.Keys.{Keys}
use Rattle.serial_link.specs.Rules.{SideObeys, Step}
use Rattle.chip_sim.specs.Waiting.{no_port}
use Rattle.chip_sim.specs.declared.out.Sending.{Sending as SendingParts}
use Rattle.zw_text.specs.declared.line.Line.{Line}
use Rattle.zw_text.specs.declared.line.Line.TheVariants as lines
use Rattle.zw_text.specs.declared.entry.Entry.{Entry}
use Rattle.zw_text.specs.declared.entry.Entry.TheVariants as entry
use Rattle.law_wire.specs.Asked.{Sending, in_tick}
use Rattle.host_model.specs.Ticking.{tick_events}
use Rattle.outside_model.specs.Devices.{State}
use Rattle.outside_model.specs.State.{OuterState, first_outer}
use Rattle.outside_model.specs.Events.{OuterEvent, Begins_tick, Chip_takes, Arrives, Gives, outcome, May as MayOutside}
use Rattle.world_model.specs.State.{Machine, first_machine}
use Rattle.world_model.specs.Events.{Event, Outside_does, May, entries, happens}
use Rattle.proof_air.specs.proof_walk.ByLine.{CoversLine}
use Rattle.proof_air.specs.proof_walk.Outside.{CoversOuter}
use Rattle.proof_air.specs.proof_walk.Phases.{Phase, Between, Said_line, Begun, Doing, To_tick, Ticked, Arriving, Giving, Ticking_devices, Ticking_chip, Ticking_decoder, Ticking_host, Sleeping, Submitting, Moving, Moved, Goes, Turns}
use Rattle.proof_air.proofs.ByLine.{effect_covered}
use Rattle.proof_air.proofs.Times.{IsWithin, outcome_time}
use Rattle.proof_chip.specs.Sending.{AirSo, AreBefore, AreNow, AreSending, GroundAir, IsMild, KnowAir}
use Rattle.proof_line.proofs.ChipAccounts.{event_steps, outer_steps}
use Rattle.proof_chip.proofs.Growing.{serves_none}
use Rattle.proof_chip.proofs.Going.{apart_goes}
use Rattle.proof_chip.proofs.Judges.{now_as, takes_event, weaker}
use Rattle.proof_chip.proofs.Keeping.{TakesNone, event_keeps}
use Rattle.proof_chip.proofs.Mild.{entered_alike, event_alike}

-- ---- SendData of earlier ticks

-- none of them is of this one
none_now : (clock : ℕ) (sendings : List Sending) → AllByRecursion (λ (one : Sending). one.clock < clock) sendings → in_tick clock sendings ≡ []
none_now clock [] before = refl
none_now clock (one ∷ sendings) before = by (one.clock == clock) refl (none_now clock sendings before.1)
  where
    by : (b : Bool) → (one.clock == clock) ≡ b → in_tick clock sendings ≡ [] → (if b then one ∷ in_tick clock sendings else in_tick clock sendings) ≡ []
    by true is rest = absurd (let same = eqb-true one.clock clock is in let below = before.0 in omega (arith, same, below))
    by false is rest = rest

now_before : (o : OuterState) → o.chip.state.sending ≡ None → (sendings : List Sending) → AreBefore o sendings → AreNow o sendings
now_before o none sendings before = (
  subst (λ (x : Option SendingParts). AreSending x (in_tick o.clock sendings)) (sym none) (none_now o.clock sendings before),
  all-weaker (λ (one : Sending). one.clock < o.clock) (λ (one : Sending). one.clock ≤ o.clock) (λ one below. omega (arith, below)) sendings before,
)

before_then : (o p : OuterState) → o.clock ≡ p.clock → (sendings : List Sending) → AreBefore o sendings → AreBefore p sendings
before_then o p clock sendings before = subst (λ (n : ℕ). AllByRecursion (λ (one : Sending). one.clock < n) sendings) clock before

-- a tick begins
tick_before : (m : Machine) (sendings : List Sending) → AreNow m.outside.outer sendings → AreBefore (happens m (Outside_does Begins_tick)).outside.outer sendings
unfolding happens outcome
tick_before m sendings now =
    all-weaker (λ (one : Sending). one.clock ≤ m.outside.outer.clock) (λ (one : Sending). one.clock < m.outside.outer.clock + 1) (λ one few. omega (arith, few)) sendings now.1

within_clock : (m : Machine) (event : OuterEvent) → IsWithin event → m.outside.outer.clock ≡ (happens m (Outside_does event)).outside.outer.clock
unfolding happens
within_clock m event within =
    sym ((entered_alike (outcome m.outside event).outer (outcome m.outside event).entries).1 ∙ ap (λ (t : Bool × Bool × ℕ). t.2) (outcome_time m.outside event within))

mild_takes : (event : Event) → CoversOuter IsMild event → TakesNone event
mild_takes (Outside_does (Chip_takes count rest ways)) mild = absurd mild
mild_takes event mild = tt

covers_line : (line : Line) → CoversLine IsMild line
covers_line (lines.Repeat frame) = λ drawn route. tt
covers_line (lines.Wake node) = λ route. tt
covers_line (lines.Local node value) = λ route. tt
covers_line lines.Restart = (tt, tt)
covers_line line = tt

module _ (devices : List State) (Ground : Phase → List Entry → Machine → Type 0) (law : GroundAir devices Ground) (did : List Step) where
  abbrev Steps : Phase → List Entry → Machine → Event → Type 0
  Steps next past m event = KnowAir devices (did ++ event_steps m event) next (past ++ entries m event) (happens m event)

  abbrev Now : List Entry → Machine → Type 0
  Now past m = AirSo devices (AreNow m.outside.outer) did past m.outside.outer.chip.state.port

  abbrev Before : List Entry → Machine → Type 0
  Before past m = AirSo devices (AreBefore m.outside.outer) did past m.outside.outer.chip.state.port

  -- and after an event
  abbrev NowAfter : List Entry → Machine → Event → Type 0
  NowAfter past m event =
      AirSo devices (AreNow (happens m event).outside.outer) (did ++ event_steps m event) (past ++ entries m event) (happens m event).outside.outer.chip.state.port

  abbrev BeforeAfter : List Entry → Machine → Event → Type 0
  BeforeAfter past m event =
      AirSo devices (AreBefore (happens m event).outside.outer) (did ++ event_steps m event) (past ++ entries m event) (happens m event).outside.outer.chip.state.port

  -- an event, and what is known after it
  goes_to : (next to : Phase) (event is : Event) (past : List Entry) (m : Machine) → event ≡ is → next ≡ to → Steps to past m is → Steps next past m event
  goes_to next to event is past m event_is next_is known =
      subst (λ (e : Event). Steps next past m e) (sym event_is) (subst (λ (q : Phase). Steps q past m is) (sym next_is) known)

  -- the chip has under way what it had
  mild_now : (past : List Entry) (m : Machine) (event : Event) → CoversOuter IsMild event → May m event → (here : Phase) → Ground here past m → Now past m → NowAfter past m event
  mild_now past m event mild may here ground now =
      let alike = event_alike m event mild in
      weaker devices (AreNow m.outside.outer) (AreNow (happens m event).outside.outer) (did ++ event_steps m event) (past ++ entries m event) (happens m event).outside.outer.chip.state.port
      (now_as devices m.outside.outer (happens m event).outside.outer alike.0 alike.1)
      (event_keeps devices (AreNow m.outside.outer) did m event (mild_takes event mild) may past (law.history here past m ground) now)

  -- within a tick, before its results have come
  mild_before : (past : List Entry) (m : Machine) (event : OuterEvent) → TakesNone (Outside_does event) → IsWithin event → May m (Outside_does event) → (here : Phase) → Ground here past m → Before past m
      → BeforeAfter past m (Outside_does event)
  mild_before past m event none within may here ground before =
      weaker devices (AreBefore m.outside.outer) (AreBefore (happens m (Outside_does event)).outside.outer) (did ++ event_steps m (Outside_does event)) (past ++ entries m (Outside_does event))
      (happens m (Outside_does event)).outside.outer.chip.state.port (before_then m.outside.outer (happens m (Outside_does event)).outside.outer (within_clock m event within))
      (event_keeps devices (AreBefore m.outside.outer) did m (Outside_does event) none may past (law.history here past m ground) before)

  begins_tick : (past : List Entry) (m : Machine) → May m (Outside_does Begins_tick) → (here : Phase) → Ground here past m → Now past m
      → BeforeAfter past m (Outside_does Begins_tick)
  begins_tick past m may here ground now =
      weaker devices (AreNow m.outside.outer) (AreBefore (happens m (Outside_does Begins_tick)).outside.outer) (did ++ event_steps m (Outside_does Begins_tick)) (past ++ entries m (Outside_does Begins_tick))
      (happens m (Outside_does Begins_tick)).outside.outer.chip.state.port (tick_before m) (event_keeps devices (AreNow m.outside.outer) did m (Outside_does Begins_tick) tt may past (law.history here past m ground) now)

  takes : (passes ticks : ℕ) (past : List Entry) (m : Machine) (count : ℕ) (rest : _) (ways : _) → May m (Outside_does (Chip_takes count rest ways)) → Ground (Moving passes ticks) past m → Now past m
      → NowAfter past m (Outside_does (Chip_takes count rest ways))
  unfolding happens entries May MayOutside event_steps outer_steps
  takes passes ticks past m count rest ways may ground now = takes_event devices did m.outside count rest ways may.1 past (law.agrees passes ticks past m ground) now

  pub event_goes : (here next : Phase) (past : List Entry) (m : Machine) (event : Event) → Goes here m event next → May m event → Ground here past m → KnowAir devices did here past m → Steps next past m event
  event_goes (Said_line line) next past m event (event_is, next_is) may ground known =
      goes_to next (Begun line) event _ past m event_is next_is (mild_now past m _ tt (subst (May m) event_is may) (Said_line line) ground known.0, tt)
  event_goes (Doing line (first ∷ left)) next past m event (event_is, next_is) may ground known =
      goes_to next (Doing line left) event first past m event_is next_is (mild_now past m first known.1.0 (subst (May m) event_is may) (Doing line (first ∷ left)) ground known.0, known.1.1)
  event_goes (To_tick (suc ticks)) next past m event (event_is, next_is) may ground known =
      goes_to next (Ticked ticks) event (Outside_does Begins_tick) past m event_is next_is (begins_tick past m (subst (May m) event_is may) (To_tick (suc ticks)) ground known.0, tt)
  event_goes (Arriving (suc frames) ticks) next past m event (drawn, route, event_is, next_is) may ground known =
      goes_to next (Arriving frames ticks) event (Outside_does (Arrives drawn route)) past m event_is next_is
      (mild_before past m (Arrives drawn route) tt tt (subst (May m) event_is may) (Arriving (suc frames) ticks) ground known.0, tt)
  event_goes (Giving (suc results) ticks) next past m event (route, event_is, next_is) may ground known =
      goes_to next (Giving results ticks) event (Outside_does (Gives route)) past m event_is next_is
      (mild_before past m (Gives route) tt tt (subst (May m) event_is may) (Giving (suc results) ticks) ground known.0, tt)
  event_goes (Ticking_devices place (suc count) ticks) next past m event (drawn, route, event_is, next_is) may ground known =
      goes_to next (Ticking_devices (place + 1) count ticks) event _ past m event_is next_is (mild_now past m _ tt (subst (May m) event_is may) (Ticking_devices place (suc count) ticks) ground known.0, tt)
  event_goes (Ticking_chip ticks) next past m event (event_is, next_is) may ground known =
      goes_to next (Ticking_decoder ticks) event _ past m event_is next_is (mild_now past m _ tt (subst (May m) event_is may) (Ticking_chip ticks) ground known.0, tt)
  event_goes (Ticking_decoder ticks) next past m event (event_is, next_is) may ground known =
      goes_to next (Ticking_host (tick_events m.host.state) ticks) event _ past m event_is next_is (mild_now past m _ tt (subst (May m) event_is may) (Ticking_decoder ticks) ground known.0, tt)
  event_goes (Ticking_host (first ∷ events) ticks) next past m event (event_is, next_is) may ground known =
      goes_to next (Ticking_host events ticks) event _ past m event_is next_is (mild_now past m _ tt (subst (May m) event_is may) (Ticking_host (first ∷ events) ticks) ground known.0, tt)
  event_goes (Sleeping passes ticks) next past m event (node, wants, event_is, next_is) may ground known =
      goes_to next (Sleeping passes ticks) event _ past m event_is next_is (mild_now past m _ tt (subst (May m) event_is may) (Sleeping passes ticks) ground known.0, tt)
  event_goes (Submitting passes ticks) next past m event (asked, is, event_is, next_is) may ground known =
      goes_to next (Submitting passes ticks) event _ past m event_is next_is (mild_now past m _ tt (subst (May m) event_is may) (Submitting passes ticks) ground known.0, tt)
  event_goes (Moving passes ticks) next past m event (rest, ways, event_is, next_is) may ground known =
      goes_to next (Moved true passes ticks) event _ past m event_is next_is (takes passes ticks past m _ rest ways (subst (May m) event_is may) ground known.0, tt)
  event_goes (Moved has_moved passes ticks) next past m event (rest, items, done, event_is, next_is) may ground known =
      goes_to next (Sleeping passes ticks) event _ past m event_is next_is (mild_now past m _ tt (subst (May m) event_is may) (Moved has_moved passes ticks) ground known.0, tt)
  event_goes here next past m event goes may ground known = absurd goes

  -- ---- a part begins

  to : (next phase : Phase) (past : List Entry) (m : Machine) → next ≡ phase → KnowAir devices did phase past m → KnowAir devices did next past m
  to next phase past m is known = subst (λ (q : Phase). KnowAir devices did q past m) (sym is) known

  pub turn_goes : (here next : Phase) (past : List Entry) (m : Machine) → Turns here m next → Ground here past m → KnowAir devices did here past m → KnowAir devices did next past m
  turn_goes (Begun line) next past m (inl (events, is, next_is)) ground known = to next (Doing line events) past m next_is (known.0, effect_covered IsMild line m events (covers_line line) is)
  turn_goes (Begun line) next past m (inr (ticks, line_is, next_is)) ground known = to next (To_tick ticks) past m next_is known
  turn_goes (Doing line []) next past m next_is ground known = to next (Sleeping 64 0) past m next_is (known.0, tt)
  turn_goes (To_tick zero) next past m next_is ground known = to next Between past m next_is known
  turn_goes (Ticked ticks) next past m next_is ground known = to next (Arriving _ ticks) past m next_is known
  turn_goes (Arriving zero ticks) next past m next_is ground known = to next (Giving _ ticks) past m next_is known
  turn_goes (Giving zero ticks) next past m next_is ground known =
      to next (Ticking_devices 0 _ ticks) past m next_is (
        weaker devices (AreBefore m.outside.outer) (AreNow m.outside.outer) did past m.outside.outer.chip.state.port (now_before m.outside.outer (law.none ticks past m ground)) known.0,
        tt,
      )
  turn_goes (Ticking_devices place zero ticks) next past m next_is ground known = to next (Ticking_chip ticks) past m next_is known
  turn_goes (Ticking_host [] ticks) next past m next_is ground known = to next (Sleeping 64 ticks) past m next_is known
  turn_goes (Sleeping passes ticks) next past m (wants, next_is) ground known = to next (Submitting passes ticks) past m next_is known
  turn_goes (Submitting zero ticks) next past m (pumped, next_is) ground known = to next (To_tick ticks) past m next_is known
  turn_goes (Submitting (suc passes) ticks) next past m (pumped, next_is) ground known = to next (Moving passes ticks) past m next_is known
  turn_goes (Moving passes ticks) next past m (still, next_is) ground known = to next (Moved false passes ticks) past m next_is known
  turn_goes (Moved has_moved passes ticks) next past m (still, next_is) ground known = to next (Sleeping _ ticks) past m next_is known
  turn_goes here next past m turns ground known = absurd turns

  -- ---- the words of a line

  pub said_goes : (past : List Entry) (m : Machine) (words : List ℕ) (line : Line) → KnowAir devices did Between past m → KnowAir devices did (Said_line line) (past ++ entry.Said words ∷ []) m
  said_goes past m words line known =
      ((apart_goes devices (AreNow m.outside.outer) did m.outside m.outside (entry.Said words ∷ []) ((tt, tt), tt) refl false past (λ (is : false ≡ true). absurd cc) known.0).1, tt)

-- ---- at first

pub air_first : (keys : Keys) (records : Option (List (List ℕ))) (devices : List State) → SideObeys [] no_port.port.side → KnowAir devices [] Between [] (first_machine keys records devices)
unfolding first_outer
air_first keys records devices obeys =
    (([], serves_none (first_machine keys records devices).outside.outer.chip.state.port refl obeys, record { some = tt; turns = λ later goes. tt }, λ later goes. record { so = tt; over = tt; are = (refl, tt) }), tt)
