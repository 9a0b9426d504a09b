-- Where a node that sleeps is, from phase to phase of lines for it alone.
use Rattle.std.proofs.Common.{◌≡◌, ◌≢◌, ◌<◌, ℕ, suc, Bool, true, inl, inr, List, [], ◌∷◌, ◌++◌, length, refl, sym, ap, ◌∙◌, subst, arith}
use Rattle.std.specs.Prelude.{◌⊎◌, Option, Some, None, option_map}
use Rattle.std.specs.List.{AllByRecursion}
use Rattle.zw_base.specs.declared.order.Order.{Order}
use Rattle.zw_text.specs.declared.line.Line.{Line}
use Rattle.zw_text.specs.declared.entry.Entry.{Entry}
use Rattle.zw_text.specs.declared.entry.Entry.TheVariants as entry
use Rattle.zw_text.specs.Transcript.{line_of, lines_run}
use Rattle.serial_frame.specs.Stream.{Rest}
use Rattle.serial_frame.specs.declared.item.Item.{Item}
use Rattle.serial_link.specs.declared.turn.Turn.TheVariants.{Idle as no_turn}
use Rattle.route_table.specs.declared.route.Route.{Route}
use Rattle.air_frames.specs.Flown.{Flown}
use Rattle.air_frames.specs.Frames.{next_of}
use Rattle.air_frames.specs.declared.frame.Heading.{Heading}
use Rattle.air_frames.specs.declared.frame.Heading.TheVariants.{Outward, Homeward}
use Rattle.chip_sim.specs.Nodes.{is_marked}
use Rattle.device_sim.specs.Event.{Wakes as Wakes_it, device_replies}
use Rattle.device_sim.specs.State.{State}
use Rattle.host_orders.specs.declared.carriage.Carriage.{Carriage}
use Rattle.host_requests.specs.declared.task.Purpose.TheVariants.{Housekeeping}
use Rattle.host_requests.specs.declared.task.Task.TheVariants.{NoMore}
use Rattle.host_requests.specs.declared.under_way.UnderWay.{UnderWay}
use Rattle.host_model.proofs.Submitted.{SubmittedAre, next_is, no_more_is}
use Rattle.host_model.specs.Events.{HostEvent, Accepts, Line_ticks, Node_ticks, Requests_do}
use Rattle.host_model.specs.State.{HostState, node_of}
use Rattle.law_time.specs.Stretches.{turns}
use Rattle.mesh_sim.specs.Air.{is_joined}
use Rattle.outside_model.specs.Events.{Arrives, Wakes_device}
use Rattle.world_model.specs.Events.{Event, Outside_does, Host_does, Host_takes, happens, entries, May}
use Rattle.world_model.specs.State.{Machine}
use Rattle.proof_calm.specs.proof_traffic.OnAir.{hosts_on_air, on_air}
use Rattle.proof_calm.specs.proof_work.proof_walk.Phases.{Phase, Between, Said_line, Doing, To_tick, Arriving, Giving, Ticking_devices, Ticking_chip, Ticking_decoder, Ticking_host, Sleeping, Submitting, Moving, Moved, Goes, Turns}
use Rattle.proof_calm.specs.Awaited.{AwaitsAt}
use Rattle.proof_calm.specs.Resting.{IsOfTick, LineAt}
use Rattle.proof_calm.specs.Routed.{IsRouted}
use Rattle.proof_calm.specs.Settling.{HasMoved, IsDone}
use Rattle.proof_calm.specs.Tied.{IsPeopled, RoomAt, TieAt, TieOf, unheard}
use Rattle.proof_calm.proofs.proof_traffic_Parts.{Airs}
use Rattle.proof_calm.proofs.Calm.{takes_calm}
use Rattle.proof_answered.specs.FirstAttempts.{IsInTime}
use Rattle.proof_answered.specs.Heard.{AllSayHeard}
use Rattle.proof_answered.specs.Outward.{IsSentTo}
use Rattle.proof_answered.specs.Said.{SaysThen}
use Rattle.proof_answered.specs.Sleepers.{Back_asleep, Before, BringsNotification, Comes_home, Counts, Flies_home, HasLeft, HasOne, HasSleeper, HearsNoMore, IsAfter, IsAlone, IsBefore, IsDown, IsOfOther, IsQuietFlown, IsQuietFrame, IsTelling, IsUpAt, Is_queued, Is_sent, NoMoreAt, NoneWakes, Not_asked, OneWakes, SaysAs, SleeperAt, StaysUp, TellsQuietly, Tells_it, Up, WakesSo, Was_told, Woken, wakes_at_most_last}
use Rattle.proof_answered.specs.Workers.{IsLineFor, IsWorkedFor, KnowStaff, KnowsWorkers, LinesAt, OnlySpeak}
use Rattle.proof_answered.proofs.Brought.{IsArriving, at_arrival}
use Rattle.proof_answered.proofs.KeptUp.{not_queued}
use Rattle.proof_answered.proofs.NoWaking.{comes_on, flies_on, none_wakes, woken_flies}
use Rattle.proof_answered.proofs.Outwards.{awaits_of, marked_within}
use Rattle.proof_answered.proofs.SleeperAloft.{host_lands, none_aborted, none_comes, none_fly, then_idle}
use Rattle.proof_answered.proofs.SleeperHosts.{Alive, DownAt, Gone, Still_up}
use Rattle.proof_answered.proofs.SleeperJudged.{Rouses, judged_alive, judged_down, judged_rouses}
use Rattle.proof_answered.proofs.SleeperPhases.{alive_on, down_on}
use Rattle.proof_answered.proofs.SleeperTexts.{after_next, after_said, after_turn, before_next, before_said, before_turn}
use Rattle.proof_answered.proofs.Speaking.{Same}
use Rattle.proof_answered.proofs.Staffed.{line_on, worked_before}
use Rattle.proof_answered.proofs.Staffing.{sent_on}

-- ---- with no event

pub sleeper_said : (these : List Bool) (n : ℕ) → is_marked these n ≡ true → (device : State) (past : List Entry) (m : Machine) (words : List ℕ) (line : Line) → line_of (entry.Said words) ≡ line ∷ []
    → ((k : ℕ) → is_marked these k ≡ true → wakes_at_most_last (turns k (past ++ entry.Said words ∷ [])) ≡ true) → SleeperAt n device Between past m → SleeperAt n device (Said_line line) (past ++ entry.Said words ∷ []) m
sleeper_said these n marked device past m words line read last (Before before down hosts none) = Before (before_said n past words line read before) down hosts none
sleeper_said these n marked device past m words line read last (Woken is down hosts one awake) = Woken (after_said n past words line read (last n marked) is) down hosts one awake
sleeper_said these n marked device past m words line read last (Up is up none awake) = Up (after_said n past words line read (last n marked) is) up none awake
sleeper_said these n marked device past m words line read last (Was_told is up told idle hosts none) = Was_told (after_said n past words line read (last n marked) is) up told idle hosts none
sleeper_said these n marked device past m words line read last (Back_asleep is down nothing hosts none) = Back_asleep (after_said n past words line read (last n marked) is) down nothing hosts none

pub sleeper_turn : (n : ℕ) (device : State) (here next : Phase) (past : List Entry) (m : Machine) → Turns here m next → LineAt here m → SleeperAt n device here past m → SleeperAt n device next past m
sleeper_turn n device here next past m turns line_at (Before before down hosts none) = Before (before_turn n here next past m turns line_at before) down hosts none
sleeper_turn n device here next past m turns line_at (Woken is down hosts one awake) = Woken (after_turn n here next past m turns line_at is) down hosts one awake
sleeper_turn n device here next past m turns line_at (Up is up none awake) = Up (after_turn n here next past m turns line_at is) up none awake
sleeper_turn n device here next past m turns line_at (Was_told is up told idle hosts none) = Was_told (after_turn n here next past m turns line_at is) up told idle hosts none
sleeper_turn n device here next past m turns line_at (Back_asleep is down nothing hosts none) = Back_asleep (after_turn n here next past m turns line_at is) down nothing hosts none

-- ---- no other line of it is to come

tick_other : (n : ℕ) (event : HostEvent) → IsOfTick event → IsOfOther n (Host_does event)
tick_other n Line_ticks of = tt
tick_other n (Requests_do event moment) of = tt
tick_other n (Node_ticks k) of = tt
tick_other n event of = absurd of

submitted_other : (n : ℕ) → SubmittedAre (λ (e : HostEvent). IsOfOther n (Host_does e))
submitted_other n = record { abort = tt; front = tt; starts = λ k plan more payload. tt; text = λ k payload. tt; segment = λ k more payload. tt; begins = λ k session command. tt; unkept = λ k. tt }

other_as : (n : ℕ) (event is : Event) → event ≡ is → IsOfOther n is → IsOfOther n event
other_as n event is same other = subst (IsOfOther n) (sym same) other

other_on : (n : ℕ) (here next : Phase) (past : List Entry) (m : Machine) (event : Event) → Goes here m event next → LineAt here m → IsAfter n here past → IsOfOther n event
other_on n (Said_line line) next past m event (is, to) line_at after = other_as n event _ is tt
other_on n (Doing line (first ∷ left)) next past m event (is, to) line_at after = other_as n event first is after.aside.0
other_on n (To_tick (suc ticks)) next past m event (is, to) line_at after = other_as n event _ is tt
other_on n (Arriving (suc frames) ticks) next past m event (drawn, route, is, to) line_at after = other_as n event _ is tt
other_on n (Giving (suc results) ticks) next past m event (route, is, to) line_at after = other_as n event _ is tt
other_on n (Ticking_devices place (suc count) ticks) next past m event (drawn, route, is, to) line_at after = other_as n event _ is tt
other_on n (Ticking_chip ticks) next past m event (is, to) line_at after = other_as n event _ is tt
other_on n (Ticking_decoder ticks) next past m event (is, to) line_at after = other_as n event _ is tt
other_on n (Ticking_host (first ∷ events) ticks) next past m event (is, to) line_at after = other_as n event _ is (tick_other n first line_at.0.0)
other_on n (Sleeping passes ticks) next past m event (node, wants, is, to) line_at after =
    other_as n event _ is (no_more_is (λ (e : HostEvent). IsOfOther n (Host_does e)) (record { queues = λ k. tt; drops = λ k. tt }) m.host.state node)
other_on n (Submitting passes ticks) next past m event (asked, next_so, is, to) line_at after = other_as n event _ is (next_is (λ (e : HostEvent). IsOfOther n (Host_does e)) (submitted_other n) m.host.state asked next_so)
other_on n (Moving passes ticks) next past m event (rest, ways, is, to) line_at after = other_as n event _ is tt
other_on n (Moved b passes ticks) next past m event (rest, items, done, is, to) line_at after = other_as n event _ is tt
other_on n here next past m event goes line_at after = absurd goes

-- ---- by an event

-- what is known around it
record Around (these : List Bool) (here next : Phase) (m : Machine) (event : Event) : Type 0 where
  pub goes : Goes here m event next
  pub may : May m event
  pub line_at : LineAt here m
  pub awaits : AwaitsAt here m
  pub room : RoomAt here m
  pub routed : IsRouted m.outside.outer
  pub tie : TieAt here m
  pub peopled : IsPeopled these m
  pub heard : AllSayHeard (unheard m.outside.outer)
  pub workers : KnowsWorkers these m.host.state
  pub lines : LinesAt these here
  pub speak : OnlySpeak these m
  pub sent : IsSentTo these m event
  pub line_then : LineAt next (happens m event)
  pub awaits_then : AwaitsAt next (happens m event)
  pub tie_then : TieAt next (happens m event)
  pub in_time : IsInTime m event

-- it hears in this event that there is no more
hears_or : (n : ℕ) (m : Machine) (event : Event) → IsTelling n m.host.state ⊎ (IsTelling n m.host.state → ⊥) → HearsNoMore n m event ⊎ (HearsNoMore n m event → ⊥)
hears_or n m (Outside_does (Arrives drawn route)) (inr not) = inr (λ hears. not hears.3)
hears_or n m (Outside_does (Arrives drawn route)) (inl tells) = by (next_of m.outside.outer.air.frames) refl
  where
    of : (frame : Flown) → next_of m.outside.outer.air.frames ≡ Some frame → (heading : Heading) → frame.heading ≡ heading
        → HearsNoMore n m (Outside_does (Arrives drawn route)) ⊎ (HearsNoMore n m (Outside_does (Arrives drawn route)) → ⊥)
    of frame next Outward out = inl (frame, next, out, tells)
    of frame next Homeward home = inr (λ hears.
        let same : frame ≡ hears.0 = some_same frame hears.0 (sym next ∙ hears.1) in
        let wrong : Homeward ≡ Outward = sym home ∙ (ap (λ (f : Flown). f.heading) same ∙ hears.2) in absurd cc)
      where
        some_same : (a b : Flown) → Some a ≡ Some b → a ≡ b
        some_same a b e = cc

    by : (next : Option Flown) → next_of m.outside.outer.air.frames ≡ next → HearsNoMore n m (Outside_does (Arrives drawn route)) ⊎ (HearsNoMore n m (Outside_does (Arrives drawn route)) → ⊥)
    by None next = inr (λ hears. let wrong : None ≡ Some hears.0 = sym next ∙ hears.1 in absurd cc)
    by (Some frame) next = of frame next frame.heading refl
hears_or n m (Outside_does event) tells = inr (λ hears. hears)
hears_or n m event tells = inr (λ hears. hears)

telling_or : (n : ℕ) (h : HostState) → NoMoreAt n h → IsTelling n h ⊎ (IsTelling n h → ⊥)
telling_or n h (Not_asked empty not) = inr not
telling_or n h (Is_queued waits not asked) = inr not
telling_or n h (Is_sent empty tells asked) = inl tells

-- a frame of the host arrives then
hears_lands : (airs : Airs) (n : ℕ) (here next : Phase) (m : Machine) (event : Event) → Goes here m event next → LineAt here m → AwaitsAt here m → LineAt next (happens m event) → HearsNoMore n m event
    → ((happens m event).host.state.side.turn ≡ no_turn) × (hosts_on_air (happens m event).outside.outer ≡ 0)
hears_lands airs n here next m (Outside_does (Arrives drawn route)) goes line_at awaits line_then hears =
    let at : IsArriving here next m = at_arrival drawn route here next m (Outside_does (Arrives drawn route)) goes line_at refl in
    let given : LineAt (Arriving at.frames at.ticks) (happens m (Outside_does (Arrives drawn route))) = subst (λ (q : Phase). LineAt q (happens m (Outside_does (Arrives drawn route)))) at.to line_then in
    (given.at_host.turn_is, host_lands airs m drawn route hears.0 (awaits_of here m awaits) (none_aborted here m line_at) hears.1 hears.2)
hears_lands airs n here next m (Outside_does event) goes line_at awaits line_then hears = absurd hears
hears_lands airs n here next m event goes line_at awaits line_then hears = absurd hears

-- what is said where no node of these is woken
says_quietly : (these : List Bool) (m : Machine) (event : Event) → ((k : ℕ) (route : Option Route) → is_marked these k ≡ true → event ≡ Outside_does (Wakes_device k route) → ⊥) → IsLineFor these event → SaysAs these m event
    → SaysThen these TellsQuietly m event
says_quietly these m (Outside_does (Wakes_device k route)) not is_for says = absurd (not k route is_for refl)
says_quietly these m (Outside_does event) not is_for says = says
says_quietly these m event not is_for says = says

-- the host judges: the air stays
judged_air : (airs : Airs) (m : Machine) (count : ℕ) (rest : Rest) (items : List Item) (events : List HostEvent) → AllByRecursion IsQuietFlown (on_air m.outside.outer.air.frames)
    → AllByRecursion IsQuietFlown (on_air (happens m (Host_takes count rest items events)).outside.outer.air.frames)
judged_air airs m count rest items events all = subst (AllByRecursion IsQuietFlown) (sym (takes_calm airs m count rest items events).on) all

module _ (airs : Airs) (same : Same) (these : List Bool) (many : length these ≡ 233) (n : ℕ) (alone : IsAlone these n) where
  within : n < 233
  within = let less = marked_within these n alone.marked in omega (arith, less, many)

  module _ (here next : Phase) (past told : List Entry) (none_said : lines_run told ≡ []) (m : Machine) (event : Event) (a : Around these here next m event) (says : SaysAs these m event) where
    -- it is not woken here
    abbrev IsUnwoken : Type 0
    IsUnwoken = (route : Option Route) → event ≡ Outside_does (Wakes_device n route) → ⊥

    quiet_said : IsUnwoken → SaysThen these TellsQuietly m event
    quiet_said not =
        says_quietly these m event (λ k route marked is. not route (is ∙ ap (λ (j : ℕ). Outside_does (Wakes_device j route)) (alone.only k marked))) (line_on these here next m event a.goes a.lines) says

    quiet : IsUnwoken → NoneWakes m → NoneWakes (happens m event)
    quiet not none = none_wakes airs same these many here next m event a.goes a.may (a.line_at, a.room, a.routed, a.tie) a.awaits a.line_then a.sent a.lines a.speak (quiet_said not) none

    after_it : IsAfter n here past → IsAfter n next (past ++ told)
    after_it is = after_next n here next past told m event a.goes none_said is

    after_unwoken : IsAfter n here past → IsUnwoken
    after_unwoken is route same_event = subst (IsOfOther n) same_event (other_on n here next past m event a.goes a.line_at is) refl

    after_accepts : IsAfter n here past → (order : Order) (carriage : Carriage) → event ≡ Host_does (Accepts order carriage) → order.node ≢ n
    after_accepts is order carriage same_event = subst (IsOfOther n) same_event (other_on n here next past m event a.goes a.line_at is)

    -- its frames and those of the host, where the host has no request
    none_left : (h : HostState) → (happens m event).host.state ≡ h → h.requests.under_way ≡ None → hosts_on_air (happens m event).outside.outer ≡ 0
    none_left h same_host none = none_fly next (happens m event) a.line_then a.awaits_then a.tie_then (ap (λ (g : HostState). g.requests.under_way) same_host ∙ none)

    down_at : (Empty : Type 0) → IsDown n m.host.state → (Empty → HasLeft (node_of m.host.state n) → ⊥) → DownAt Empty n m.host.state
    down_at Empty down nothing = record {
      places = a.peopled.facts.nodes.places;
      down = down;
      unasked = not_queued (node_of m.host.state n) (a.peopled.facts.nodes.facts n) down.asleep;
      nothing = nothing;
    }

    -- ---- while it counts as asleep, and nothing tells otherwise

    quietly_judged : (Empty : Type 0) → AllByRecursion IsQuietFrame (unheard m.outside.outer) → DownAt Empty n m.host.state → (b : Bool) (passes : ℕ) (rest : Rest) (items : List Item) (done : List HostEvent)
        → event ≡ Host_takes (length m.outside.outer.to_host.bytes) rest items done → IsDone m ⊎ HasMoved b passes m → TieOf true m [] → DownAt Empty n (happens m event).host.state
    quietly_judged Empty pending d b passes rest items done is at tie =
        subst (λ (e : Event). DownAt Empty n (happens m e).host.state) (sym is) (judged_down airs n within b passes m rest items done (subst (May m) is a.may) at tie a.heard Empty pending d)

    stays_down : (Empty : Type 0) → AllByRecursion IsQuietFrame (unheard m.outside.outer) → ((order : Order) (carriage : Carriage) → event ≡ Host_does (Accepts order carriage) → order.node ≡ n → Empty → ⊥) → DownAt Empty n m.host.state
        → DownAt Empty n (happens m event).host.state
    stays_down Empty pending accepts d =
        down_on these n alone within Empty (DownAt Empty n (happens m event).host.state) m event (λ not later. later) here next a.goes a.may a.line_at a.tie a.workers a.in_time accepts (quietly_judged Empty pending d) d

    -- ---- while it counts as awake

    lives : (Telling : Type 0) → AllByRecursion IsQuietFrame (unheard m.outside.outer) → IsAfter n here past → IsUpAt n m.host.state → (Telling → IsTelling n m.host.state) → Alive Telling n (happens m event).host.state
    lives Telling pending is up tells =
        alive_on these n alone within Telling here next m event a.goes a.may a.line_at a.awaits a.tie a.workers a.in_time (after_accepts is)
        (λ b passes rest items done event_is at tie.
        subst (λ (e : Event). Alive Telling n (happens m e).host.state) (sym event_is) (judged_alive airs n within b passes m rest items done (subst (May m) event_is a.may) at tie a.heard Telling pending live))
        live
      where
        live : Alive Telling n m.host.state
        live = Still_up a.peopled.facts.nodes.places up tells

    -- ---- each of the states

    module _ (is : HasSleeper n m.outside.devices) (later : HasSleeper n (happens m event).outside.devices) where
      abbrev Then : Type 0
      Then = SleeperAt n later.device next (past ++ told) (happens m event)

      gone : IsAfter n here past → NoneWakes (happens m event) → DownAt (Unit {0}) n (happens m event).host.state → Then
      gone after none d = Back_asleep (after_it after) d.down (d.nothing tt) (none_left (happens m event).host.state refl d.down.no_request) none

      before_on : is_joined m.outside.outer.air n ≡ true → IsBefore n here past → IsDown n m.host.state → NoneWakes m → Then
      before_on joined before down none = by (before_next n past told none_said here next m event a.goes before)
        where
          d : DownAt ⊥ n (happens m event).host.state
          d = stays_down ⊥ none.pending (λ order carriage same_event node empty. empty) (down_at ⊥ down (λ empty. absurd empty))

          hosts : hosts_on_air (happens m event).outside.outer ≡ 0
          hosts = none_left (happens m event).host.state refl d.down.no_request

          by : (IsBefore n next (past ++ told) × (((route : Option Route) × (event ≡ Outside_does (Wakes_device n route))) → ⊥)) ⊎ (IsAfter n next (past ++ told) × ((route : Option Route) × (event ≡ Outside_does (Wakes_device n route)))) → Then
          by (inl (still, not)) = Before still d.down hosts (quiet (λ route same_event. not (route, same_event)) none)
          by (inr (after, (route, wakes))) =
              let wakes_so : WakesSo (device_replies is.device Wakes_it) later.device =
              subst (λ (e : Event). (l : HasSleeper n (happens m e).outside.devices) → WakesSo (device_replies is.device Wakes_it) l.device) (sym wakes) (λ l. subst (SaysAs these m) wakes says alone.marked is l) later in
              Woken after d.down hosts
              (subst (λ (e : Event). OneWakes n (happens m e)) (sym wakes) (woken_flies airs these many n m route wakes_so.payload alone.marked (awaits_of here m a.awaits) joined is wakes_so.says wakes_so.tells none))
              wakes_so.awake

      woken_on : StaysUp these m event → IsAfter n here past → IsDown n m.host.state → OneWakes n m → is.device.awake ≡ true → Then
      woken_on stays after down one awake = by one
        where
          awake_then : later.device.awake ≡ true
          awake_then = stays n alone.marked is awake (Tells_it down.asleep one) later

          d : DownAt ⊥ n m.host.state
          d = down_at ⊥ down (λ empty. absurd empty)

          woken : OneWakes n (happens m event) → DownAt ⊥ n (happens m event).host.state → Then
          woken one_then d_then = Woken (after_it after) d_then.down (none_left (happens m event).host.state refl d_then.down.no_request) one_then awake_then

          -- the host judges, its Notification among what is on its way
          roused : (b : Bool) (passes : ℕ) (rest : Rest) (items : List Item) (done : List HostEvent) → event ≡ Host_takes (length m.outside.outer.to_host.bytes) rest items done → IsDone m ⊎ HasMoved b passes m → TieOf true m []
              → AllByRecursion IsQuietFlown (on_air m.outside.outer.air.frames) → HasOne (BringsNotification n) IsQuietFrame (unheard m.outside.outer) → Then
          roused b passes rest items done event_is at tie frames comes = of (judged_rouses airs n within b passes m rest items done (subst (May m) event_is a.may) at tie a.heard comes d)
            where
              frames_then : AllByRecursion IsQuietFlown (on_air (happens m event).outside.outer.air.frames)
              frames_then =
                  subst (λ (e : Event). AllByRecursion IsQuietFlown (on_air (happens m e).outside.outer.air.frames)) (sym event_is)
                  (judged_air airs m (length m.outside.outer.to_host.bytes) rest items done frames)

              back : (On : Machine → Type 0) → On (happens m (Host_takes (length m.outside.outer.to_host.bytes) rest items done)) → On (happens m event)
              back On on = subst (λ (e : Event). On (happens m e)) (sym event_is) on

              alive : AllByRecursion IsQuietFrame (unheard (happens m event).outside.outer) → Alive ⊥ n (happens m event).host.state → Then
              alive pending (Still_up places up tells) = Up (after_it after) up (record { frames = frames_then; pending = pending }) awake_then
              alive pending (Gone d_then) = gone after (record { frames = frames_then; pending = pending }) d_then

              of : Rouses airs n within b passes m rest items done (subst (May m) event_is a.may) at tie a.heard → Then
              of (inl (live, pending)) = alive (back (λ l. AllByRecursion IsQuietFrame (unheard l.outside.outer)) pending) (back (λ l. Alive ⊥ n l.host.state) live)
              of (inr (d_then, comes_then)) =
                  woken (Comes_home frames_then (back (λ l. HasOne (BringsNotification n) IsQuietFrame (unheard l.outside.outer)) comes_then)) (back (λ l. DownAt ⊥ n l.host.state) d_then)

          accepts : (order : Order) (carriage : Carriage) → event ≡ Host_does (Accepts order carriage) → order.node ≡ n → ⊥ → ⊥
          accepts order carriage same_event node empty = empty

          by : OneWakes n m → Then
          by (Flies_home flies pending) =
              woken
              (flies_on airs same these many here next m event a.goes a.may (a.line_at, a.room, a.routed, a.tie) a.awaits a.line_then a.sent a.lines a.speak (quiet_said (after_unwoken after)) n a.peopled.live flies pending)
              (stays_down ⊥ pending accepts d)
          by (Comes_home frames comes) =
              down_on these n alone within ⊥ Then m event
              (λ not d_then.
              woken (comes_on airs same these many here next m event a.goes a.may (a.line_at, a.room, a.routed, a.tie) a.awaits a.line_then a.sent a.lines a.speak (quiet_said (after_unwoken after)) n not frames comes) d_then)
              here next a.goes a.may a.line_at a.tie a.workers a.in_time accepts (λ b passes rest items done event_is at tie. roused b passes rest items done event_is at tie frames comes) d

      up_on : StaysUp these m event → IsAfter n here past → IsUpAt n m.host.state → NoneWakes m → is.device.awake ≡ true → Then
      up_on stays after up none awake = by (lives (IsTelling n m.host.state) none.pending after up (λ told_it. told_it))
        where
          none_then : NoneWakes (happens m event)
          none_then = quiet (after_unwoken after) none

          by : Alive (IsTelling n m.host.state) n (happens m event).host.state → Then
          by (Gone d) = gone after none_then d
          by (Still_up places up_then tells) = of (hears_or n m event (telling_or n m.host.state up.no_more))
            where
              told_it : (e : Event) → HearsNoMore n m e → IsTelling n m.host.state
              told_it (Outside_does (Arrives drawn route)) hears = hears.3
              told_it (Outside_does e) hears = absurd hears
              told_it e hears = absurd hears

              of : HearsNoMore n m event ⊎ (HearsNoMore n m event → ⊥) → Then
              of (inl hears) =
                  let lands = hears_lands airs n here next m event a.goes a.line_at a.awaits a.line_then hears in
                  Was_told (after_it after) up_then (tells (told_it event hears)) lands.0 lands.1 none_then
              of (inr not) = Up (after_it after) up_then none_then (stays n alone.marked is awake (Counts up.kept.awake not) later)

      told_on : IsAfter n here past → IsUpAt n m.host.state → IsTelling n m.host.state → m.host.state.side.turn ≡ no_turn → hosts_on_air m.outside.outer ≡ 0 → NoneWakes m → Then
      told_on after up tells idle hosts none = by (lives (IsTelling n m.host.state) none.pending after up (λ told_it. told_it))
        where
          none_then : NoneWakes (happens m event)
          none_then = quiet (after_unwoken after) none

          busy : m.host.state.requests.under_way ≢ None
          busy free = let wrong : None ≡ Some (Housekeeping (NoMore n)) = sym (ap (λ (o : Option UnderWay). option_map (λ (request : UnderWay). request.purpose) o) free) ∙ tells in absurd cc

          by : Alive (IsTelling n m.host.state) n (happens m event).host.state → Then
          by (Gone d) = gone after none_then d
          by (Still_up places up_then tells_then) =
              Was_told (after_it after) up_then (tells_then tells) (then_idle here next m event a.goes a.line_then idle busy) (none_comes airs these many here next m event a.goes a.may a.line_at a.awaits idle hosts) none_then

      back_on : IsAfter n here past → IsDown n m.host.state → (HasLeft (node_of m.host.state n) → ⊥) → NoneWakes m → Then
      back_on after down nothing none =
          gone after (quiet (after_unwoken after) none)
          (stays_down (Unit {0}) none.pending (λ order carriage same_event node empty. after_accepts after order carriage same_event node) (down_at (Unit {0}) down (λ empty. nothing)))

      sleeper_on : is_joined m.outside.outer.air n ≡ true → StaysUp these m event → SleeperAt n is.device here past m → Then
      sleeper_on joined stays (Before before down hosts none) = before_on joined before down none
      sleeper_on joined stays (Woken after down hosts one awake) = woken_on stays after down one awake
      sleeper_on joined stays (Up after up none awake) = up_on stays after up none awake
      sleeper_on joined stays (Was_told after up tells idle hosts none) = told_on after up tells idle hosts none
      sleeper_on joined stays (Back_asleep after down nothing hosts none) = back_on after down nothing none

-- ---- of the text and the machine

around : (these : List Bool) (here next : Phase) (past : List Entry) (m : Machine) (event : Event) → Goes here m event next → May m event → IsWorkedFor these (past ++ entries m event) → KnowStaff these here past m
    → KnowStaff these next (past ++ entries m event) (happens m event) → IsInTime m event → Around these here next m event
around these here next past m event goes may worked staff staff_then in_time =
    let before = worked_before these past (entries m event) worked in
    let at = staff before in
    let knows = at.0.0 before.stretched in
    let tied = knows.0.tied before.stretched.quiet in
    let at_then = staff_then worked in
    let tied_then = (at_then.0.0 worked.stretched).0.tied worked.stretched.quiet in
    record {
      goes = goes;
      may = may;
      line_at = tied.0;
      awaits = tied.1;
      room = tied.2;
      routed = tied.3;
      tie = tied.6;
      peopled = tied.7;
      heard = knows.1;
      workers = at.0.1 before.stretched;
      lines = at.1.lines;
      speak = at.1.speak;
      sent = sent_on these here next m event goes may tied.0 tied.6 (at.0.1 before.stretched).request;
      line_then = tied_then.0;
      awaits_then = tied_then.1;
      tie_then = tied_then.6;
      in_time = in_time;
    }

module _ (airs : Airs) (same : Same) (these : List Bool) (n : ℕ) (alone : IsAlone these n) (many : length these ≡ 233) where
  pub sleeper_event : (here next : Phase) (past : List Entry) (m : Machine) (event : Event) → Goes here m event next → May m event → IsWorkedFor these (past ++ entries m event) → KnowStaff these here past m
      → KnowStaff these next (past ++ entries m event) (happens m event) → lines_run (entries m event) ≡ [] → is_joined m.outside.outer.air n ≡ true → IsInTime m event → StaysUp these m event → SaysAs these m event
      → (is : HasSleeper n m.outside.devices) → (later : HasSleeper n (happens m event).outside.devices) → SleeperAt n is.device here past m → SleeperAt n later.device next (past ++ entries m event) (happens m event)
  sleeper_event here next past m event goes may worked staff staff_then none joined in_time stays says is later at =
      sleeper_on airs same these many n alone here next past (entries m event) none m event (around these here next past m event goes may worked staff staff_then in_time) says is later joined stays at

  -- no frame tells of waking, once it was woken, but its Notification
  pub quiet_on : (here next : Phase) (past : List Entry) (m : Machine) (event : Event) → Goes here m event next → May m event → IsWorkedFor these (past ++ entries m event) → KnowStaff these here past m
      → KnowStaff these next (past ++ entries m event) (happens m event) → lines_run (entries m event) ≡ [] → IsInTime m event → SaysAs these m event → IsAfter n here past → NoneWakes m → NoneWakes (happens m event)
  quiet_on here next past m event goes may worked staff staff_then none in_time says after none_wake =
      let a = around these here next past m event goes may worked staff staff_then in_time in
      quiet airs same these many n alone here next past (entries m event) none m event a says (after_unwoken airs same these many n alone here next past (entries m event) none m event a says after) none_wake
