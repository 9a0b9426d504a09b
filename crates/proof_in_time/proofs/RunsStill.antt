-- At each event of quiet lines and ticks the attempt of a node runs on, where nothing that the host judges tells the end of its session; so does one whose segments are on their way, while its device has not taken the session.
use Rattle.std.proofs.Common.{◌≡◌, ◌≢◌, ◌<◌, ℕ, suc, ◌+◌, ◌*◌, ◌%◌, ◌≤◌, inl, inr, Bool, true, Some, List, [], ◌∷◌, ◌++◌, length, refl, sym, ap, ◌∙◌, subst, arith}
use Rattle.std.specs.Prelude.{◌⊎◌, drop, slice_index}
use Rattle.std.specs.List.{AllByRecursion}
use Rattle.zw_base.proofs.Each.{all-append, all-both, all-weaker}
use Rattle.serial_frame.specs.Frame.{FrameParts}
use Rattle.serial_frame.specs.Stream.{Rest}
use Rattle.serial_frame.specs.declared.item.Item.{Item}
use Rattle.serial_frame.specs.declared.unit.Unit.{Unit as LineUnit}
use Rattle.serial_link.specs.declared.turn.Turn.{Turn}
use Rattle.serial_link.specs.declared.turn.Turn.TheVariants.{Idle as no_turn}
use Rattle.chip_functions.specs.Field.{IsNode}
use Rattle.chip_sim.specs.Nodes.{is_marked}
use Rattle.device_sim.specs.State.{State}
use Rattle.host_heard.specs.declared.told.Told.{Told}
use Rattle.host_heard.specs.declared.told.Told.TheVariants.{NonceGet, NonceReport, Notification, Report, SegmentRequest, Values}
use Rattle.host_requests.specs.Events.RequestsEvent.{Ticks as request_ticks}
use Rattle.host_node.specs.declared.attempt.Moment.TheVariants.{BeforeItsTick}
use Rattle.host_model.specs.Events.{HostEvent, Accepts, Line_ticks, Node_ticks, Requests_do}
use Rattle.host_model.specs.State.{HostState, node_of}
use Rattle.outside_model.specs.Events.{Arrives, Begins_line, Begins_tick, Chip_takes, Chip_ticks, Device_ticks, Gives, OuterEvent}
use Rattle.world_model.specs.Events.{Decoder_ticks, Event, Host_does, Host_takes, May, Outside_does, Refuses, Shows_values, happens}
use Rattle.world_model.specs.State.{Machine}
use Rattle.proof_messages.specs.Reporting.{IsOpenTold, IsPlainTold, TellsOpenly, TellsPlainly}
use Rattle.proof_answered.specs.proof_calm.proof_work.proof_walk.Phases.{Phase, Arriving, Begun, Between, Doing, Giving, Goes, Moved, Moving, Said_line, Sleeping, Submitting, Ticked, Ticking_chip, Ticking_decoder, Ticking_devices, Ticking_host, To_tick}
use Rattle.proof_answered.specs.proof_calm.Awaited.{AwaitsAt, AwaitsNone}
use Rattle.proof_answered.specs.proof_calm.Passes.{IsPlain, OnLine, frames_in}
use Rattle.proof_answered.specs.proof_calm.Resting.{IsEffect, IsGiven, LineAt}
use Rattle.proof_answered.specs.proof_calm.Settling.{HasMoved, IsDone}
use Rattle.proof_answered.specs.proof_calm.Tied.{All, IsNodeTick, Nodes, Request, TickLeft, TieAt, TiedInTick, TieOf, unheard}
use Rattle.proof_answered.specs.Heard.{SaysHeard}
use Rattle.proof_answered.specs.Sleepers.{IsAlone}
use Rattle.proof_answered.specs.Workers.{IsFromSaying}
use Rattle.proof_answered.proofs.FirstWalk.{request_well}
use Rattle.proof_answered.proofs.Following.{kept}
use Rattle.proof_answered.proofs.HostTurns.{host_turns}
use Rattle.proof_answered.proofs.Idle.{host_idles}
use Rattle.proof_answered.proofs.Judging.{TieBy}
use Rattle.proof_answered.proofs.Peopled.{judged_are}
use Rattle.proof_answered.proofs.Requested.{moved_frames}
use Rattle.proof_answered.proofs.proof_traffic_Parts.{Airs}
use Rattle.proof_in_time.specs.Coming.{brings}
use Rattle.proof_in_time.specs.Parts.{Aired, Aired_told, Aired_two, AllTold, Amid, Asks, Asks_told, Asks_told_two, HasBefore, IsAskTold, IsWithin, Lacks_last, Lacks_none, OnWay, Parts, Taken, To_give, To_give_two, ToHear}
use Rattle.proof_in_time.specs.Untold.{EndsNone, NoneToldEnds}
use Rattle.proof_in_time.proofs.Bounded.{open_where}
use Rattle.proof_in_time.proofs.PartsArrived.{outside_host}
use Rattle.proof_in_time.proofs.PartsArriving.{SegmentLaws, one_first}
use Rattle.proof_in_time.proofs.PartsFlying.{sends_as}
use Rattle.proof_in_time.proofs.PartsGoing.{Around, RunsThen, refuses_host, values_host}
use Rattle.proof_in_time.proofs.PartsHosted.{host_then}
use Rattle.proof_in_time.proofs.PartsRuns.{LeavesRun, Run, RunsAt, SaysOn, event_runs, judged_runs}
use Rattle.proof_in_time.proofs.PartsSubmitted.{IsPartEvent, submits_it}

-- ---- where the host neither submits nor judges

-- a phase at whose event it does neither, and asks nobody to sleep
abbrev pub IsStill : Phase → Type 0
IsStill (Sleeping passes ticks) = ⊥
IsStill (Submitting passes ticks) = ⊥
IsStill (Moved b passes ticks) = ⊥
IsStill here = Unit {0}

decoder_host : (m : Machine) → (happens m Decoder_ticks).host.state ≡ m.host.state
unfolding happens
decoder_host m = refl

module _ (n session : ℕ) (within : n < 233) where
  abbrev RunIn : Machine → Type 0
  RunIn m = Run n session within m.host.state

  run_as : (m : Machine) (event is : Event) → event ≡ is → RunIn (happens m is) → RunIn (happens m event)
  run_as m event is same r = subst (λ (e : Event). RunIn (happens m e)) (sym same) r

  host_run : (m : Machine) (event : Event) → (happens m event).host.state ≡ m.host.state → RunIn m → RunIn (happens m event)
  host_run m event same r = subst (Run n session within) (sym same) r

  outside_run : (m : Machine) (event : OuterEvent) → RunIn m → RunIn (happens m (Outside_does event))
  outside_run m event r = host_run m (Outside_does event) (outside_host m event) r

  does_run : (m : Machine) (event : HostEvent) → LeavesRun n m.host.state event → RunIn m → RunIn (happens m (Host_does event))
  does_run m event leaves r = subst (Run n session within) (sym (host_then m event)) (event_runs n session within m.host.state event leaves r)

  effect_run : (m : Machine) (event : Event) → IsEffect event → RunIn m → RunIn (happens m event)
  effect_run m (Outside_does event) is r = outside_run m event r
  effect_run m (Host_does (Accepts order carriage)) is r = does_run m (Accepts order carriage) tt r
  effect_run m (Refuses of refusal) is r = host_run m (Refuses of refusal) (refuses_host m of refusal) r
  effect_run m (Shows_values node) is r = host_run m (Shows_values node) (values_host m node) r
  effect_run m (Host_does event) is r = absurd is
  effect_run m event is r = absurd is

  -- an event of the host's tick
  tick_leaves : (m : Machine) (first : HostEvent) (events : List HostEvent) → IsGiven 1 m → AwaitsNone m → TiedInTick (first ∷ events) m → (node_of m.host.state n).attempt_wait ≢ 1 → LeavesRun n m.host.state first
  tick_leaves m first events given awaits tie lasts = by tie.counted tie.left tie.tie
    where
      node : (event : HostEvent) → IsNodeTick event → LeavesRun n m.host.state event
      node (Node_ticks k) is = λ same. lasts
      node event is = absurd is

      by : (counted : Bool) → TickLeft counted (first ∷ events) → TieOf counted m [] → LeavesRun n m.host.state first
      by counted (All nodes are is none) tied = let one : first ≡ Line_ticks = cc in subst (LeavesRun n m.host.state) (sym one) given.at_host.turn_is
      by counted (Request nodes are is none) tied =
          let one : first ≡ Requests_do request_ticks BeforeItsTick = cc in
          subst (LeavesRun n m.host.state) (sym one) (request_well (λ (h : HostState). Unit {0}) (λ h event last may on. tt) m awaits (subst (λ (b : Bool). TieOf b m []) none tied))
      by counted (Nodes are done) tied = node first are.0

  pub still_runs : (here next : Phase) (m : Machine) (event : Event) → IsStill here → Goes here m event next → LineAt here m → AwaitsAt here m → TieAt here m → (node_of m.host.state n).attempt_wait ≢ 1 → RunIn m → RunIn (happens m event)
  still_runs (Said_line line) next m event still (is, to) at awaits tie lasts r = run_as m event _ is (outside_run m Begins_line r)
  still_runs (Doing line (first ∷ es)) next m event still (is, to) at awaits tie lasts r = run_as m event first is (effect_run m first at.0.0 r)
  still_runs (To_tick (suc ticks)) next m event still (is, to) at awaits tie lasts r = run_as m event _ is (outside_run m Begins_tick r)
  still_runs (Arriving (suc frames) ticks) next m event still (drawn, route, is, to) at awaits tie lasts r = run_as m event _ is (outside_run m (Arrives drawn route) r)
  still_runs (Giving (suc results) ticks) next m event still (route, is, to) at awaits tie lasts r = run_as m event _ is (outside_run m (Gives route) r)
  still_runs (Ticking_devices place (suc count) ticks) next m event still (drawn, route, is, to) at awaits tie lasts r = run_as m event _ is (outside_run m (Device_ticks place drawn route) r)
  still_runs (Ticking_chip ticks) next m event still (is, to) at awaits tie lasts r = run_as m event _ is (outside_run m Chip_ticks r)
  still_runs (Ticking_decoder ticks) next m event still (is, to) at awaits tie lasts r = run_as m event _ is (host_run m Decoder_ticks (decoder_host m) r)
  still_runs (Ticking_host (first ∷ events) ticks) next m event still (is, to) at awaits tie lasts r = run_as m event _ is (does_run m first (tick_leaves m first events at.1 awaits tie lasts) r)
  still_runs (Moving passes ticks) next m event still (rest, ways, is, to) at awaits tie lasts r = run_as m event _ is (outside_run m (Chip_takes (length m.outside.outer.to_chip.bytes) rest ways) r)
  still_runs (Sleeping passes ticks) next m event still goes at awaits tie lasts r = absurd still
  still_runs (Submitting passes ticks) next m event still goes at awaits tie lasts r = absurd still
  still_runs (Moved b passes ticks) next m event still goes at awaits tie lasts r = absurd still
  still_runs here next m event still goes at awaits tie lasts r = absurd goes

  -- a part of its attempt, or what waits first, is submitted
  pub part_runs : (m : Machine) (event : HostEvent) → IsPartEvent n event → RunIn m → RunIn (happens m (Host_does event))
  part_runs m event (inl (more, (payload, is))) r = does_run m event (subst (LeavesRun n m.host.state) (sym is) tt) r
  part_runs m event (inr is) r = does_run m event (subst (LeavesRun n m.host.state) (sym is) tt) r

  -- the host judges
  module _ (airs : Airs) (these : List Bool) (only : (k : ℕ) → is_marked these k ≡ true → k ≡ n) where
    pub takes_runs : (b : Bool) (passes : ℕ) (m : Machine) (rest : Rest) (items : List Item) (events : List HostEvent) → May m (Host_takes (length m.outside.outer.to_host.bytes) rest items events) → IsDone m ⊎ HasMoved b passes m → TieOf true m []
        → AllByRecursion (SaysOn n session within these only) (unheard m.outside.outer) → RunIn m → RunIn (happens m (Host_takes (length m.outside.outer.to_host.bytes) rest items events))
    takes_runs b passes m rest items events may at tie says r = by at
      where
        idles : (host turn : Turn) (frames : List FrameParts) → OnLine [] [] host turn frames m → RunIn (happens m (Host_takes (length m.outside.outer.to_host.bytes) rest items events))
        idles host turn frames line = host_run m (Host_takes (length m.outside.outer.to_host.bytes) rest items events) (host_idles m host turn frames rest items events line may).2 r

        of : (down : List LineUnit) (has : HasMoved b passes m) → OnLine [] down has.host has.turn has.frames m → AllByRecursion IsPlain down → length down ≤ 99 → unheard m.outside.outer ≡ frames_in down ++ m.outside.outer.chip.state.port.waiting
            → RunIn (happens m (Host_takes (length m.outside.outer.to_host.bytes) rest items events))
        of [] has line plain few frames_are = idles has.host has.turn has.frames line
        of (unit ∷ units) has line plain few frames_are =
            let turned = host_turns airs m unit units has.host has.turn has.frames rest items events plain (omega (arith, few)) line may in
            subst (Run n session within) (sym turned.3)
            (judged_runs n session within these only m.outside.outer.chip.state m.host.state (unit ∷ units) m.outside.outer.chip.state.port.waiting events plain
            (judged_are m (length m.outside.outer.to_host.bytes) rest items events (unit ∷ units) may turned.2)
            (subst (λ (fs : List FrameParts). TieBy true (kept m.host.state) m.outside.outer.chip.state fs []) frames_are tie)
            (subst (AllByRecursion (SaysOn n session within these only)) frames_are says) r)

        by : IsDone m ⊎ HasMoved b passes m → RunIn (happens m (Host_takes (length m.outside.outer.to_host.bytes) rest items events))
        by (inl done) = idles no_turn no_turn [] done.line
        by (inr has) = of has.down has has.line has.plain has.few (moved_frames b passes m has)

-- ---- what the chip has for the host, while segments are on their way

open_of : (message : Told) → IsPlainTold message → IsOpenTold message
open_of (Report id status wake) plain = tt
open_of NonceGet plain = absurd plain
open_of (NonceReport nonce) plain = tt
open_of Notification plain = tt
open_of (SegmentRequest id offset) plain = absurd plain
open_of (Values settings) plain = tt

plain_openly : (payload : List ℕ) → TellsPlainly payload → TellsOpenly payload
plain_openly payload tells = record { told = tells.told; heard = tells.heard; openly = open_of tells.told tells.plain }

module _ (these : List Bool) (n session : ℕ) (marked : is_marked these n ≡ true) where
  abbrev Opens : FrameParts → Type 0
  Opens frame = IsFromSaying these TellsOpenly frame

  plain_opens : (frame : FrameParts) → IsFromSaying these TellsPlainly frame → Opens frame
  plain_opens frame says k payload is = let so = says k payload is in (so.0, plain_openly payload so.1)

  told_opens : (frames : List FrameParts) → AllTold these frames → AllByRecursion Opens frames
  told_opens frames all = all-weaker (IsFromSaying these TellsPlainly) Opens plain_opens frames all

  ask_opens : (place : ℕ) (frame : FrameParts) → IsAskTold n session place frame → Opens frame
  ask_opens place frame ask k payload is =
      let both : brings n ask.payload ≡ brings k payload = sym ask.is ∙ is in
      let same : n ≡ k = ap (λ (f : FrameParts). slice_index f.body 1) both in
      let text : ask.payload ≡ payload = ap (λ (f : FrameParts). drop 3 f.body) both in
      (subst (λ (j : ℕ). is_marked these j ≡ true) same marked, subst TellsOpenly text (record { told = SegmentRequest (session % 16) (39 * place); heard = ask.asks.heard; openly = tt }))

  amid_opens : (place : ℕ) (frames : List FrameParts) → Amid (IsFromSaying these TellsPlainly) (IsAskTold n session place) frames → AllByRecursion Opens frames
  amid_opens place frames at =
      subst (AllByRecursion Opens) (sym at.are) (all-append Opens at.before (at.one ∷ at.behind) (told_opens at.before at.each) (ask_opens place at.one at.is, told_opens at.behind at.rest))

  pub way_opens : (message : List ℕ) (next later : ℕ) (here : Phase) (m : Machine) (hears : ToHear) → OnWay these n session message next later here m hears → AllByRecursion Opens (unheard m.outside.outer)
  way_opens message next later here m hears (To_give place is give all told some) = told_opens (unheard m.outside.outer) told
  way_opens message next later here m hears (Aired place is other at told few) = told_opens (unheard m.outside.outer) told
  way_opens message next later here m hears (To_give_two place k is give at one told some) = told_opens (unheard m.outside.outer) told
  way_opens message next later here m hears (Aired_two place k is other at told level few) = told_opens (unheard m.outside.outer) told
  way_opens message next later here m hears (Aired_told place k is other at asked few) = amid_opens k (unheard m.outside.outer) asked
  way_opens message next later here m hears (Asks place is other is_free none at told few) = told_opens (unheard m.outside.outer) told
  way_opens message next later here m hears (Asks_told place is other owes all asked) = amid_opens place (unheard m.outside.outer) asked.at
  way_opens message next later here m hears (Asks_told_two place k is other owes asked at one some) = amid_opens place (unheard m.outside.outer) asked.at

-- ---- segments

-- the session was taken, or is the next
pub taken_or_next : (session : ℕ) (message : List ℕ) (hears : ToHear) (next : ℕ) (device : State) (ticks : ℕ) → IsWithin session message hears next device ticks → (session ≡ device.sessions.taken + 1) ⊎ (session ≡ device.sessions.taken)
taken_or_next session message hears next device ticks (inr wanted) = inl wanted.next
taken_or_next session message hears next device ticks (inl turn) = by turn.before
  where
    by : HasBefore session message turn.place device → (session ≡ device.sessions.taken + 1) ⊎ (session ≡ device.sessions.taken)
    by (Taken same) = inr same
    by (Lacks_last next_is lacks below) = inl next_is
    by (Lacks_none next_is all) = inl next_is

module _ (airs : Airs) (laws : SegmentLaws) (these : List Bool) (many : length these ≡ 233) (n session : ℕ) (alone : IsAlone these n) (is_node : IsNode n) where
  below : n < 233
  below = let few = is_node.1 in omega (arith, few)

  abbrev AroundIt : Phase → Phase → Machine → Event → Type 0
  AroundIt here next m event = Around airs laws these many n session alone is_node here next m event

  -- it runs
  run_of : (here next : Phase) (m : Machine) (event : Event) → AroundIt here next m event → RunsAt n session m.host.state.nodes
  run_of here next m event a = record {
    places = a.peopled.facts.nodes.places;
    opened = open_where (node_of m.host.state n) (a.peopled.facts.nodes.facts n) a.running ∙ ap Some a.begun;
    running = a.running;
  }

  says_on : (m : Machine) → AllByRecursion SaysHeard (unheard m.outside.outer) → AllByRecursion (IsFromSaying these TellsOpenly) (unheard m.outside.outer) → NoneToldEnds n session (unheard m.outside.outer)
      → AllByRecursion (SaysOn n session below these alone.only) (unheard m.outside.outer)
  says_on m heard opens none =
      all-both SaysHeard (λ (frame : FrameParts). IsFromSaying these TellsOpenly frame × ((payload : List ℕ) → frame ≡ brings n payload → EndsNone session payload)) (SaysOn n session below these alone.only) (λ frame says rest. (says, rest)) (unheard m.outside.outer) heard
      (all-both (IsFromSaying these TellsOpenly) (λ (frame : FrameParts). (payload : List ℕ) → frame ≡ brings n payload → EndsNone session payload)
      (λ (frame : FrameParts). IsFromSaying these TellsOpenly frame × ((payload : List ℕ) → frame ≡ brings n payload → EndsNone session payload)) (λ frame says rest. (says, rest)) (unheard m.outside.outer) opens none)

  -- where the host judges, and what is told is so
  pub judges_runs : (b : Bool) (passes ticks : ℕ) (next : Phase) (m : Machine) (event : Event) → Goes (Moved b passes ticks) m event next → AroundIt (Moved b passes ticks) next m event → AllByRecursion (IsFromSaying these TellsOpenly) (unheard m.outside.outer)
      → NoneToldEnds n session (unheard m.outside.outer) → RunsThen airs laws these many n session alone is_node m event
  judges_runs b passes ticks next m event (rest, items, done, is, to) a opens none =
      let runs = takes_runs n session below airs these alone.only b passes m rest items done (subst (May m) is a.may) a.line a.tie (says_on m a.calls opens none) (run_of (Moved b passes ticks) next m event a) in
      (subst (λ (e : Event). RunsAt n session (happens m e).host.state.nodes) (sym is) runs).running

  pub runs_on : (here next : Phase) (m : Machine) (event : Event) (left : ℕ) → Goes here m event next → AroundIt here next m event → (node_of m.host.state n).attempt_wait ≢ 1 → (parts : Parts these n session left here m)
      → RunsThen airs laws these many n session alone is_node m event ⊎ (session ≡ parts.stands.device.sessions.taken)
  runs_on (Sleeping passes ticks) next m event left (k, wants, is, to) a lasts parts = absurd (a.wants k wants)
  runs_on (Submitting passes ticks) next m event left (asked, next_is, is, to) a lasts parts =
      let run = run_of (Submitting passes ticks) next m event a in
      let part : IsPartEvent n asked =
      submits_it airs these n session below passes ticks m asked next_is a.tie a.peopled.facts.nodes.places run.opened a.running (λ k found. alone.only k (a.workers k found)) (sends_as m a.awaits a.routed a.none_aborted) left parts parts.next
      parts.later parts.hears parts.way in
      inl (subst (λ (e : Event). RunsAt n session (happens m e).host.state.nodes) (sym is) (part_runs n session below m asked part run)).running
  runs_on (Moved b passes ticks) next m event left goes a lasts parts = by (taken_or_next session parts.message parts.hears parts.next parts.stands.device parts.ticks parts.within)
    where
      by : (session ≡ parts.stands.device.sessions.taken + 1) ⊎ (session ≡ parts.stands.device.sessions.taken) → RunsThen airs laws these many n session alone is_node m event ⊎ (session ≡ parts.stands.device.sessions.taken)
      by (inr taken) = inr taken
      by (inl last) =
          let none = a.takes.untold (last ∙ ap (λ (d : State). d.sessions.taken + 1) (one_first n m.outside.devices parts.stands a.takes.stands)) in
          inl (judges_runs b passes ticks next m event goes a (way_opens these n session alone.marked parts.message parts.next parts.later (Moved b passes ticks) m parts.hears parts.way) none.told)
  runs_on Between next m event left goes a lasts parts = absurd goes
  runs_on (Said_line line) next m event left goes a lasts parts = inl (still_runs n session below (Said_line line) next m event tt goes a.line a.awaits a.tie lasts (run_of (Said_line line) next m event a)).running
  runs_on (Begun line) next m event left goes a lasts parts = absurd goes
  runs_on (Doing line es) next m event left goes a lasts parts = inl (still_runs n session below (Doing line es) next m event tt goes a.line a.awaits a.tie lasts (run_of (Doing line es) next m event a)).running
  runs_on (To_tick ticks) next m event left goes a lasts parts = inl (still_runs n session below (To_tick ticks) next m event tt goes a.line a.awaits a.tie lasts (run_of (To_tick ticks) next m event a)).running
  runs_on (Ticked ticks) next m event left goes a lasts parts = absurd goes
  runs_on (Arriving frames ticks) next m event left goes a lasts parts = inl (still_runs n session below (Arriving frames ticks) next m event tt goes a.line a.awaits a.tie lasts (run_of (Arriving frames ticks) next m event a)).running
  runs_on (Giving results ticks) next m event left goes a lasts parts = inl (still_runs n session below (Giving results ticks) next m event tt goes a.line a.awaits a.tie lasts (run_of (Giving results ticks) next m event a)).running
  runs_on (Ticking_devices place count ticks) next m event left goes a lasts parts =
      inl (still_runs n session below (Ticking_devices place count ticks) next m event tt goes a.line a.awaits a.tie lasts (run_of (Ticking_devices place count ticks) next m event a)).running
  runs_on (Ticking_chip ticks) next m event left goes a lasts parts = inl (still_runs n session below (Ticking_chip ticks) next m event tt goes a.line a.awaits a.tie lasts (run_of (Ticking_chip ticks) next m event a)).running
  runs_on (Ticking_decoder ticks) next m event left goes a lasts parts = inl (still_runs n session below (Ticking_decoder ticks) next m event tt goes a.line a.awaits a.tie lasts (run_of (Ticking_decoder ticks) next m event a)).running
  runs_on (Ticking_host events ticks) next m event left goes a lasts parts = inl (still_runs n session below (Ticking_host events ticks) next m event tt goes a.line a.awaits a.tie lasts (run_of (Ticking_host events ticks) next m event a)).running
  runs_on (Moving passes ticks) next m event left goes a lasts parts = inl (still_runs n session below (Moving passes ticks) next m event tt goes a.line a.awaits a.tie lasts (run_of (Moving passes ticks) next m event a)).running
