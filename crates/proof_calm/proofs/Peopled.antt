-- At each event of quiet lines and ticks, the host has to do with joined nodes alone, these alone speak on the air, and what the host gives is short.
use Rattle.std.proofs.Common.{◌≡◌, ◌≤◌, ℕ, suc, Bool, true, false, inl, inr, List, [], ◌∷◌, ◌++◌, length, refl, sym, ap, subst, arith}
use Rattle.std.specs.Prelude.{◌⊎◌}
use Rattle.std.specs.List.{AllByRecursion}
use Rattle.serial_frame.specs.Frame.{FrameParts}
use Rattle.serial_frame.specs.Stream.{Rest}
use Rattle.serial_frame.specs.declared.item.Item.{Item}
use Rattle.serial_frame.specs.declared.unit.Unit.{Unit as LineUnit}
use Rattle.serial_link.specs.State.{turn_ticked}
use Rattle.serial_link.specs.declared.turn.Turn.{Turn}
use Rattle.serial_link.specs.declared.turn.Turn.TheVariants.{Idle}
use Rattle.chip_sim.specs.State.{ChipState}
use Rattle.host_requests.specs.Events.RequestsEvent.{Ticks as request_ticks}
use Rattle.host_node.specs.State.{NodeState}
use Rattle.host_node.specs.declared.attempt.Moment.TheVariants.{BeforeItsTick}
use Rattle.host_model.specs.After.{after as after_host, failing_if, gives_up, line_ticked}
use Rattle.host_model.specs.Did.{after_all}
use Rattle.host_model.specs.Events.{HostEvent, Accepts, Line_ticks, Requests_do, Node_ticks}
use Rattle.host_model.specs.May.{May as MayHost}
use Rattle.host_model.specs.Pumping.{IsNext, no_more_event}
use Rattle.host_model.specs.State.{HostState}
use Rattle.host_model.specs.Taking.{AreJudged}
use Rattle.outside_model.specs.Events.{OuterEvent, Wakes_device, Shows, Cuts}
use Rattle.world_model.specs.State.{Machine}
use Rattle.world_model.specs.Events.{Event, Outside_does, Host_does, Host_takes, Decoder_ticks, Refuses, Shows_values, happens, May}
use Rattle.proof_work.specs.proof_walk.Outside.{CoversOuter}
use Rattle.proof_work.specs.proof_walk.Phases.{Phase, Said_line, Doing, To_tick, Arriving, Giving, Ticking_devices, Ticking_chip, Ticking_decoder, Ticking_host, Sleeping, Submitting, Moving, Moved, Goes}
use Rattle.proof_waking.proofs.proof_traffic_Parts.{Airs}
use Rattle.proof_serial.specs.Host.{AsksWell, FitsEvent}
use Rattle.proof_serial.proofs.HostRuns.{FactsKept, OpenedFacts, event_writes}
use Rattle.proof_calm.specs.Homeward.{SpeaksHome}
use Rattle.proof_calm.specs.Known.{HasShortPlain, IsBlank, KnowsMembers, KnowsThese}
use Rattle.proof_calm.specs.Live.{IsAskedAt}
use Rattle.proof_calm.specs.Marks.{IsQuietEvent}
use Rattle.proof_calm.specs.Networks.{Members, members}
use Rattle.proof_calm.specs.Passes.{OnLine, frames_in, IsPlain}
use Rattle.proof_calm.specs.Resting.{IsEffect, IsGiven, LineAt}
use Rattle.proof_calm.specs.Settling.{HasMoved, IsDone}
use Rattle.proof_calm.specs.Tied.{AsksAt, IsNodeTick, IsPeopled, TickLeft, All, Request, Nodes, TiedInTick, TieAt, TieOf, unheard}
use Rattle.proof_calm.proofs.Following.{kept}
use Rattle.proof_calm.proofs.Homing.{event_speaks}
use Rattle.proof_calm.proofs.HostTurns.{host_turns}
use Rattle.proof_calm.proofs.Idle.{fed_none, host_idles}
use Rattle.proof_calm.proofs.Judging.{EachFollows, TieBy, each_follow, units_are, units_named}
use Rattle.proof_calm.proofs.Knowing.{IsNamed, all_know, event_knows, same_requests}
use Rattle.proof_calm.proofs.Links.{event_members}
use Rattle.proof_calm.proofs.Living.{event_lives}
use Rattle.proof_calm.proofs.Plains.{all_ask, all_plains, event_asks, event_plains, line_plains}
use Rattle.proof_calm.proofs.Reading.{goods}
use Rattle.proof_calm.proofs.Requested.{moved_frames}
use Rattle.proof_calm.proofs.Serving.{Payloads, blank_rests, listed_named, next_asks, no_more_named}

-- ---- which events these are

covers_effect : (event : Event) → IsEffect event → CoversOuter IsQuietEvent event
covers_effect (Outside_does (Wakes_device node route)) is = tt
covers_effect (Outside_does (Shows node)) is = tt
covers_effect (Outside_does (Cuts size)) is = tt
covers_effect (Outside_does event) is = absurd is
covers_effect (Host_does event) is = tt
covers_effect event is = tt

covers_as : (event is : Event) → event ≡ is → CoversOuter IsQuietEvent is → CoversOuter IsQuietEvent event
covers_as event is same covers = subst (CoversOuter IsQuietEvent) (sym same) covers

pub covers_of : (here next : Phase) (m : Machine) (event : Event) → Goes here m event next → LineAt here m → CoversOuter IsQuietEvent event
covers_of (Said_line line) next m event (is, to) line_at = covers_as event _ is tt
covers_of (Doing line (first ∷ left)) next m event (is, to) line_at = covers_as event first is (covers_effect first line_at.0.0)
covers_of (To_tick (suc ticks)) next m event (is, to) line_at = covers_as event _ is tt
covers_of (Arriving (suc frames) ticks) next m event (drawn, route, is, to) line_at = covers_as event _ is tt
covers_of (Giving (suc results) ticks) next m event (route, is, to) line_at = covers_as event _ is tt
covers_of (Ticking_devices place (suc count) ticks) next m event (drawn, route, is, to) line_at = covers_as event _ is tt
covers_of (Ticking_chip ticks) next m event (is, to) line_at = covers_as event _ is tt
covers_of (Ticking_decoder ticks) next m event (is, to) line_at = covers_as event _ is tt
covers_of (Ticking_host (first ∷ events) ticks) next m event (is, to) line_at = covers_as event _ is tt
covers_of (Sleeping passes ticks) next m event (node, wants, is, to) line_at = covers_as event _ is tt
covers_of (Submitting passes ticks) next m event (asked, next_is, is, to) line_at = covers_as event _ is tt
covers_of (Moving passes ticks) next m event (rest, ways, is, to) line_at = covers_as event _ is tt
covers_of (Moved b passes ticks) next m event (rest, items, done, is, to) line_at = covers_as event _ is tt
covers_of here next m event goes line_at = absurd goes

-- ---- what the host knows

-- a host's wait on an idle line
pub line_counts_on : (Rests : NodeState → Type 0) (joined : List Bool) (h : HostState) → h.side.turn ≡ Idle → KnowsThese Rests joined h → KnowsThese Rests joined (after_host h Line_ticks)
line_counts_on Rests joined h idle knows =
    subst (λ (t : Turn). KnowsThese Rests joined (failing_if (gives_up t (turn_ticked t)) (line_ticked h))) (sym idle) (same_requests Rests joined h (line_ticked h) knows.others refl refl knows)

-- what an event makes of it: what the host knows, what it is asked, and what is still to be sealed
abbrev GoesOn : List Bool → Machine → Event → Type 0
GoesOn joined m event = KnowsMembers joined (happens m event).host.state × AsksWell m event × AllByRecursion HasShortPlain (happens m event).host.state.nodes

abbrev Plains : Machine → Type 0
Plains m = AllByRecursion HasShortPlain m.host.state.nodes

module _ (payloads : Payloads) (joined : List Bool) where
  abbrev Knows : Machine → Type 0
  Knows m = KnowsMembers joined m.host.state

  outer_known : (m : Machine) (event : OuterEvent) → Knows m → Plains m → GoesOn joined m (Outside_does event)
  unfolding happens
  outer_known m event knows plains = (knows, tt, plains)

  decoder_known : (m : Machine) → Knows m → Plains m → GoesOn joined m Decoder_ticks
  unfolding happens
  decoder_known m knows plains = (knows, tt, plains)

  does_named : (m : Machine) (event : HostEvent) → (MayHost m.host.state event → IsNamed joined event) → May m (Host_does event) → Knows m → Plains m → GoesOn joined m (Host_does event)
  unfolding happens May
  does_named m event named may knows plains =
      let is : IsNamed joined event = named may.0 in
      (event_knows IsBlank joined blank_rests payloads.segments m.host.state event is may.0 knows, event_asks joined m.host.state event is may.0 plains, event_plains joined m.host.state event is may.0 plains)

  does_known : (m : Machine) (event : HostEvent) → IsNamed joined event → May m (Host_does event) → Knows m → Plains m → GoesOn joined m (Host_does event)
  does_known m event named may knows plains = does_named m event (λ may_it. named) may knows plains

  line_known : (m : Machine) → m.host.state.side.turn ≡ Idle → Knows m → Plains m → GoesOn joined m (Host_does Line_ticks)
  unfolding happens
  line_known m idle knows plains = (line_counts_on IsBlank joined m.host.state idle knows, tt, line_plains m.host.state plains)

  effect_known : (m : Machine) (event : Event) → IsEffect event → May m event → Knows m → Plains m → GoesOn joined m event
  unfolding happens
  effect_known m (Outside_does event) is may knows plains = (knows, tt, plains)
  effect_known m (Host_does (Accepts order carriage)) is may knows plains =
      does_named m (Accepts order carriage) (λ may_it. listed_named joined m.host.state knows order.node may_it.classes may_it.listed) may knows plains
  effect_known m (Refuses line refusal) is may knows plains = (knows, tt, plains)
  effect_known m (Shows_values node) is may knows plains = (knows, tt, plains)
  effect_known m (Host_does event) is may knows plains = absurd is
  effect_known m event is may knows plains = absurd is

  node_known : (m : Machine) (event : HostEvent) → IsNodeTick event → May m (Host_does event) → Knows m → Plains m → GoesOn joined m (Host_does event)
  node_known m (Node_ticks n) is may knows plains = does_named m (Node_ticks n) (λ may_it. tt) may knows plains
  node_known m event is may knows plains = absurd is

  tick_known : (m : Machine) (first : HostEvent) (events : List HostEvent) → IsGiven 1 m → TiedInTick (first ∷ events) m → May m (Host_does first) → Knows m → Plains m → GoesOn joined m (Host_does first)
  tick_known m first events given at may knows plains = by at.left
    where
      as_first : (is : HostEvent) → first ≡ is → (May m (Host_does is) → GoesOn joined m (Host_does is)) → GoesOn joined m (Host_does first)
      as_first is same known = subst (λ (e : HostEvent). GoesOn joined m (Host_does e)) (sym same) (known (subst (λ (e : HostEvent). May m (Host_does e)) same may))

      by : TickLeft at.counted (first ∷ events) → GoesOn joined m (Host_does first)
      by (All nodes are is none) = let one : first ≡ Line_ticks = cc in as_first Line_ticks one (λ may_it. line_known m given.at_host.turn_is knows plains)
      by (Request nodes are is none) =
          let one : first ≡ Requests_do request_ticks BeforeItsTick = cc in as_first (Requests_do request_ticks BeforeItsTick) one (λ may_it. does_known m (Requests_do request_ticks BeforeItsTick) tt may_it knows plains)
      by (Nodes are done) = node_known m first are.0 may knows plains

-- what it judges makes it do
abbrev Took : List Bool → HostState → List HostEvent → Type 0
Took joined h events = KnowsMembers joined h × AllByRecursion FitsEvent events × AllByRecursion HasShortPlain h.nodes

takes_all : (payloads : Payloads) (joined : List Bool) (m : Machine) (count : ℕ) (rest : Rest) (items : List Item) (events : List HostEvent) → May m (Host_takes count rest items events)
    → AllByRecursion (IsNamed joined) events → KnowsMembers joined m.host.state → Plains m
    → Took joined (after_all m.host.state events) events
unfolding May
takes_all payloads joined m count rest items events may named knows plains = (
  all_know IsBlank joined blank_rests payloads.segments m.host.state events named may.may knows,
  all_ask joined m.host.state events named may.may plains,
  all_plains joined m.host.state events named may.may plains,
)

-- nothing, where nothing comes
takes_none : (m : Machine) (host turn : Turn) (frames : List FrameParts) (rest : Rest) (items : List Item) (events : List HostEvent) → OnLine [] [] host turn frames m
    → May m (Host_takes (length m.outside.outer.to_host.bytes) rest items events) → events ≡ []
unfolding May
takes_none m host turn frames rest items events line may =
    let none = fed_none m.outside.outer.to_host.bytes m.host.decoder rest items line.at_host.decoder line.at_chip.down_bytes may.feeds in
    subst (λ (l : List Item). AreJudged m.host.state l events) none.0 may.judged

pub judged_are : (m : Machine) (count : ℕ) (rest : Rest) (items : List Item) (events : List HostEvent) (units : List LineUnit) → May m (Host_takes count rest items events) → items ≡ goods units → AreJudged m.host.state (goods units) events
unfolding May
judged_are m count rest items events units may same = subst (λ (l : List Item). AreJudged m.host.state l events) same may.judged

-- so what is so of each event that follows a frame is so of all, where each frame is so that is on its way to the host
pub takes_are : (Is : HostEvent → Type 0) (Says : FrameParts → Type 0) (air : Airs) (b : Bool) (passes : ℕ) (m : Machine) (rest : Rest) (items : List Item) (events : List HostEvent) → EachFollows Is Says m.outside.outer.chip.state.joined
    → May m (Host_takes (length m.outside.outer.to_host.bytes) rest items events) → IsDone m ⊎ HasMoved b passes m → TieOf true m [] → AllByRecursion Says (unheard m.outside.outer) → AllByRecursion Is events
takes_are Is Says air b passes m rest items events follow may at tie says = by at
  where
    s : ChipState
    s = m.outside.outer.chip.state

    idles : (host turn : Turn) (frames : List FrameParts) → OnLine [] [] host turn frames m → AllByRecursion Is events
    idles host turn frames line = subst (AllByRecursion Is) (sym (takes_none m host turn frames rest items events line may)) tt

    judges : (down : List LineUnit) (has : HasMoved b passes m) → OnLine [] down has.host has.turn has.frames m → AllByRecursion IsPlain down → length down ≤ 99 → unheard m.outside.outer ≡ frames_in down ++ s.port.waiting → AllByRecursion Is events
    judges [] has line plain few frames_are = idles has.host has.turn has.frames line
    judges (unit ∷ units) has line plain few frames_are =
        let turned = host_turns air m unit units has.host has.turn has.frames rest items events plain (omega (arith, few)) line may in
        units_are (λ (h : HostState) (all : List HostEvent). AllByRecursion Is all) Says true s [] (each_follow Is Says s.joined follow) m.host.state (unit ∷ units) s.port.waiting events plain (judged_are m (length m.outside.outer.to_host.bytes) rest items events (unit ∷ units) may turned.2)
        (subst (λ (fs : List FrameParts). TieBy true (kept m.host.state) s fs []) frames_are tie) (subst (AllByRecursion Says) frames_are says)

    by : IsDone m ⊎ HasMoved b passes m → AllByRecursion Is events
    by (inl done) = idles Idle Idle [] done.line
    by (inr has) = judges has.down has has.line has.plain has.few (moved_frames b passes m has)

takes_known : (payloads : Payloads) (air : Airs) (b : Bool) (passes : ℕ) (m : Machine) (rest : Rest) (items : List Item) (events : List HostEvent) → May m (Host_takes (length m.outside.outer.to_host.bytes) rest items events)
    → IsDone m ⊎ HasMoved b passes m → TieOf true m [] → KnowsMembers m.outside.outer.chip.state.joined m.host.state → Plains m
    → GoesOn m.outside.outer.chip.state.joined m (Host_takes (length m.outside.outer.to_host.bytes) rest items events)
takes_known payloads air b passes m rest items events may at tie knows plains = by at
  where
    s : ChipState
    s = m.outside.outer.chip.state

    n : Machine
    n = happens m (Host_takes (length m.outside.outer.to_host.bytes) rest items events)

    idles : (host turn : Turn) (frames : List FrameParts) → OnLine [] [] host turn frames m → Took s.joined n.host.state events
    idles host turn frames line =
        let same = (host_idles m host turn frames rest items events line may).2 in
        (subst (KnowsMembers s.joined) (sym same) knows, subst (AllByRecursion FitsEvent) (sym (takes_none m host turn frames rest items events line may)) tt, subst (λ (h : HostState). AllByRecursion HasShortPlain h.nodes) (sym same) plains)

    judges : (down : List LineUnit) (has : HasMoved b passes m) → OnLine [] down has.host has.turn has.frames m → AllByRecursion IsPlain down → length down ≤ 99 → unheard m.outside.outer ≡ frames_in down ++ s.port.waiting → Took s.joined n.host.state events
    judges [] has line plain few frames_are = idles has.host has.turn has.frames line
    judges (unit ∷ units) has line plain few frames_are =
        let turned = host_turns air m unit units has.host has.turn has.frames rest items events plain (omega (arith, few)) line may in
        let named = units_named true s [] m.host.state (unit ∷ units) s.port.waiting events plain (judged_are m (length m.outside.outer.to_host.bytes) rest items events (unit ∷ units) may turned.2)
        (subst (λ (fs : List FrameParts). TieBy true (kept m.host.state) s fs []) frames_are tie) in
        let went = takes_all payloads s.joined m (length m.outside.outer.to_host.bytes) rest items events may named knows plains in
        (subst (KnowsMembers s.joined) (sym turned.3) went.0, went.1, subst (λ (h : HostState). AllByRecursion HasShortPlain h.nodes) (sym turned.3) went.2)

    by : IsDone m ⊎ HasMoved b passes m → Took s.joined n.host.state events
    by (inl done) = idles Idle Idle [] done.line
    by (inr has) = judges has.down has has.line has.plain has.few (moved_frames b passes m has)

-- ---- what it asks for next

pub next_asked : {these : List Bool} (payloads : Payloads) (m : Machine) (event : HostEvent) → IsNext m.host.state event → May m (Host_does event) → m.host.state.requests.owes ≡ false → IsPeopled these m
    → AsksAt m.outside.outer.chip.state.joined m.host.state event × IsNamed m.outside.outer.chip.state.joined event
unfolding May
next_asked payloads m event next may paid is = next_asks IsBlank blank_rests m.outside.outer.chip.state.joined m.host.state is.knows payloads is.facts is.fits event paid next may.0

-- ---- from phase to phase

module _ (payloads : Payloads) (air : Airs) (facts_kept : FactsKept) (opened : OpenedFacts) where
  known_as : (joined : List Bool) (m : Machine) (event is : Event) → event ≡ is → GoesOn joined m is → GoesOn joined m event
  known_as joined m event is same goes = subst (λ (e : Event). GoesOn joined m e) (sym same) goes

  known_on : {these : List Bool} (here next : Phase) (m : Machine) (event : Event) → Goes here m event next → May m event → LineAt here m → TieAt here m → IsPeopled these m → GoesOn m.outside.outer.chip.state.joined m event
  known_on (Said_line line) next m event (is, to) may line_at tie at = known_as _ m event _ is (outer_known payloads _ m _ at.knows at.plains)
  known_on (Doing line (first ∷ left)) next m event (is, to) may line_at tie at = known_as _ m event first is (effect_known payloads _ m first line_at.0.0 (subst (May m) is may) at.knows at.plains)
  known_on (To_tick (suc ticks)) next m event (is, to) may line_at tie at = known_as _ m event _ is (outer_known payloads _ m _ at.knows at.plains)
  known_on (Arriving (suc frames) ticks) next m event (drawn, route, is, to) may line_at tie at = known_as _ m event _ is (outer_known payloads _ m _ at.knows at.plains)
  known_on (Giving (suc results) ticks) next m event (route, is, to) may line_at tie at = known_as _ m event _ is (outer_known payloads _ m _ at.knows at.plains)
  known_on (Ticking_devices place (suc count) ticks) next m event (drawn, route, is, to) may line_at tie at = known_as _ m event _ is (outer_known payloads _ m _ at.knows at.plains)
  known_on (Ticking_chip ticks) next m event (is, to) may line_at tie at = known_as _ m event _ is (outer_known payloads _ m _ at.knows at.plains)
  known_on (Ticking_decoder ticks) next m event (is, to) may line_at tie at = known_as _ m event _ is (decoder_known payloads _ m at.knows at.plains)
  known_on (Ticking_host (first ∷ events) ticks) next m event (is, to) may line_at tie at =
      known_as _ m event _ is (tick_known payloads _ m first events line_at.1 tie (subst (May m) is may) at.knows at.plains)
  known_on (Sleeping passes ticks) next m event (node, wants, is, to) may line_at tie at =
      let e : HostEvent = no_more_event m.host.state node in
      known_as _ m event _ is (does_known payloads _ m e (no_more_named IsBlank blank_rests _ m.host.state at.knows node wants) (subst (May m) is may) at.knows at.plains)
  known_on (Submitting passes ticks) next m event (asked, next_is, is, to) may line_at tie at =
      let may_it : May m (Host_does asked) = subst (May m) is may in
      known_as _ m event _ is (does_known payloads _ m asked (next_asked payloads m asked next_is may_it tie.paid at).1 may_it at.knows at.plains)
  known_on (Moving passes ticks) next m event (rest, ways, is, to) may line_at tie at = known_as _ m event _ is (outer_known payloads _ m _ at.knows at.plains)
  known_on (Moved b passes ticks) next m event (rest, items, done, is, to) may line_at tie at =
      known_as _ m event _ is (takes_known payloads air b passes m rest items done (subst (May m) is may) line_at tie at.knows at.plains)
  known_on here next m event goes may line_at tie at = absurd goes

  pub peopled_on : {these : List Bool} (here next : Phase) (m : Machine) (event : Event) → Goes here m event next → May m event → IsAskedAt these event → LineAt here m → TieAt here m → IsPeopled these m
      → IsPeopled these (happens m event)
  peopled_on {these} here next m event goes may only line_at tie at =
      let n : Machine = happens m event in
      let covers = covers_of here next m event goes line_at in
      let joined : n.outside.outer.chip.state.joined ≡ m.outside.outer.chip.state.joined = ap (λ (is : Members). is.of_chip) (event_members (members m.outside.outer) m event covers may refl) in
      let goes_on = known_on here next m event goes may line_at tie at in
      let fit = (event_writes payloads.starts payloads.segments facts_kept opened m event (record { facts = at.facts; fits = at.fits }) may goes_on.1).1 in
      record {
        facts = fit.facts;
        fits = fit.fits;
        knows = subst (λ (l : List Bool). KnowsMembers l n.host.state) (sym joined) goes_on.0;
        plains = goes_on.2;
        speaks = subst (λ (l : List Bool). SpeaksHome l n.outside.outer) (sym joined) (event_speaks m.outside.outer.chip.state.joined m event covers may at.speaks);
        live = event_lives these m event covers only may at.live;
      }
