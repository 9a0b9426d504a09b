-- Each series stays at its first attempt from phase to phase, where payloads of the host are heard and the wait of no attempt runs out.
use Rattle.std.proofs.Common.{◌≡◌, ◌≤◌, ℕ, suc, Bool, true, false, inl, inr, List, [], ◌∷◌, ◌++◌, length, sym, ap, ◌∙◌, subst, arith}
use Rattle.std.specs.Prelude.{◌⊎◌}
use Rattle.std.specs.Option.{is_some}
use Rattle.std.specs.List.{AllByRecursion}
use Rattle.zw_text.specs.declared.entry.Entry.{Entry}
use Rattle.zw_text.specs.declared.entry.Entry.TheVariants as entry
use Rattle.serial_frame.specs.Frame.{FrameParts}
use Rattle.serial_frame.specs.Stream.{Rest}
use Rattle.serial_frame.specs.declared.item.Item.{Item}
use Rattle.serial_frame.specs.declared.unit.Unit.{Unit as LineUnit}
use Rattle.serial_link.specs.declared.turn.Turn.{Turn}
use Rattle.serial_link.specs.declared.turn.Turn.TheVariants.{Idle}
use Rattle.chip_sim.specs.State.{ChipState}
use Rattle.host_requests.specs.Events.{end_at}
use Rattle.host_requests.specs.Events.RequestsEvent.{Ticks as request_ticks}
use Rattle.host_requests.specs.Next.{at_tick, end_from}
use Rattle.host_node.specs.declared.attempt.Moment.TheVariants.{BeforeItsTick}
use Rattle.host_model.specs.After.{after}
use Rattle.host_model.specs.Did.{MayAll, after_all}
use Rattle.host_model.specs.Events.{HostEvent, Accepts, Line_ticks, Requests_do, Node_ticks, Begin_unkept}
use Rattle.host_model.specs.May.{May as MayHost}
use Rattle.host_model.specs.Pumping.{no_more_event}
use Rattle.host_model.specs.State.{HostState}
use Rattle.host_model.proofs.Submitted.{next_is, no_more_is}
use Rattle.outside_model.specs.Events.{OuterEvent, Begins_line, Begins_tick, Arrives, Gives, Device_ticks, Chip_ticks, Chip_takes}
use Rattle.world_model.specs.State.{Machine}
use Rattle.world_model.specs.Events.{Event, Outside_does, Host_does, Host_takes, Decoder_ticks, Refuses, Shows_values, happens, entries, May}
use Rattle.proof_calm.specs.proof_work.Phases.{AsksNothing}
use Rattle.proof_calm.specs.proof_work.proof_walk.Phases.{Phase, Said_line, Doing, To_tick, Arriving, Giving, Ticking_devices, Ticking_chip, Ticking_decoder, Ticking_host, Sleeping, Submitting, Moving, Moved, Goes}
use Rattle.proof_calm.specs.proof_work.proof_walk.Walk.{WalkWhere}
use Rattle.proof_calm.proofs.proof_traffic_Parts.{Airs}
use Rattle.proof_calm.specs.Awaited.{AwaitsAt, AwaitsNone}
use Rattle.proof_calm.specs.Passes.{IsPlain, OnLine, frames_in}
use Rattle.proof_calm.specs.Resting.{IsEffect, IsGiven, LineAt}
use Rattle.proof_calm.specs.Settling.{HasMoved, IsDone}
use Rattle.proof_calm.specs.Tied.{All, At_chip, Called, IsNodeTick, Nodes, Nowhere, On_way, Request, Tied, TiedInTick, TickLeft, TieAt, TieOf, ends_of, unheard}
use Rattle.proof_calm.proofs.Awaiting.{sends_nothing}
use Rattle.proof_calm.proofs.Following.{kept}
use Rattle.proof_calm.proofs.HostTurns.{host_turns}
use Rattle.proof_calm.proofs.Idle.{host_idles}
use Rattle.proof_calm.proofs.Judging.{TieBy}
use Rattle.proof_calm.proofs.Reading.{goods}
use Rattle.proof_calm.proofs.Requested.{moved_frames}
use Rattle.proof_calm.proofs.Peopled.{judged_are}
use Rattle.proof_answered.specs.Few.{IsStretched, Knows}
use Rattle.proof_answered.specs.FirstAttempts.{AllFirst, AndInTime, IsInTime, KnowFirst}
use Rattle.proof_answered.specs.Heard.{AllSayHeard}
use Rattle.proof_answered.proofs.AttemptEnds.{EndsWell, LastAll, LastsAt, event_first, fresh_well, units_last, unkept_first}
use Rattle.proof_answered.proofs.Walking.{stretched_before}

-- ---- what is so of the host stays so at each event of it at which no attempt ends without a report

-- so is it of the machine at each event
module _ (On : HostState → Type 0) (law : (h : HostState) (event : HostEvent) → LastsAt h event → MayHost h event → On h → On (after h event)) where
  abbrev First : Machine → Type 0
  First m = On m.host.state

  outer_first : (m : Machine) (event : OuterEvent) → First m → First (happens m (Outside_does event))
  unfolding happens
  outer_first m event all = all

  decoder_first : (m : Machine) → First m → First (happens m Decoder_ticks)
  unfolding happens
  decoder_first m all = all

  does_first : (m : Machine) (event : HostEvent) → LastsAt m.host.state event → May m (Host_does event) → First m → First (happens m (Host_does event))
  unfolding happens May
  does_first m event lasts may all = law m.host.state event lasts may.0 all

  effect_first : (m : Machine) (event : Event) → IsEffect event → May m event → First m → First (happens m event)
  unfolding happens
  effect_first m (Outside_does event) is may all = all
  effect_first m (Host_does (Accepts order carriage)) is may all = does_first m (Accepts order carriage) tt may all
  effect_first m (Refuses line refusal) is may all = all
  effect_first m (Shows_values node) is may all = all
  effect_first m (Host_does event) is may all = absurd is
  effect_first m event is may all = absurd is

  -- ---- the host's tick

  -- where no call is to come, the request under way does not fall silent
  pub request_well : (m : Machine) → AwaitsNone m → TieOf false m [] → EndsWell (end_at m.host.state.requests request_ticks)
  request_well m awaits tie = by tie.tied
    where
      h : HostState
      h = m.host.state

      s : ChipState
      s = m.outside.outer.chip.state

      by : Tied false (ends_of h s) (unheard m.outside.outer) [] → EndsWell (end_from at_tick h.requests.under_way)
      by (Nowhere is) = subst (λ (o : _). EndsWell (end_from at_tick o)) (sym is.none) tt
      by (On_way u of fresh is) = absurd (let no = is.asked in cc)
      by (At_chip u of fresh is) = absurd (let yes : is_some s.sending ≡ true = ap (λ (o : _). is_some o) is.is_sending in let no = sends_nothing m awaits in let wrong : true ≡ false = sym yes ∙ no in cc)
      by (Called u of fresh is) = subst (λ (o : _). EndsWell (end_from at_tick o)) (sym of.under_way) (fresh_well u fresh)

  unkept_on : (m : Machine) (k : ℕ) → On (after m.host.state (Begin_unkept k)) → First (happens m (Host_does (Begin_unkept k)))
  unfolding happens
  unkept_on m k all = all

  node_first : (m : Machine) (event : HostEvent) → IsNodeTick event → IsInTime m (Host_does event) → May m (Host_does event) → First m → First (happens m (Host_does event))
  node_first m (Node_ticks n) is in_time may all = does_first m (Node_ticks n) in_time may all
  node_first m event is in_time may all = absurd is

  tick_first : (m : Machine) (first : HostEvent) (events : List HostEvent) → IsGiven 1 m → AwaitsNone m → TiedInTick (first ∷ events) m → IsInTime m (Host_does first) → May m (Host_does first) → First m → First (happens m (Host_does first))
  tick_first m first events given awaits at in_time may all = by at.counted at.left at.tie
    where
      as_first : (is : HostEvent) → first ≡ is → (May m (Host_does is) → First (happens m (Host_does is))) → First (happens m (Host_does first))
      as_first is same goes = subst (λ (e : HostEvent). First (happens m (Host_does e))) (sym same) (goes (subst (λ (e : HostEvent). May m (Host_does e)) same may))

      by : (counted : Bool) → TickLeft counted (first ∷ events) → TieOf counted m [] → First (happens m (Host_does first))
      by counted (All nodes are is none) tie = let one : first ≡ Line_ticks = cc in as_first Line_ticks one (λ may_it. does_first m Line_ticks given.at_host.turn_is may_it all)
      by counted (Request nodes are is none) tie =
          let one : first ≡ Requests_do request_ticks BeforeItsTick = cc in
          as_first (Requests_do request_ticks BeforeItsTick) one (λ may_it. does_first m (Requests_do request_ticks BeforeItsTick) (request_well m awaits (subst (λ (b : Bool). TieOf b m []) none tie)) may_it all)
      by counted (Nodes are done) tie = node_first m first are.0 in_time may all

  -- ---- the host's part of a pass

  all_on : (h : HostState) (events : List HostEvent) → LastAll h events → MayAll h events → On h → On (after_all h events)
  all_on h [] last may on = on
  all_on h (event ∷ events) last may on = all_on (after h event) events last.1 may.1 (law h event last.0 may.0 on)

  takes_all : (m : Machine) (count : ℕ) (rest : Rest) (items : List Item) (events : List HostEvent) (s : ChipState) (units : List LineUnit) (waiting : List FrameParts) → May m (Host_takes count rest items events) → AllByRecursion IsPlain units
      → items ≡ goods units → TieBy true (kept m.host.state) s (frames_in units ++ waiting) [] → AllSayHeard (frames_in units ++ waiting) → First m → On (after_all m.host.state events)
  unfolding May
  takes_all m count rest items events s units waiting may plain same tie heard all =
      all_on m.host.state events (units_last true s [] m.host.state units waiting events plain (judged_are m count rest items events units may same) tie heard) may.may all

  takes_first : (air : Airs) (b : Bool) (passes : ℕ) (m : Machine) (rest : Rest) (items : List Item) (events : List HostEvent) → May m (Host_takes (length m.outside.outer.to_host.bytes) rest items events)
      → IsDone m ⊎ HasMoved b passes m → TieOf true m [] → AllSayHeard (unheard m.outside.outer) → First m → First (happens m (Host_takes (length m.outside.outer.to_host.bytes) rest items events))
  takes_first air b passes m rest items events may at tie heard all = by at
    where
      s : ChipState
      s = m.outside.outer.chip.state

      n : Machine
      n = happens m (Host_takes (length m.outside.outer.to_host.bytes) rest items events)

      idles : (host turn : Turn) (frames : List FrameParts) → OnLine [] [] host turn frames m → First n
      idles host turn frames line = subst On (sym (host_idles m host turn frames rest items events line may).2) all

      judges : (down : List LineUnit) (has : HasMoved b passes m) → OnLine [] down has.host has.turn has.frames m → AllByRecursion IsPlain down → length down ≤ 99 → unheard m.outside.outer ≡ frames_in down ++ s.port.waiting → First n
      judges [] has line plain few frames_are = idles has.host has.turn has.frames line
      judges (unit ∷ units) has line plain few frames_are =
          let turned = host_turns air m unit units has.host has.turn has.frames rest items events plain (omega (arith, few)) line may in
          subst On (sym turned.3)
          (takes_all m (length m.outside.outer.to_host.bytes) rest items events s (unit ∷ units) s.port.waiting may plain turned.2
          (subst (λ (fs : List FrameParts). TieBy true (kept m.host.state) s fs []) frames_are tie) (subst AllSayHeard frames_are heard) all)

      by : IsDone m ⊎ HasMoved b passes m → First n
      by (inl done) = idles Idle Idle [] done.line
      by (inr has) = judges has.down has has.line has.plain has.few (moved_frames b passes m has)

  -- ---- from phase to phase

  first_as : (m : Machine) (event is : Event) → event ≡ is → First (happens m is) → First (happens m event)
  first_as m event is same all = subst (λ (e : Event). First (happens m e)) (sym same) all

  pub first_on : (air : Airs) (here next : Phase) (m : Machine) (event : Event) → Goes here m event next → May m event → IsInTime m event → LineAt here m → AwaitsAt here m → TieAt here m → AllSayHeard (unheard m.outside.outer)
      → ((k : ℕ) → event ≡ Host_does (Begin_unkept k) → First m → On (after m.host.state (Begin_unkept k))) → First m → First (happens m event)
  first_on air (Said_line line) next m event (is, to) may in_time line_at awaits tie heard unkept all = first_as m event _ is (outer_first m Begins_line all)
  first_on air (Doing line (first ∷ left)) next m event (is, to) may in_time line_at awaits tie heard unkept all = first_as m event first is (effect_first m first line_at.0.0 (subst (May m) is may) all)
  first_on air (To_tick (suc ticks)) next m event (is, to) may in_time line_at awaits tie heard unkept all = first_as m event _ is (outer_first m Begins_tick all)
  first_on air (Arriving (suc frames) ticks) next m event (drawn, route, is, to) may in_time line_at awaits tie heard unkept all = first_as m event _ is (outer_first m (Arrives drawn route) all)
  first_on air (Giving (suc results) ticks) next m event (route, is, to) may in_time line_at awaits tie heard unkept all = first_as m event _ is (outer_first m (Gives route) all)
  first_on air (Ticking_devices place (suc count) ticks) next m event (drawn, route, is, to) may in_time line_at awaits tie heard unkept all = first_as m event _ is (outer_first m (Device_ticks place drawn route) all)
  first_on air (Ticking_chip ticks) next m event (is, to) may in_time line_at awaits tie heard unkept all = first_as m event _ is (outer_first m Chip_ticks all)
  first_on air (Ticking_decoder ticks) next m event (is, to) may in_time line_at awaits tie heard unkept all = first_as m event _ is (decoder_first m all)
  first_on air (Ticking_host (first ∷ events) ticks) next m event (is, to) may in_time line_at awaits tie heard unkept all =
      first_as m event _ is (tick_first m first events line_at.1 awaits tie (subst (IsInTime m) is in_time) (subst (May m) is may) all)
  first_on air (Sleeping passes ticks) next m event (node, wants, is, to) may in_time line_at awaits tie heard unkept all =
      let e : HostEvent = no_more_event m.host.state node in
      first_as m event _ is (does_first m e (no_more_is (LastsAt m.host.state) (record { queues = λ n. tt; drops = λ n. tt }) m.host.state node) (subst (May m) is may) all)
  first_on air (Submitting passes ticks) next m event (asked, next_is_so, is, to) may in_time line_at awaits tie heard unkept all =
      first_as m event _ is
      (next_is (λ (e : HostEvent). event ≡ Host_does e → May m (Host_does e) → First (happens m (Host_does e)))
      (record {
        abort = λ same may_it. does_first m _ tt may_it all;
        front = λ same may_it. does_first m _ tt may_it all;
        starts = λ n plan more payload same may_it. does_first m _ tt may_it all;
        text = λ n payload same may_it. does_first m _ tt may_it all;
        segment = λ n more payload same may_it. does_first m _ tt may_it all;
        begins = λ n session command same may_it. does_first m _ tt may_it all;
        unkept = λ n same may_it. unkept_on m n (unkept n same all);
      })
      m.host.state asked next_is_so is (subst (May m) is may))
  first_on air (Moving passes ticks) next m event (rest, ways, is, to) may in_time line_at awaits tie heard unkept all = first_as m event _ is (outer_first m (Chip_takes (length m.outside.outer.to_chip.bytes) rest ways) all)
  first_on air (Moved b passes ticks) next m event (rest, items, done, is, to) may in_time line_at awaits tie heard unkept all =
      first_as m event _ is (takes_first air b passes m rest items done (subst (May m) is may) line_at tie heard all)
  first_on air here next m event goes may in_time line_at awaits tie heard unkept all = absurd goes

-- ---- the walk, over each that knows where the request is and what calls say

-- what is said of the text: that it is a stretch, and so was each part of it from the beginning on
pub record IsOfStretch (Is : List Entry → Type 0) : Type 0 where
  pub before : (past told : List Entry) → Is (past ++ told) → Is past
  pub stretched : (past : List Entry) → Is past → IsStretched past

module _ (air : Airs) (Has : Machine → Event → Type 0) (Is : List Entry → Type 0) (of_stretch : IsOfStretch Is) (theirs : Machine → List Bool) (Ground : Phase → List Entry → Machine → Type 0) (walk : WalkWhere Has AsksNothing Ground)
    (says : (here : Phase) (past : List Entry) (m : Machine) → Ground here past m → Is past → Knows (theirs m) here past m × AllSayHeard (unheard m.outside.outer)) where
  does_all : (here next : Phase) (past : List Entry) (m : Machine) (event : Event) → Goes here m event next → May m event → IsInTime m event → Is (past ++ entries m event) → KnowFirst Is Ground here past m → AllFirst (happens m event).host.state
  does_all here next past m event goes may in_time is known =
      let before = of_stretch.before past (entries m event) is in
      let at = says here past m known.0 before in
      let tied = at.0.tied (of_stretch.stretched past before).quiet in
      first_on AllFirst event_first air here next m event goes may in_time tied.0 tied.1 tied.6 at.1 (λ k same all. unkept_first m.host.state k all) (known.1 before)

  pub first_walk : WalkWhere (AndInTime Has) AsksNothing (KnowFirst Is Ground)
  first_walk = record {
    said = λ past m words line read known. let on = walk.said past m words line read known.0 in (on.0, (on.1, λ is. known.1 (of_stretch.before past (entry.Said words ∷ []) is)));
    event = λ here next past m event goes may has known.
        let on = walk.event here next past m event goes may has.0 known.0 in
        (on.0, (on.1, λ is. does_all here next past m event goes may has.1 is known));
    turn = λ here next past m turns known. (walk.turn here next past m turns known.0, known.1);
  }

-- a stretch whatever its lines ask for
pub any_stretch : IsOfStretch IsStretched
any_stretch = record { before = stretched_before; stretched = λ past is. is }
