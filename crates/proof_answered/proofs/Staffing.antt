-- A host that has to do with some nodes alone: what it judges and submits is for these, and so is what the chip puts on the air.
use Rattle.std.proofs.Common.{◌≡◌, ◌≤◌, ℕ, suc, ◌&&◌, Bool, true, false, inl, inr, List, [], ◌∷◌, ◌++◌, map, length, sym, ap, ◌∙◌, subst, arith, refl}
use Rattle.std.specs.Prelude.{◌⊎◌, Option, Some, None, ◌==◌}
use Rattle.std.specs.Option.{is_some}
use Rattle.std.specs.List.{AllByRecursion}
use Rattle.zw_base.proofs.Each.{all-both, all-left, all-right}
use Rattle.zw_text.specs.declared.entry.Entry.TheVariants as entry
use Rattle.serial_frame.specs.Frame.{FrameParts}
use Rattle.serial_frame.specs.Stream.{Rest}
use Rattle.serial_frame.specs.declared.item.Item.{Item}
use Rattle.serial_frame.specs.declared.item.Item.TheVariants.{Good}
use Rattle.serial_frame.specs.declared.unit.Unit.{Unit as LineUnit}
use Rattle.serial_frame.specs.declared.unit.Unit.TheVariants.{Ack, Framed}
use Rattle.serial_link.specs.declared.turn.Turn.{Turn}
use Rattle.serial_link.specs.declared.turn.Turn.TheVariants.{Idle as no_turn, Copied}
use Rattle.route_table.specs.declared.route.Route.{Route}
use Rattle.chip_functions.specs.declared.request.Request.{Request as ChipRequest}
use Rattle.chip_functions.specs.declared.request.Request.TheVariants.{SendData}
use Rattle.chip_sim.specs.Nodes.{is_marked}
use Rattle.chip_sim.specs.Requests.{asked}
use Rattle.chip_sim.specs.State.{ChipState}
use Rattle.host_requests.specs.Events.RequestsEvent.{Ticks as request_ticks}
use Rattle.host_requests.specs.Frames.{frame_of, request_frame, request_of, send}
use Rattle.host_requests.specs.declared.task.Purpose.{Purpose}
use Rattle.host_requests.specs.declared.task.Purpose.TheVariants.{Attempt, Housekeeping, Abort}
use Rattle.host_requests.specs.declared.task.Task.{Task}
use Rattle.host_requests.specs.declared.task.Task.TheVariants.{NoMore, Offer, Segment}
use Rattle.host_requests.specs.declared.under_way.UnderWay.{UnderWay}
use Rattle.host_node.specs.State.{NodeState, has_waiting, is_false, is_idle, is_unasked, wants_no_more}
use Rattle.host_node.specs.declared.attempt.Moment.TheVariants.{BeforeItsTick}
use Rattle.host_model.specs.Did.{after_all}
use Rattle.host_model.specs.Events.{HostEvent, Accepts, Line_ticks, Requests_do, Node_ticks}
use Rattle.host_model.specs.Pumping.{IsNext, no_more_event}
use Rattle.outside_model.specs.Events.{OuterEvent, Begins_line, Begins_tick, Arrives, Gives, Device_ticks, Chip_ticks, Chip_takes, Cuts, Shows, Wakes_device, May as MayOutside}
use Rattle.outside_model.specs.State.{OuterState}
use Rattle.world_model.specs.State.{Machine}
use Rattle.world_model.specs.Events.{Event, Outside_does, Host_does, Host_takes, Decoder_ticks, Refuses, Shows_values, happens, entries, May}
use Rattle.proof_calm.specs.proof_work.Phases.{AsksNothing}
use Rattle.proof_calm.specs.proof_work.proof_walk.Phases.{Phase, Said_line, Doing, To_tick, Arriving, Giving, Ticking_devices, Ticking_chip, Ticking_decoder, Ticking_host, Sleeping, Submitting, Moving, Moved, Goes}
use Rattle.proof_calm.specs.proof_work.proof_walk.Walk.{WalkWhere}
use Rattle.proof_calm.proofs.proof_traffic_Parts.{Airs}
use Rattle.proof_calm.specs.Known.{AsksToSend, IsPurposeFor, IsRequestFor, IsTaskFor}
use Rattle.proof_calm.specs.Passes.{ChipMayTake, IsPlain, OnLine, frames_in}
use Rattle.proof_calm.specs.Resting.{CanMove, IsEffect, IsGiven, LineAt}
use Rattle.proof_calm.specs.Settling.{Line as TheLine, Free, Asks, Heard, Heard_asks, Sent, Sent_asks, HasMoved, IsDone, Moves}
use Rattle.proof_calm.specs.Live.{AreAskedFor, AsksFor}
use Rattle.proof_calm.specs.Tied.{All, Answers, At_chip, Brings, Called, Informs, IsNodeTick, IsPeopled, LeaveIt, LeavesIt, Nodes, Nowhere, On_way, Request, Tied, TiedInTick, TickLeft, TieAt, TieOf, on_line, unheard}
use Rattle.proof_calm.proofs.ChipPart.{two_ways}
use Rattle.proof_calm.proofs.ChipTurns.{one_way}
use Rattle.proof_calm.proofs.Ending.{OfHost}
use Rattle.proof_calm.proofs.Following.{kept}
use Rattle.proof_calm.proofs.HostTurns.{host_turns}
use Rattle.proof_calm.proofs.Idle.{fed_none, host_idles, no_ways}
use Rattle.proof_calm.proofs.Judging.{TieBy, ends_by, units_named}
use Rattle.proof_calm.proofs.Knowing.{IsNamed, Resting, StaysSo, all_know, event_knows, tick_so}
use Rattle.proof_calm.proofs.Payloads.{asked_send}
use Rattle.proof_calm.proofs.Peopled.{judged_are, line_counts_on}
use Rattle.proof_calm.proofs.Reading.{fed_units}
use Rattle.proof_calm.proofs.Requested.{moved_frames}
use Rattle.proof_calm.proofs.Serving.{Payloads, next_asks, no_more_named, none_works}
use Rattle.proof_calm.proofs.Unmarked.{nothing_asked}
use Rattle.proof_answered.specs.Heard.{IsHeardFor, KnowHeard}
use Rattle.proof_answered.specs.Outward.{IsSentTo}
use Rattle.proof_answered.specs.Workers.{AllFrom, IsFrom, IsStill, IsWorkFor, IsWorkHeard, KnowsWorkers, KnowWorkers}
use Rattle.proof_answered.proofs.Walking.{stretched_before}

-- ---- a node for which nothing is to be done

still_so : StaysSo IsStill
still_so = record {
  idle = λ n still. still.idle;
  none_waits = λ n still. still.none_waits;
  holds = λ n still. record { idle = still.idle; none_waits = still.none_waits; rests = still.rests };
  again = λ n ticks still. record { idle = still.idle; none_waits = still.none_waits; rests = still.rests };
  waits = λ n ticks still. record { idle = still.idle; none_waits = still.none_waits; rests = still.rests };
}

none_wants : (a b c d e f g : Bool) → (a && b && c) ≡ false → (a && b && c && d && e && f && g) ≡ true → ⊥
none_wants true true true d e f g none wants = absurd (let no : true ≡ false = none in cc)
none_wants true true false d e f g none wants = absurd (let no : false ≡ true = wants in cc)
none_wants true false c d e f g none wants = absurd (let no : false ≡ true = wants in cc)
none_wants false b c d e f g none wants = absurd (let no : false ≡ true = wants in cc)

pub still_wants : (n : NodeState) → IsStill n → wants_no_more n ≡ true → ⊥
still_wants n still wants = none_wants n.awake (is_false n.listens) (is_some n.classes) (is_unasked n.no_more) (is_false (has_waiting n)) (is_idle n.series) (n.hold == 0) still.rests wants

pub still_rests : Resting IsStill
still_rests = record { ticks = tick_so IsStill still_so; works = λ n still. none_works n still.idle still.none_waits; wants = still_wants }

-- ---- the request, of these nodes

module _ (these : List Bool) where
  leaves_these : (joined : List Bool) (frame : FrameParts) → LeavesIt joined frame → IsFrom these frame → LeavesIt these frame
  leaves_these joined frame (Answers is) from = Answers is
  leaves_these joined frame (Brings n payload member some is) from = Brings n payload (record { is_node = member.is_node; is_joined = from n payload is }) some is
  leaves_these joined frame (Informs update is) from = Informs update is

  leave_these : (joined : List Bool) (frames : List FrameParts) → LeaveIt joined frames → AllFrom these frames → LeaveIt these frames
  leave_these joined frames leave from = all-both (LeavesIt joined) (IsFrom these) (LeavesIt these) (leaves_these joined) frames leave from

  task_asks : (task : Task) (id node : ℕ) (payload : List ℕ) → IsTaskFor these task → request_of (Housekeeping task) id ≡ send node payload id → is_marked these node ≡ true
  task_asks (Offer n nonce) id node payload is asks = let same : n ≡ node = cc in subst (λ (k : ℕ). is_marked these k ≡ true) same is.is_joined
  task_asks (Segment n text) id node payload is asks = let same : n ≡ node = cc in subst (λ (k : ℕ). is_marked these k ≡ true) same is.0.is_joined
  task_asks (NoMore n) id node payload is asks = let same : n ≡ node = cc in subst (λ (k : ℕ). is_marked these k ≡ true) same is.is_joined
  task_asks task id node payload is asks = absurd is

  purpose_asks : (purpose : Purpose) (id node : ℕ) (payload : List ℕ) → IsPurposeFor these purpose → request_of purpose id ≡ send node payload id → is_marked these node ≡ true
  purpose_asks (Attempt n more text) id node payload is asks = let same : n ≡ node = cc in subst (λ (k : ℕ). is_marked these k ≡ true) same is.is_joined
  purpose_asks (Housekeeping task) id node payload is asks = task_asks task id node payload is asks
  purpose_asks Abort id node payload is asks = absurd is

  asks_these : (joined : List Bool) (purpose : Purpose) (id : ℕ) → IsPurposeFor these purpose → AsksToSend joined purpose id → AsksToSend these purpose id
  asks_these joined purpose id is asks = record {
    node = asks.node;
    payload = asks.payload;
    is = asks.is;
    is_node = asks.is_node;
    some = asks.some;
    few = asks.few;
    is_joined = purpose_asks purpose id asks.node asks.payload is asks.is;
  }

  abbrev with_these : ChipState → ChipState
  with_these s = record s { joined = these }

  these_tied : (counted : Bool) (k : OfHost) (s : ChipState) (pending asking : List FrameParts) → AllFrom these pending → IsRequestFor these k.1 → TieBy counted k s pending asking → TieBy counted k (with_these s) pending asking
  unfolding asks_these
  these_tied counted k s pending asking from for_these tie = record { paid = tie.paid; tied = by tie.tied }
    where
      is_for : (u : UnderWay) → k.1 ≡ Some u → IsPurposeFor these u.purpose
      is_for u is = subst (IsRequestFor these) is for_these

      by : Tied counted (ends_by k s) pending asking → Tied counted (ends_by k (with_these s)) pending asking
      by (Nowhere is) = Nowhere (record { none = is.none; idle = is.idle; leave = leave_these s.joined pending is.leave from; nothing = is.nothing })
      by (On_way u of fresh is) = On_way u (record { under_way = of.under_way; sends = of.sends }) fresh (record {
        idle = is.idle;
        leave = leave_these s.joined pending is.leave from;
        asked = is.asked;
        asks = asks_these s.joined u.purpose k.3 (is_for u of.under_way) is.asks;
        from = is.from;
        to = is.to;
      })
      by (At_chip u of fresh is) = At_chip u (record { under_way = of.under_way; sends = of.sends }) fresh (record {
        asks = asks_these s.joined u.purpose k.3 (is_for u of.under_way) is.asks;
        is_sending = is.is_sending;
        answered = is.answered;
        leave = leave_these s.joined pending is.leave from;
        nothing = is.nothing;
      })
      by (Called u of fresh is) =
          let parts = subst (AllFrom these) is.are from in
          Called u (record { under_way = of.under_way; sends = of.sends }) fresh (record {
            idle = is.idle;
            before = is.before;
            status = is.status;
            behind = is.behind;
            are = is.are;
            before_leave = leave_these s.joined is.before is.before_leave (all-left (IsFrom these) is.before _ parts);
            behind_leave = leave_these s.joined is.behind is.behind_leave (all-right (IsFrom these) is.before _ parts).1;
            nothing = is.nothing;
          })

-- ---- each event of the host

module _ (payloads : Payloads) (these : List Bool) where
  abbrev Knows : Machine → Type 0
  Knows m = KnowsWorkers these m.host.state

  outer_staffed : (m : Machine) (event : OuterEvent) → Knows m → Knows (happens m (Outside_does event))
  unfolding happens
  outer_staffed m event knows = knows

  decoder_staffed : (m : Machine) → Knows m → Knows (happens m Decoder_ticks)
  unfolding happens
  decoder_staffed m knows = knows

  does_staffed : (m : Machine) (event : HostEvent) → IsNamed these event → May m (Host_does event) → Knows m → Knows (happens m (Host_does event))
  unfolding happens May
  does_staffed m event named may knows = event_knows IsStill these still_rests payloads.segments m.host.state event named may.0 knows

  line_staffed : (m : Machine) → m.host.state.side.turn ≡ no_turn → Knows m → Knows (happens m (Host_does Line_ticks))
  unfolding happens
  line_staffed m idle knows = line_counts_on IsStill these m.host.state idle knows

  effect_staffed : (m : Machine) (event : Event) → IsEffect event → IsWorkFor these m event → May m event → Knows m → Knows (happens m event)
  unfolding happens
  effect_staffed m (Outside_does event) is work may knows = knows
  effect_staffed m (Host_does (Accepts order carriage)) is work may knows = does_staffed m (Accepts order carriage) work may knows
  effect_staffed m (Refuses line refusal) is work may knows = knows
  effect_staffed m (Shows_values node) is work may knows = knows
  effect_staffed m (Host_does event) is work may knows = absurd is
  effect_staffed m event is work may knows = absurd is

  node_staffed : (m : Machine) (event : HostEvent) → IsNodeTick event → May m (Host_does event) → Knows m → Knows (happens m (Host_does event))
  node_staffed m (Node_ticks n) is may knows = does_staffed m (Node_ticks n) tt may knows
  node_staffed m event is may knows = absurd is

  tick_staffed : (m : Machine) (first : HostEvent) (events : List HostEvent) → IsGiven 1 m → TiedInTick (first ∷ events) m → May m (Host_does first) → Knows m → Knows (happens m (Host_does first))
  tick_staffed m first events given at may knows = by at.left
    where
      as_first : (is : HostEvent) → first ≡ is → (May m (Host_does is) → Knows (happens m (Host_does is))) → Knows (happens m (Host_does first))
      as_first is same goes = subst (λ (e : HostEvent). Knows (happens m (Host_does e))) (sym same) (goes (subst (λ (e : HostEvent). May m (Host_does e)) same may))

      by : TickLeft at.counted (first ∷ events) → Knows (happens m (Host_does first))
      by (All nodes are is none) = let one : first ≡ Line_ticks = cc in as_first Line_ticks one (λ may_it. line_staffed m given.at_host.turn_is knows)
      by (Request nodes are is none) =
          let one : first ≡ Requests_do request_ticks BeforeItsTick = cc in
          as_first (Requests_do request_ticks BeforeItsTick) one (λ may_it. does_staffed m (Requests_do request_ticks BeforeItsTick) tt may_it knows)
      by (Nodes are done) = node_staffed m first are.0 may knows

  -- what it judges
  all_staffed : (m : Machine) (count : ℕ) (rest : Rest) (items : List Item) (events : List HostEvent) → May m (Host_takes count rest items events) → AllByRecursion (IsNamed these) events → Knows m
      → KnowsWorkers these (after_all m.host.state events)
  unfolding May
  all_staffed m count rest items events may named knows = all_know IsStill these still_rests payloads.segments m.host.state events named may.may knows

  takes_staffed : (air : Airs) (b : Bool) (passes : ℕ) (m : Machine) (rest : Rest) (items : List Item) (events : List HostEvent) → May m (Host_takes (length m.outside.outer.to_host.bytes) rest items events)
      → IsDone m ⊎ HasMoved b passes m → TieOf true m [] → AllFrom these (unheard m.outside.outer) → Knows m → Knows (happens m (Host_takes (length m.outside.outer.to_host.bytes) rest items events))
  takes_staffed air b passes m rest items events may at tie from knows = by at
    where
      s : ChipState
      s = m.outside.outer.chip.state

      n : Machine
      n = happens m (Host_takes (length m.outside.outer.to_host.bytes) rest items events)

      idles : (host turn : Turn) (frames : List FrameParts) → OnLine [] [] host turn frames m → Knows n
      idles host turn frames line = subst (KnowsWorkers these) (sym (host_idles m host turn frames rest items events line may).2) knows

      judges : (down : List LineUnit) (has : HasMoved b passes m) → OnLine [] down has.host has.turn has.frames m → AllByRecursion IsPlain down → length down ≤ 99 → unheard m.outside.outer ≡ frames_in down ++ s.port.waiting → Knows n
      judges [] has line plain few frames_are = idles has.host has.turn has.frames line
      judges (unit ∷ units) has line plain few frames_are =
          let turned = host_turns air m unit units has.host has.turn has.frames rest items events plain (omega (arith, few)) line may in
          let same_tie = subst (λ (fs : List FrameParts). TieBy true (kept m.host.state) s fs []) frames_are tie in
          let named = units_named true (with_these these s) [] m.host.state (unit ∷ units) s.port.waiting events plain (judged_are m (length m.outside.outer.to_host.bytes) rest items events (unit ∷ units) may turned.2)
          (these_tied these true (kept m.host.state) s (frames_in (unit ∷ units) ++ s.port.waiting) [] (subst (AllFrom these) frames_are from) knows.request same_tie) in
          subst (KnowsWorkers these) (sym turned.3) (all_staffed m (length m.outside.outer.to_host.bytes) rest items events may named knows)

      by : IsDone m ⊎ HasMoved b passes m → Knows n
      by (inl done) = idles no_turn no_turn [] done.line
      by (inr has) = judges has.down has has.line has.plain has.few (moved_frames b passes m has)

  -- ---- from phase to phase

  staffed_as : (m : Machine) (event is : Event) → event ≡ is → Knows (happens m is) → Knows (happens m event)
  staffed_as m event is same knows = subst (λ (e : Event). Knows (happens m e)) (sym same) knows

  submits_named : (m : Machine) (event : HostEvent) → IsNext m.host.state event → May m (Host_does event) → m.host.state.requests.owes ≡ false → IsPeopled these m → Knows m → IsNamed these event
  unfolding May
  submits_named m event next may paid is knows = (next_asks IsStill still_rests these m.host.state knows payloads is.facts is.fits event paid next may.0).1

  staffed_on : (air : Airs) (here next : Phase) (m : Machine) (event : Event) → Goes here m event next → May m event → IsWorkFor these m event → LineAt here m → TieAt here m → IsPeopled these m → Knows m → Knows (happens m event)
  staffed_on air (Said_line line) next m event (is, to) may work line_at tie at knows = staffed_as m event _ is (outer_staffed m Begins_line knows)
  staffed_on air (Doing line (first ∷ left)) next m event (is, to) may work line_at tie at knows =
      staffed_as m event first is (effect_staffed m first line_at.0.0 (subst (IsWorkFor these m) is work) (subst (May m) is may) knows)
  staffed_on air (To_tick (suc ticks)) next m event (is, to) may work line_at tie at knows = staffed_as m event _ is (outer_staffed m Begins_tick knows)
  staffed_on air (Arriving (suc frames) ticks) next m event (drawn, route, is, to) may work line_at tie at knows = staffed_as m event _ is (outer_staffed m (Arrives drawn route) knows)
  staffed_on air (Giving (suc results) ticks) next m event (route, is, to) may work line_at tie at knows = staffed_as m event _ is (outer_staffed m (Gives route) knows)
  staffed_on air (Ticking_devices place (suc count) ticks) next m event (drawn, route, is, to) may work line_at tie at knows = staffed_as m event _ is (outer_staffed m (Device_ticks place drawn route) knows)
  staffed_on air (Ticking_chip ticks) next m event (is, to) may work line_at tie at knows = staffed_as m event _ is (outer_staffed m Chip_ticks knows)
  staffed_on air (Ticking_decoder ticks) next m event (is, to) may work line_at tie at knows = staffed_as m event _ is (decoder_staffed m knows)
  staffed_on air (Ticking_host (first ∷ events) ticks) next m event (is, to) may work line_at tie at knows =
      staffed_as m event _ is (tick_staffed m first events line_at.1 tie (subst (May m) is may) knows)
  staffed_on air (Sleeping passes ticks) next m event (node, wants, is, to) may work line_at tie at knows =
      let e : HostEvent = no_more_event m.host.state node in
      staffed_as m event _ is (does_staffed m e (no_more_named IsStill still_rests these m.host.state knows node wants) (subst (May m) is may) knows)
  staffed_on air (Submitting passes ticks) next m event (asked_is, next_is, is, to) may work line_at tie at knows =
      let may_it : May m (Host_does asked_is) = subst (May m) is may in
      staffed_as m event _ is (does_staffed m asked_is (submits_named m asked_is next_is may_it tie.paid at knows) may_it knows)
  staffed_on air (Moving passes ticks) next m event (rest, ways, is, to) may work line_at tie at knows = staffed_as m event _ is (outer_staffed m (Chip_takes (length m.outside.outer.to_chip.bytes) rest ways) knows)
  staffed_on air (Moved b passes ticks) next m event (rest, items, done, is, to) may work line_at tie at knows =
      staffed_as m event _ is (takes_staffed air b passes m rest items done (subst (May m) is may) line_at tie (subst (IsWorkFor these m) is work) knows)
  staffed_on air here next m event goes may work line_at tie at knows = absurd goes

-- ---- what the chip sends

-- the frame of the host's own is the request under way
request_marked : (these : List Bool) (k : OfHost) (s : ChipState) (frame : FrameParts) (pending : List FrameParts) → IsRequestFor these k.1 → TieBy true k s pending (frame ∷ []) → (n : ℕ) (payload : List ℕ) (options id : ℕ)
    → asked frame ≡ Some (SendData n payload options id) → is_marked these n ≡ true
request_marked these k s frame pending for_these tie n payload options id is_asked = by tie.tied
  where
    by : Tied true (ends_by k s) pending (frame ∷ []) → is_marked these n ≡ true
    by (Nowhere is) = absurd (let no : frame ∷ [] ≡ [] = is.nothing in cc)
    by (At_chip u of fresh is) = absurd (let no : frame ∷ [] ≡ [] = is.nothing in cc)
    by (Called u of fresh is) = absurd (let no : frame ∷ [] ≡ [] = is.nothing in cc)
    by (On_way u of fresh is) =
        let asks : AsksToSend s.joined u.purpose k.3 = is.asks in
        let one : frame ∷ [] ≡ frame_of u.purpose k.3 ∷ [] = is.asked in
        let frame_is : frame ≡ frame_of u.purpose k.3 = cc in
        let read : asked frame ≡ Some (send asks.node asks.payload k.3) =
        ap asked (frame_is ∙ ap request_frame asks.is) ∙ asked_send asks.node asks.payload k.3 asks.is_node asks.some is.from is.to in
        let both : Some (SendData n payload options id) ≡ Some (send asks.node asks.payload k.3) = sym is_asked ∙ read in
        let same : n ≡ asks.node = cc in
        subst (λ (j : ℕ). is_marked these j ≡ true) (sym same)
        (purpose_asks these u.purpose k.3 asks.node asks.payload (subst (IsRequestFor these) of.under_way for_these) asks.is)

asks_of : (these : List Bool) (request : Option ChipRequest) → ((n : ℕ) (payload : List ℕ) (options id : ℕ) → request ≡ Some (SendData n payload options id) → is_marked these n ≡ true) → AsksFor these request
asks_of these None marked = tt
asks_of these (Some (SendData n payload options id)) marked = marked n payload options id refl
asks_of these (Some request) marked = tt

module _ (these : List Bool) where
  ack_sent : (ways : List (Item × Option Route)) → map (λ (w : Item × Option Route). w.0) ways ≡ Good Ack ∷ [] → AreAskedFor these ways
  ack_sent ways are = let one = one_way ways (Good Ack) are in subst (AreAskedFor these) (sym one.1) (tt, tt)

  module _ (frame : FrameParts) (marked : (n : ℕ) (payload : List ℕ) (options id : ℕ) → asked frame ≡ Some (SendData n payload options id) → is_marked these n ≡ true) where
    frame_sent : (ways : List (Item × Option Route)) → map (λ (w : Item × Option Route). w.0) ways ≡ Good (Framed frame) ∷ [] → AreAskedFor these ways
    frame_sent ways are = let one = one_way ways (Good (Framed frame)) are in subst (AreAskedFor these) (sym one.1) (asks_of these (asked frame) marked, tt)

    ack_frame_sent : (ways : List (Item × Option Route)) → map (λ (w : Item × Option Route). w.0) ways ≡ Good Ack ∷ Good (Framed frame) ∷ [] → AreAskedFor these ways
    ack_frame_sent ways are = let two = two_ways ways (Good Ack) (Good (Framed frame)) are in subst (AreAskedFor these) (sym two.2) (tt, (asks_of these (asked frame) marked, tt))

-- so where a frame that the host begins to write asks for one of these
abbrev AsksForThese : List Bool → Machine → Type 0
AsksForThese these m =
    (frame : FrameParts) → m.host.state.side.turn ≡ Copied frame 1 0 → (n : ℕ) (payload : List ℕ) (options id : ℕ) → asked frame ≡ Some (SendData n payload options id) → is_marked these n ≡ true

part_sent : (these : List Bool) (m : Machine) (line : TheLine m) (rest : Rest) (ways : List (Item × Option Route)) → Moves line → ChipMayTake m rest ways → AsksForThese these m → AreAskedFor these ways
unfolding May MayOutside
part_sent these m line rest ways moves may marked = by line moves
  where
    o : OuterState
    o = m.outside.outer

    items : List Item
    items = map (λ (w : Item × Option Route). w.0) ways

    by : (at : TheLine m) → Moves at → AreAskedFor these ways
    by (Free at) moves = absurd moves
    by (Asks frame fits at) moves =
        let fed = fed_units (Framed frame) [] o.to_chip.bytes o.chip.decoder rest items (fits, tt) at.at_chip.decoder at.at_chip.up_bytes may.1.feeds in
        frame_sent these frame (marked frame at.at_host.turn_is) ways fed.0
    by (Heard first ticks frames at) moves =
        let fed = fed_units Ack [] o.to_chip.bytes o.chip.decoder rest items (tt, tt) at.at_chip.decoder at.at_chip.up_bytes may.1.feeds in
        ack_sent these ways fed.0
    by (Heard_asks frame first ticks frames fits at) moves =
        let fed = fed_units Ack (Framed frame ∷ []) o.to_chip.bytes o.chip.decoder rest items (tt, (fits, tt)) at.at_chip.decoder at.at_chip.up_bytes may.1.feeds in
        ack_frame_sent these frame (marked frame at.at_host.turn_is) ways fed.0
    by (Sent first ticks frames at) moves =
        let fed = fed_none o.to_chip.bytes o.chip.decoder rest items at.at_chip.decoder at.at_chip.up_bytes may.1.feeds in
        subst (AreAskedFor these) (sym (no_ways ways fed.0)) tt
    by (Sent_asks frame first ticks frames fits at) moves =
        let fed = fed_units (Framed frame) [] o.to_chip.bytes o.chip.decoder rest items (fits, tt) at.at_chip.decoder at.at_chip.up_bytes may.1.feeds in
        frame_sent these frame (marked frame at.at_host.turn_is) ways fed.0

none_sent : (these : List Bool) (m : Machine) (rest : Rest) (ways : List (Item × Option Route)) → IsDone m → ChipMayTake m rest ways → AreAskedFor these ways
unfolding May MayOutside
none_sent these m rest ways done may =
    let o : OuterState = m.outside.outer in
    let at = done.line.at_chip in
    let fed = fed_none o.to_chip.bytes o.chip.decoder rest (map (λ (w : Item × Option Route). w.0) ways) at.decoder at.up_bytes may.1.feeds in
    subst (AreAskedFor these) (sym (no_ways ways fed.0)) tt

either_sent : (these : List Bool) (passes : ℕ) (m : Machine) (rest : Rest) (ways : List (Item × Option Route)) → IsDone m ⊎ CanMove passes m → ChipMayTake m rest ways → AsksForThese these m → AreAskedFor these ways
either_sent these passes m rest ways (inl done) may marked = none_sent these m rest ways done may
either_sent these passes m rest ways (inr can) may marked = part_sent these m can.live.line rest ways can.moves may marked

taken_sent : (these : List Bool) (passes : ℕ) (m : Machine) (rest : Rest) (ways : List (Item × Option Route)) → IsDone m ⊎ CanMove passes m → ChipMayTake m rest ways → TieOf true m (on_line m.host.state.side.turn)
    → IsRequestFor these m.host.state.requests.under_way → AreAskedFor these ways
taken_sent these passes m rest ways at may tie for_these =
    let o : OuterState = m.outside.outer in
    either_sent these passes m rest ways at may
    (λ frame turn.
    request_marked these (kept m.host.state) o.chip.state frame (unheard o) for_these (subst (λ (t : Turn). TieBy true (kept m.host.state) o.chip.state (unheard o) (on_line t)) turn tie))

-- where it writes none, whichever these are
pub idle_sent : (these : List Bool) (passes : ℕ) (m : Machine) (rest : Rest) (ways : List (Item × Option Route)) → IsDone m ⊎ CanMove passes m → ChipMayTake m rest ways → m.host.state.side.turn ≡ no_turn → AreAskedFor these ways
idle_sent these passes m rest ways at may idle = either_sent these passes m rest ways at may (λ frame turn. absurd (let no : no_turn ≡ Copied frame 1 0 = sym idle ∙ turn in cc))

-- from phase to phase
sent_as : (these : List Bool) (m : Machine) (event is : Event) → event ≡ is → IsSentTo these m is → IsSentTo these m event
sent_as these m event is same sent = subst (IsSentTo these m) (sym same) sent

pub effect_sent : (these : List Bool) (m : Machine) (event : Event) → IsEffect event → IsSentTo these m event
effect_sent these m (Outside_does (Wakes_device node route)) is = tt
effect_sent these m (Outside_does (Shows node)) is = tt
effect_sent these m (Outside_does (Cuts size)) is = tt
effect_sent these m (Outside_does event) is = absurd is
effect_sent these m event is = tt

pub sent_on : (these : List Bool) (here next : Phase) (m : Machine) (event : Event) → Goes here m event next → May m event → LineAt here m → TieAt here m → IsRequestFor these m.host.state.requests.under_way → IsSentTo these m event
sent_on these (Said_line line) next m event (is, to) may line_at tie for_these = sent_as these m event _ is tt
sent_on these (Doing line (first ∷ left)) next m event (is, to) may line_at tie for_these = sent_as these m event first is (effect_sent these m first line_at.0.0)
sent_on these (To_tick (suc ticks)) next m event (is, to) may line_at tie for_these = sent_as these m event _ is tt
sent_on these (Arriving (suc frames) ticks) next m event (drawn, route, is, to) may line_at tie for_these = sent_as these m event _ is tt
sent_on these (Giving (suc results) ticks) next m event (route, is, to) may line_at tie for_these = sent_as these m event _ is tt
sent_on these (Ticking_devices place (suc count) ticks) next m event (drawn, route, is, to) may line_at tie for_these = sent_as these m event _ is tt
sent_on these (Ticking_chip ticks) next m event (is, to) may line_at tie for_these = sent_as these m event _ is tt
sent_on these (Ticking_decoder ticks) next m event (is, to) may line_at tie for_these = sent_as these m event _ is tt
sent_on these (Ticking_host (first ∷ events) ticks) next m event (is, to) may line_at tie for_these = sent_as these m event _ is tt
sent_on these (Sleeping passes ticks) next m event (node, wants, is, to) may line_at tie for_these = sent_as these m event _ is tt
sent_on these (Submitting passes ticks) next m event (asked_is, next_is, is, to) may line_at tie for_these = sent_as these m event _ is tt
sent_on these (Moving passes ticks) next m event (rest, ways, is, to) may line_at tie for_these = sent_as these m event _ is (taken_sent these passes m rest ways line_at (subst (May m) is may) tie for_these)
sent_on these (Moved b passes ticks) next m event (rest, items, done, is, to) may line_at tie for_these = sent_as these m event _ is tt
sent_on these here next m event goes may line_at tie for_these = absurd goes

-- ---- the walk

module _ (airs : Airs) (payloads : Payloads) (these : List Bool) (heard : WalkWhere (IsHeardFor these) AsksNothing (KnowHeard these)) where
  pub workers_walk : WalkWhere (IsWorkHeard these) AsksNothing (KnowWorkers these)
  workers_walk = record {
    said = λ past m words line read known. let on = heard.said past m words line read known.0 in (on.0, (on.1, λ is. known.1 (stretched_before past (entry.Said words ∷ []) is)));
    event = λ here next past m event goes may work known. (
      nothing_asked past (entries m event),
      (
        λ is.
            let before = stretched_before past (entries m event) is in
            let tied = (known.0 before).0.tied before.quiet in
            (heard.event here next past m event goes may (sent_on these here next m event goes may tied.0 tied.6 (known.1 before).request, work.1) known.0).1 is,
        λ is.
            let before = stretched_before past (entries m event) is in
            let tied = (known.0 before).0.tied before.quiet in
            staffed_on payloads these airs here next m event goes may work.0 tied.0 tied.6 tied.7 (known.1 before),
      ),
    );
    turn = λ here next past m turns known. (heard.turn here next past m turns known.0, known.1);
  }
