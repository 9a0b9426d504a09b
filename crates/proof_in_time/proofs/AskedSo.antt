-- Each frame of the host on the air brings what the request under way asks to send, from phase to phase of a stretch for plain nodes.
use Rattle.std.proofs.lemmas.List.{length-map}
use Rattle.std.proofs.Common.{◌≡◌, ◌≤◌, ◌<◌, ℕ, zero, suc, ◌+◌, Bool, true, false, List, [], ◌∷◌, ◌++◌, length, refl, sym, ap, ◌∙◌, subst, inl, inr, arith}
use Rattle.std.specs.Prelude.{◌⊎◌, IsTrue, Option, Some, None}
use Rattle.std.specs.List.{AllByRecursion}
use Rattle.zw_base.proofs.Each.{all-append, all-weaker}
use Rattle.zw_text.specs.declared.line.Line.{Line as TextLine}
use Rattle.serial_frame.specs.Stream.{Rest}
use Rattle.serial_frame.specs.declared.item.Item.{Item}
use Rattle.serial_link.specs.declared.turn.Turn.{Turn}
use Rattle.serial_link.specs.declared.turn.Turn.TheVariants.{Copied, Idle as no_turn, Paused}
use Rattle.route_table.specs.declared.route.Route.{Route}
use Rattle.supervision.specs.Host.{HostBook, begun_of}
use Rattle.chip_sim.specs.Did.{judged_all}
use Rattle.chip_sim.specs.Nodes.{is_marked}
use Rattle.chip_sim.specs.State.{ChipState}
use Rattle.air_frames.specs.Flown.{Flown}
use Rattle.air_frames.specs.Frames.{next_of}
use Rattle.air_frames.specs.declared.frame.Heading.{Heading}
use Rattle.air_frames.specs.declared.frame.Heading.TheVariants.{Outward}
use Rattle.host_requests.specs.Events.{task_begun}
use Rattle.host_requests.specs.Events.RequestsEvent.{Ticks as request_ticks}
use Rattle.host_requests.specs.State.{RequestsState, begun}
use Rattle.host_requests.specs.declared.under_way.Progress.TheVariants.{Submitted}
use Rattle.host_requests.specs.Frames.{frame_of, no_more_information, request_of, send, task_request}
use Rattle.host_requests.specs.declared.task.Purpose.{Purpose}
use Rattle.host_requests.specs.declared.task.Purpose.TheVariants.{Abort, Attempt, Housekeeping}
use Rattle.host_requests.specs.declared.task.Task.{Task}
use Rattle.host_requests.specs.declared.task.Task.TheVariants.{NoMore}
use Rattle.host_requests.specs.declared.under_way.UnderWay.{UnderWay}
use Rattle.host_node.specs.Search.{next_of as next_of_node}
use Rattle.host_node.specs.State.{has_segment}
use Rattle.host_node.specs.declared.attempt.Moment.TheVariants.{BeforeItsTick}
use Rattle.host_node.specs.declared.attempt.Plan.{Plan}
use Rattle.host_orders.specs.declared.carriage.Form.TheVariants.{Cut, Plain}
use Rattle.proof_course_plain.proofs.HostEvents.{open_is, owned}
use Rattle.host_model.specs.After.{after}
use Rattle.host_model.specs.Events.{HostEvent, Accepts, Begin_unkept, Begins, Gives_segment, Gives_text, Line_ticks, Node_ticks, Requests_do, Starts, Submits_abort, Submits_front}
use Rattle.host_model.specs.Facts.{HasSegments, HostFacts, IsCommandOf}
use Rattle.host_model.specs.May.{IsFree}
use Rattle.host_model.specs.Pumping.{IsNext, no_more_event}
use Rattle.host_model.specs.State.{Command, HostState, node_of}
use Rattle.host_model.proofs.Submitted.{next_is, no_more_is}
use Rattle.outside_model.specs.Events.{OuterEvent, Arrives, Begins_line, Begins_tick, Chip_takes, Chip_ticks, Device_ticks, Gives, outcome}
use Rattle.outside_model.specs.State.{OuterState, each}
use Rattle.outside_model.specs.Chip.{chip_does}
use Rattle.world_model.specs.Events.{Event, Decoder_ticks, Host_does, Host_takes, Outside_does, Refuses, Shows_values, happens, May}
use Rattle.world_model.specs.State.{Machine}
use Rattle.proof_answered.specs.proof_calm.Awaited.{Awaits, AwaitsAt}
use Rattle.proof_answered.specs.proof_calm.Known.{AsksToSend}
use Rattle.proof_answered.specs.proof_calm.Passes.{ChipMayTake, chip_taken}
use Rattle.proof_answered.specs.proof_calm.Resting.{CanMove, IsEffect, IsGiven, LineAt, Stands as Stands_on}
use Rattle.proof_answered.specs.proof_calm.Settling.{HasMoved, IsDone}
use Rattle.proof_answered.specs.proof_calm.Tied.{All, At_chip, Called, HasRoom, IsNodeTick, IsPeopled, Nodes, Nowhere, On_way, Request, RoomAt, Tied, TickLeft, TieAt, TieOf, TiedInTick, ends_of, on_line, unheard}
use Rattle.proof_answered.specs.proof_calm.proof_traffic.OnAir.{fed_chip, on_air}
use Rattle.proof_answered.specs.proof_calm.proof_traffic.OutsideTraffic.{one_outward, outward}
use Rattle.proof_answered.specs.proof_calm.proof_work.proof_walk.Phases.{Phase, Arriving, Begun, Between, Doing, Giving, Goes, Moved, Moving, Said_line, Sleeping, Submitting, Ticked, Ticking_chip, Ticking_decoder, Ticking_devices, Ticking_host, To_tick, Turns, after_pump, passes_after}
use Rattle.proof_answered.proofs.Flights.{flights_are}
use Rattle.proof_answered.proofs.Outwards.{IsOut, IsSentFor, awaits_of, home_out, judges_add, marked_within, next_flight, outs_on}
use Rattle.proof_answered.proofs.Peopled.{covers_of}
use Rattle.proof_answered.proofs.SleeperAloft.{none_aborted, none_fly, none_marked, unmarked}
use Rattle.proof_answered.proofs.Staffing.{idle_sent}
use Rattle.proof_answered.proofs.Arrivals.{outward-append}
use Rattle.proof_answered.proofs.Walking.{one_host}
use Rattle.proof_answered.proofs.proof_traffic_Parts.{Airs}
use Rattle.proof_in_time.specs.Asked.{AreAskedSo, IsAskedNow, IsMessageOf, IsPlainPurpose, IsPlainTask, Sends, TaskSends}
use Rattle.proof_in_time.specs.Coming.{GoesWhole, GoWhole, IsAsking, IsMessage}
use Rattle.proof_in_time.proofs.Aired.{frame_airs, same_taken}
use Rattle.proof_in_time.proofs.Commands.{plain_start}
use Rattle.proof_in_time.proofs.NodeWaits.{own_book}
use Rattle.proof_in_time.proofs.RequestStays.{GoesSteady, IsSteady, steady_on, steady_still, takes_steady}

-- ---- a request goes on

begun_on : (h g : HostState) (n : ℕ) (payload : List ℕ) → (node_of g n).book.commands ≡ (node_of h n).book.commands → IsMessageOf h n payload → IsMessageOf g n payload
begun_on h g n payload same is =
    let begun : begun_of (node_of g n).book ≡ begun_of (node_of h n).book = ap (λ (l : List ℕ). length l) same in
    record { begun = subst (λ (s : ℕ). 1 ≤ s) (sym begun) is.begun; message = subst (λ (s : ℕ). IsMessage s payload) (sym begun) is.message }

plain_on : (these : List Bool) → length these ≡ 233 → (h g : HostState) (purpose : Purpose) → ((n : ℕ) → n < 233 → (node_of g n).book.commands ≡ (node_of h n).book.commands) → IsPlainPurpose these h purpose → IsPlainPurpose these g purpose
plain_on these many h g (Attempt n more payload) same is = let less = marked_within these n is.0 in (is.0, begun_on h g n payload (same n (omega (arith, less, many))) is.1)
plain_on these many h g (Housekeeping task) same is = is
plain_on these many h g Abort same is = absurd is

asked_steady : (these : List Bool) → length these ≡ 233 → (h g : HostState) → GoesSteady h g → (v : UnderWay) → g.requests.under_way ≡ Some v → (frame : Flown) → IsAskedNow these h frame → IsAskedNow these g frame
asked_steady these many h g steady v under_way frame was =
    let before = steady.request v under_way in
    let both : Some was.request ≡ Some before.0 = sym was.under_way ∙ before.1.0 in
    let same : was.request ≡ before.0 = cc in
    let purposes : v.purpose ≡ was.request.purpose = before.1.1 ∙ ap (λ (u : UnderWay). u.purpose) (sym same) in
    record {
      request = v;
      under_way = under_way;
      plain = subst (IsPlainPurpose these g) (sym purposes) (plain_on these many h g was.request.purpose steady.sessions was.plain);
      sends = subst (λ (p : Purpose). Sends p frame.node frame.payload) (sym purposes) was.sends;
    }

-- ---- the frames on the air

-- while one of the host is there, a request is under way
module _ (these : List Bool) (many : length these ≡ 233) where
  -- each of the host is so
  abbrev AreNow : HostState → OuterState → Type 0
  AreNow h o = AllByRecursion (IsOut (λ (frame : Flown). IsAskedNow these h frame)) (on_air o.air.frames)

  steady_flies : (h : HostState) (next : Phase) (n : Machine) → GoesSteady h n.host.state → LineAt next n → AwaitsAt next n → TieAt next n → AreNow h n.outside.outer → AreNow n.host.state n.outside.outer
  steady_flies h next n steady line awaits tie outs = by n.host.state.requests.under_way refl
    where
      by : (under_way : Option UnderWay) → n.host.state.requests.under_way ≡ under_way → AreNow n.host.state n.outside.outer
      by None none = home_out (λ (frame : Flown). IsAskedNow these n.host.state frame) (on_air n.outside.outer.air.frames) (none_fly next n line awaits tie none)
      by (Some request) is =
          all-weaker (IsOut (λ (frame : Flown). IsAskedNow these h frame)) (IsOut (λ (frame : Flown). IsAskedNow these n.host.state frame))
          (λ frame asked out. asked_steady these many h n.host.state steady request is frame (asked out)) (on_air n.outside.outer.air.frames) outs

-- ---- what an event does to the host

effect_steady : (m : Machine) (event : Event) → IsEffect event → length m.host.state.nodes ≡ 233 → GoesSteady m.host.state (happens m event).host.state
unfolding happens
effect_steady m (Outside_does event) is places = steady_still m.host.state m.host.state refl places
effect_steady m (Host_does (Accepts order carriage)) is places = steady_on m.host.state (Accepts order carriage) places tt
effect_steady m (Refuses line refusal) is places = steady_still m.host.state m.host.state refl places
effect_steady m (Shows_values node) is places = steady_still m.host.state m.host.state refl places
effect_steady m (Host_does event) is places = absurd is
effect_steady m event is places = absurd is

outer_steady : (m : Machine) (event : OuterEvent) → length m.host.state.nodes ≡ 233 → GoesSteady m.host.state (happens m (Outside_does event)).host.state
unfolding happens
outer_steady m event places = steady_still m.host.state m.host.state refl places

decoder_steady : (m : Machine) → length m.host.state.nodes ≡ 233 → GoesSteady m.host.state (happens m Decoder_ticks).host.state
unfolding happens
decoder_steady m places = steady_still m.host.state m.host.state refl places

does_steady : (m : Machine) (event : HostEvent) → IsSteady m.host.state event → length m.host.state.nodes ≡ 233 → GoesSteady m.host.state (happens m (Host_does event)).host.state
unfolding happens
does_steady m event steady places = steady_on m.host.state event places steady

judged_steady : (airs : Airs) (b : Bool) (passes : ℕ) (m : Machine) (rest : Rest) (items : List Item) (events : List HostEvent) → May m (Host_takes (length m.outside.outer.to_host.bytes) rest items events) → IsDone m ⊎ HasMoved b passes m
    → TieOf true m [] → length m.host.state.nodes ≡ 233 → GoesSteady m.host.state (happens m (Host_takes (length m.outside.outer.to_host.bytes) rest items events)).host.state
unfolding happens
judged_steady airs b passes m rest items events may at tie places = takes_steady airs b passes m rest items events may at tie places

node_steady : (h : HostState) (event : HostEvent) → IsNodeTick event → IsSteady h event
node_steady h (Node_ticks n) is = tt
node_steady h event is = absurd is

tick_steady : (m : Machine) (first : HostEvent) (events : List HostEvent) → IsGiven 1 m → TiedInTick (first ∷ events) m → IsSteady m.host.state first
tick_steady m first events given at = by at.counted at.left
  where
    as_first : (is : HostEvent) → first ≡ is → IsSteady m.host.state is → IsSteady m.host.state first
    as_first is same steady = subst (IsSteady m.host.state) (sym same) steady

    by : (counted : Bool) → TickLeft counted (first ∷ events) → IsSteady m.host.state first
    by counted (All nodes are is none) = let one : first ≡ Line_ticks = cc in as_first Line_ticks one given.at_host.turn_is
    by counted (Request nodes are is none) = let one : first ≡ Requests_do request_ticks BeforeItsTick = cc in as_first (Requests_do request_ticks BeforeItsTick) one tt
    by counted (Nodes are done) = node_steady m.host.state first are.0

-- an event that submits nothing, and at which the chip takes nothing; that at which something is submitted; and that at which the chip takes what is on its way to it
pub data Step (here next : Phase) (m : Machine) (event : Event) : Type 0 where
  Goes_on : GoesSteady m.host.state (happens m event).host.state → (IsAsking next → ⊥) → ((count : ℕ) (rest : Rest) (ways : List (Item × Option Route)) → event ≡ Outside_does (Chip_takes count rest ways) → ⊥) → Step here next m event
  Submits : (passes ticks : ℕ) (asked : HostEvent) → here ≡ Submitting passes ticks → next ≡ Submitting passes ticks → event ≡ Host_does asked → IsNext m.host.state asked → Step here next m event
  Takes : (passes ticks : ℕ) (rest : Rest) (ways : List (Item × Option Route)) → here ≡ Moving passes ticks → next ≡ Moved true passes ticks → event ≡ Outside_does (Chip_takes (length m.outside.outer.to_chip.bytes) rest ways) → Step here next m event

goes_as : (here next to : Phase) (m : Machine) (event is : Event) → event ≡ is → next ≡ to → (IsAsking to → ⊥) → GoesSteady m.host.state (happens m is).host.state → ((count : ℕ) (rest : Rest) (ways : List (Item × Option Route)) → is ≡ Outside_does (Chip_takes count rest ways) → ⊥)
    → Step here next m event
goes_as here next to m event is same to_is calm steady none =
    Goes_on (subst (λ (e : Event). GoesSteady m.host.state (happens m e).host.state) (sym same) steady) (λ asking. calm (subst IsAsking to_is asking)) (λ count rest ways takes. none count rest ways (sym same ∙ takes))

effect_takes : (event : Event) → IsEffect event → (count : ℕ) (rest : Rest) (ways : List (Item × Option Route)) → event ≡ Outside_does (Chip_takes count rest ways) → ⊥
effect_takes event is count rest ways takes = absurd (subst IsEffect takes is)

pub step_of : (airs : Airs) (here next : Phase) (m : Machine) (event : Event) → Goes here m event next → May m event → LineAt here m → TieAt here m → length m.host.state.nodes ≡ 233 → Step here next m event
step_of airs (Said_line line) next m event (is, to) may at tie places = goes_as _ next _ m event _ is to (λ asking. asking) (outer_steady m Begins_line places) (λ count rest ways takes. cc)
step_of airs (Doing line (first ∷ left)) next m event (is, to) may at tie places = goes_as _ next _ m event first is to (λ asking. asking) (effect_steady m first at.0.0 places) (effect_takes first at.0.0)
step_of airs (To_tick (suc ticks)) next m event (is, to) may at tie places = goes_as _ next _ m event _ is to (λ asking. asking) (outer_steady m Begins_tick places) (λ count rest ways takes. cc)
step_of airs (Arriving (suc frames) ticks) next m event (drawn, route, is, to) may at tie places = goes_as _ next _ m event _ is to (λ asking. asking) (outer_steady m (Arrives drawn route) places) (λ count rest ways takes. cc)
step_of airs (Giving (suc results) ticks) next m event (route, is, to) may at tie places = goes_as _ next _ m event _ is to (λ asking. asking) (outer_steady m (Gives route) places) (λ count rest ways takes. cc)
step_of airs (Ticking_devices place (suc count) ticks) next m event (drawn, route, is, to) may at tie places = goes_as _ next _ m event _ is to (λ asking. asking) (outer_steady m (Device_ticks place drawn route) places) (λ many rest ways takes. cc)
step_of airs (Ticking_chip ticks) next m event (is, to) may at tie places = goes_as _ next _ m event _ is to (λ asking. asking) (outer_steady m Chip_ticks places) (λ count rest ways takes. cc)
step_of airs (Ticking_decoder ticks) next m event (is, to) may at tie places = goes_as _ next _ m event _ is to (λ asking. asking) (decoder_steady m places) (λ count rest ways takes. cc)
step_of airs (Ticking_host (first ∷ events) ticks) next m event (is, to) may at tie places = goes_as _ next _ m event _ is to (λ asking. asking) (does_steady m first (tick_steady m first events at.1 tie) places) (λ count rest ways takes. cc)
step_of airs (Sleeping passes ticks) next m event (node, wants, is, to) may at tie places =
    goes_as _ next _ m event _ is to (λ asking. asking) (does_steady m (no_more_event m.host.state node) (no_more_is (IsSteady m.host.state) (record { queues = λ n. tt; drops = λ n. tt }) m.host.state node) places) (λ count rest ways takes. cc)
step_of airs (Submitting passes ticks) next m event (asked, next_is, is, to) may at tie places = Submits passes ticks asked refl to is next_is
step_of airs (Moving passes ticks) next m event (rest, ways, is, to) may at tie places = Takes passes ticks rest ways refl to is
step_of airs (Moved b passes ticks) next m event (rest, items, done, is, to) may at tie places =
    goes_as _ next _ m event _ is to (λ asking. asking) (judged_steady airs b passes m rest items done (subst (May m) is may) at tie places) (λ count more ways takes. cc)
step_of airs here next m event goes may at tie places = absurd goes

-- ---- something is submitted

-- no node has a sealed text or a segment to give
no_text : (h : HostState) (n : ℕ) (payload : List ℕ) → (node_of h n).text ≡ None → (node_of h n).text ≡ Some payload → ⊥
no_text h n payload none some = absurd (let no : None ≡ Some payload = sym none ∙ some in cc)

no_segment : (these : List Bool) (h : HostState) (n : ℕ) → HostFacts h → GoWhole these h.commands → is_marked these n ≡ true → (node_of h n).segments ≡ 0
no_segment these h n facts go marked = by (facts.owns n).segments
  where
    by : ((node_of h n).segments ≡ 0) ⊎ HasSegments h.commands (node_of h n) → (node_of h n).segments ≡ 0
    by (inl none) = none
    by (inr has) =
        let own : IsCommandOf h.commands n has.number = owned h.commands n (node_of h n).book.commands has.session has.number (facts.owns n).sessions has.carried in
        let both : Some own.command ≡ Some has.command = sym own.found ∙ has.found in
        let same : own.command ≡ has.command = cc in
        let node : has.command.order.node ≡ n = ap (λ (c : Command). c.order.node) (sym same) ∙ own.node in
        let goes : GoesWhole has.command.order has.command.carriage = go has.number has.command has.found (ap (is_marked these) node ∙ marked) in
        absurd (let no : Plain ≡ Cut = sym goes.plain ∙ has.form in cc)

-- what is under way once a request has begun
begun_request : (s : RequestsState) (purpose : Purpose) (u : UnderWay) → (begun s purpose).under_way ≡ Some u → u.purpose ≡ purpose
begun_request s purpose u is = let same : record { purpose = purpose; progress = Submitted } ≡ u = cc in ap (λ (w : UnderWay). w.purpose) (sym same)

front_request : (s : RequestsState) (queue : List Task) (u : UnderWay) → s.under_way ≡ None → (task_begun s queue).under_way ≡ Some u → (task : Task) × ((rest : List Task) × ((queue ≡ task ∷ rest) × (u.purpose ≡ Housekeeping task)))
front_request s [] u none is = absurd (let no : None ≡ Some u = sym none ∙ is in cc)
front_request s (task ∷ rest) u none is = (task, (rest, (refl, begun_request (record s { queue = rest }) (Housekeeping task) u is)))

-- of what starts
starts_next : (m : Machine) (n : ℕ) (plan : Plan) (more : Bool) (payload : List ℕ) → May m (Host_does (Starts n plan more payload)) → next_of_node m.host.state.nodes m.host.state.served ≡ Some n
unfolding May
starts_next m n plan more payload may = may.0.0.next

pub starts_begun : (m : Machine) (n : ℕ) (plan : Plan) (more : Bool) (payload : List ℕ) → May m (Host_does (Starts n plan more payload)) → 1 ≤ begun_of (node_of m.host.state n).book
unfolding May
starts_begun m n plan more payload may = let some = (open_is (node_of m.host.state n).book may.0.1.session may.0.1.opened).1 in omega (arith, some)

module _ (these : List Bool) (many : length these ≡ 233) (m : Machine) (facts : HostFacts m.host.state) (paid : m.host.state.requests.owes ≡ false) (tasks : AllByRecursion (IsPlainTask these) m.host.state.requests.queue)
    (go : GoWhole these m.host.state.commands) (texts : (n : ℕ) → is_marked these n ≡ true → (node_of m.host.state n).text ≡ None)
    (workers : (n : ℕ) → next_of_node m.host.state.nodes m.host.state.served ≡ Some n → is_marked these n ≡ true) where
  abbrev h : HostState
  h = m.host.state

  -- the request that is under way then is such a one
  abbrev AsksThen : HostEvent → Type 0
  AsksThen event = IsFree h → May m (Host_does event) → (u : UnderWay) → (after h event).requests.under_way ≡ Some u → IsPlainPurpose these (after h event) u.purpose

  asks_abort : AsksThen Submits_abort
  unfolding May
  asks_abort free may u is = absurd (let no : false ≡ true = sym paid ∙ may.0.1 in cc)

  asks_front : AsksThen Submits_front
  unfolding May
  asks_front free may u is =
      let at = front_request h.requests h.requests.queue u free.none_under_way is in
      subst (IsPlainPurpose these (after h Submits_front)) (sym at.1.1.1) (subst (AllByRecursion (IsPlainTask these)) at.1.1.0 tasks).0

  asks_starts : (n : ℕ) (plan : Plan) (more : Bool) (payload : List ℕ) → AsksThen (Starts n plan more payload)
  asks_starts n plan more payload free may u is =
      subst (IsPlainPurpose these (after h (Starts n plan more payload))) (sym (begun_request h.requests (Attempt n more payload) u is)) (marked, begun_on h (after h (Starts n plan more payload)) n payload same message)
    where
      marked : is_marked these n ≡ true
      marked = workers n (starts_next m n plan more payload may)

      same : (node_of (after h (Starts n plan more payload)) n).book.commands ≡ (node_of h n).book.commands
      same = let less = marked_within these n marked in ap (λ (b : HostBook). b.commands) (own_book n (omega (arith, less, many)) h plan more payload facts.nodes.places)

      message : IsMessageOf h n payload
      message = record { begun = starts_begun m n plan more payload may; message = plain_start these m (Starts n plan more payload) may facts go marked }

  asks_text : (n : ℕ) (payload : List ℕ) → AsksThen (Gives_text n payload)
  unfolding May
  asks_text n payload free may u is = absurd (no_text h n payload (texts n (workers n may.0.0.next)) may.0.1)

  asks_segment : (n : ℕ) (more : Bool) (payload : List ℕ) → AsksThen (Gives_segment n more payload)
  unfolding May
  asks_segment n more payload free may u is = absurd (none_segment (no_segment these h n facts go (workers n may.0.0.next)) may.0.4)
    where
      none_segment : (node_of h n).segments ≡ 0 → IsTrue (has_segment (node_of h n)) → ⊥
      none_segment none has = absurd (grind (arith, none, has))

  asks_begins : (n session command : ℕ) → AsksThen (Begins n session command)
  asks_begins n session command free may u is = absurd (let no : None ≡ Some u = sym free.none_under_way ∙ is in cc)

  asks_unkept : (n : ℕ) → AsksThen (Begin_unkept n)
  asks_unkept n free may u is = absurd (let no : None ≡ Some u = sym free.none_under_way ∙ is in cc)

  submits_asks : (event : HostEvent) → IsNext h event → May m (Host_does event) → (u : UnderWay) → (after h event).requests.under_way ≡ Some u → IsPlainPurpose these (after h event) u.purpose
  submits_asks event next may =
      next_is AsksThen (record { abort = asks_abort; front = asks_front; starts = asks_starts; text = asks_text; segment = asks_segment; begins = asks_begins; unkept = asks_unkept }) h event next next.0 may

-- ---- the chip takes what is on its way to it

-- what it asks to send
task_sends : (these : List Bool) (task : Task) (id node : ℕ) (payload : List ℕ) → IsPlainTask these task → task_request task id ≡ send node payload id → TaskSends task node payload
task_sends these (NoMore n) id node payload is same = let first : node ≡ n = cc in let later : payload ≡ no_more_information = cc in (first, later)
task_sends these task id node payload is same = absurd is

purpose_sends : (these : List Bool) (h : HostState) (purpose : Purpose) (id node : ℕ) (payload : List ℕ) → IsPlainPurpose these h purpose → request_of purpose id ≡ send node payload id → Sends purpose node payload
purpose_sends these h (Attempt n more text) id node payload is same = let first : node ≡ n = cc in let later : payload ≡ text = cc in (first, later)
purpose_sends these h (Housekeeping task) id node payload is same = task_sends these task id node payload is same
purpose_sends these h Abort id node payload is same = absurd is

task_marked : (these : List Bool) (task : Task) (node : ℕ) (payload : List ℕ) → IsPlainTask these task → TaskSends task node payload → is_marked these node ≡ true
task_marked these (NoMore n) node payload is sends = subst (λ (k : ℕ). is_marked these k ≡ true) (sym sends.0) is
task_marked these task node payload is sends = absurd is

sends_marked : (these : List Bool) (h : HostState) (purpose : Purpose) (node : ℕ) (payload : List ℕ) → IsPlainPurpose these h purpose → Sends purpose node payload → is_marked these node ≡ true
sends_marked these h (Attempt n more text) node payload is sends = subst (λ (k : ℕ). is_marked these k ≡ true) (sym sends.0) is.0
sends_marked these h (Housekeeping task) node payload is sends = task_marked these task node payload is sends
sends_marked these h Abort node payload is sends = absurd is

-- one frame of the host alone is on the air
only_one : (P : Flown → Type 0) (before behind : List Flown) (frame : Flown) → outward (before ++ frame ∷ behind) ≤ 1 → frame.heading ≡ Outward → P frame → AllByRecursion (IsOut P) (before ++ frame ∷ behind)
only_one P before behind frame few out is =
    let both = outward-append before (frame ∷ behind) in
    let one : outward (frame ∷ behind) ≡ 1 + outward behind = ap (λ (heading : Heading). one_outward heading + outward behind) out in
    all-append (IsOut P) before (frame ∷ behind) (home_out P before (omega (arith, both, one, few))) ((λ heading. is), home_out P behind (omega (arith, both, one, few)))

module _ (airs : Airs) (these : List Bool) (many : length these ≡ 233) (passes ticks : ℕ) (m : Machine) (rest : Rest) (ways : List (Item × Option Route)) (may : ChipMayTake m rest ways) (line_at : IsDone m ⊎ CanMove passes m) (awaits : Awaits m)
    (room : HasRoom m.outside.outer.chip.state) (tie : TieOf true m (on_line m.host.state.side.turn)) (peopled : IsPeopled these m) (so : AreAskedSo these (Moving passes ticks) m) where
  abbrev then_taken : Machine
  then_taken = chip_taken m rest ways

  -- the host writes nothing
  idle_flies : m.host.state.side.turn ≡ no_turn → AreNow these many m.host.state (outcome m.outside (Chip_takes (length m.outside.outer.to_chip.bytes) rest ways)).outer
  unfolding outcome
  idle_flies idle =
      let o : OuterState = m.outside.outer in
      let p : OuterState = (each chip_does (fed_chip o (length o.to_chip.bytes) rest) (judged_all ways)).outer in
      let adds = judges_add airs (unmarked these) (length-map these (λ (b : Bool). false) ∙ many) awaits.log (on_air o.air.frames) (fed_chip o (length o.to_chip.bytes) rest) ways (idle_sent (unmarked these) passes m rest ways line_at may idle) awaits.follows.fly in
      subst (AllByRecursion (IsOut (λ (frame : Flown). IsAskedNow these m.host.state frame))) (flights_are (awaits.log ++ adds.more) (on_air o.air.frames ++ adds.added) p.air.frames adds.fly)
      (all-append (IsOut (λ (frame : Flown). IsAskedNow these m.host.state frame)) (on_air o.air.frames) adds.added so.flies
      (all-weaker (IsSentFor (unmarked these)) (IsOut (λ (frame : Flown). IsAskedNow these m.host.state frame)) (λ frame sent out. absurd (none_marked these frame.node sent.0)) adds.added adds.are_so))

  -- its frame is on its way
  busy_flies : (m.host.state.side.turn ≡ no_turn → ⊥) → Awaits then_taken → then_taken.outside.outer.chip.state.aborted ≡ 0 → AreNow these many m.host.state then_taken.outside.outer
  busy_flies busy later kept = by tie.tied
    where
      h : HostState
      h = m.host.state

      s : ChipState
      s = m.outside.outer.chip.state

      busy_line : (turn : Turn) → h.side.turn ≡ turn → on_line h.side.turn ≡ [] → ⊥
      busy_line no_turn is none = busy is
      busy_line (Copied f copies left) is none = absurd (let no : f ∷ [] ≡ [] = sym (ap on_line is) ∙ none in cc)
      busy_line (Paused f copies left) is none = absurd (let no : f ∷ [] ≡ [] = sym (ap on_line is) ∙ none in cc)

      sent : (u : UnderWay) → h.requests.under_way ≡ Some u → (asks : AsksToSend s.joined u.purpose h.requests.last_id) → 1 ≤ h.requests.last_id → h.requests.last_id ≤ 255 → on_line h.side.turn ≡ frame_of u.purpose h.requests.last_id ∷ []
          → AreNow these many h then_taken.outside.outer
      sent u under_way asks from to asked =
          let plain = so.asks tt u under_way busy in
          let sends = purpose_sends these h u.purpose h.requests.last_id asks.node asks.payload plain asks.is in
          let marked = sends_marked these h u.purpose asks.node asks.payload plain sends in
          let less = marked_within these asks.node marked in
          let at = frame_airs airs m awaits asks.node asks.payload (omega (arith, less, many)) these marked busy
          (λ t f turn takes_it.
          let own : f ≡ frame_of u.purpose h.requests.last_id = (let same : f ∷ [] ≡ frame_of u.purpose h.requests.last_id ∷ [] = sym (ap on_line turn) ∙ asked in cc) in
          same_taken t s.joined u.purpose h.requests.last_id f own asks from to takes_it)
          passes rest ways may line_at room tie peopled in
          let one = one_host then_taken later kept in
          let few : outward (at.before ++ at.frame ∷ at.behind) ≤ 1 = subst (λ (fs : List Flown). outward fs ≤ 1) at.are one in
          let now : IsAskedNow these h at.frame = record {
            request = u;
            under_way = under_way;
            plain = plain;
            sends = subst (λ (k : ℕ). Sends u.purpose k at.frame.payload) (sym at.is.node) (subst (λ (l : List ℕ). Sends u.purpose asks.node l) (sym at.is.is) sends);
          } in
          subst (AllByRecursion (IsOut (λ (frame : Flown). IsAskedNow these h frame))) (sym at.are) (only_one (λ (frame : Flown). IsAskedNow these h frame) at.before at.behind at.frame few at.is.out now)

      by : Tied true (ends_of h s) (unheard m.outside.outer) (on_line h.side.turn) → AreNow these many h then_taken.outside.outer
      by (Nowhere is) = absurd (busy_line h.side.turn refl is.nothing)
      by (At_chip u of fresh is) = absurd (busy_line h.side.turn refl is.nothing)
      by (Called u of fresh is) = absurd (busy_line h.side.turn refl is.nothing)
      by (On_way u of fresh is) = sent u of.under_way is.asks is.from is.to is.asked

taken_host : (m : Machine) (rest : Rest) (ways : List (Item × Option Route)) → (chip_taken m rest ways).host.state ≡ m.host.state
unfolding happens
taken_host m rest ways = refl

-- ---- each event

module _ (airs : Airs) (these : List Bool) (many : length these ≡ 233) where
  turn_free : (turn : Turn) → (turn ≡ no_turn) ⊎ (turn ≡ no_turn → ⊥)
  turn_free no_turn = inl refl
  turn_free (Copied f copies ticks) = inr (λ no. cc)
  turn_free (Paused f copies ticks) = inr (λ no. cc)

  -- all frames of the host, where the chip takes nothing
  pub outs_still : (P : Flown → Type 0) (here next : Phase) (m : Machine) (event : Event) → Goes here m event next → May m event → LineAt here m → AwaitsAt here m
      → ((count : ℕ) (rest : Rest) (ways : List (Item × Option Route)) → event ≡ Outside_does (Chip_takes count rest ways) → ⊥) → AllByRecursion (IsOut P) (on_air m.outside.outer.air.frames)
      → AllByRecursion (IsOut P) (on_air (happens m event).outside.outer.air.frames)
  outs_still P here next m event goes may line_at awaits none all =
      outs_on P airs m (awaits_of here m awaits) all event (covers_of here next m event goes line_at) may (λ count rest ways takes. absurd (none count rest ways takes))

  takes_flies : (passes ticks : ℕ) (m : Machine) (rest : Rest) (ways : List (Item × Option Route)) → ChipMayTake m rest ways → IsDone m ⊎ CanMove passes m → Awaits m → HasRoom m.outside.outer.chip.state → TieOf true m (on_line m.host.state.side.turn)
      → IsPeopled these m → AreAskedSo these (Moving passes ticks) m → Awaits (chip_taken m rest ways) → (chip_taken m rest ways).outside.outer.chip.state.aborted ≡ 0
      → ((next : Phase) → Goes (Moving passes ticks) m (Outside_does (Chip_takes (length m.outside.outer.to_chip.bytes) rest ways)) next → AreNow these many m.host.state (chip_taken m rest ways).outside.outer)
  takes_flies passes ticks m rest ways may line_at awaits room tie peopled so later kept next goes = by (turn_free m.host.state.side.turn)
    where
      takes : Event
      takes = Outside_does (Chip_takes (length m.outside.outer.to_chip.bytes) rest ways)

      idle : m.host.state.side.turn ≡ no_turn → (count : ℕ) (more : Rest) (others : List (Item × Option Route)) → takes ≡ Outside_does (Chip_takes count more others)
          → AllByRecursion (IsOut (λ (frame : Flown). IsAskedNow these m.host.state frame)) (on_air (outcome m.outside (Chip_takes count more others)).outer.air.frames)
      idle none count more others same =
          let one : Chip_takes (length m.outside.outer.to_chip.bytes) rest ways ≡ Chip_takes count more others = cc in
          subst (λ (e : OuterEvent). AllByRecursion (IsOut (λ (frame : Flown). IsAskedNow these m.host.state frame)) (on_air (outcome m.outside e).outer.air.frames)) one
          (idle_flies airs these many passes ticks m rest ways may line_at awaits room tie peopled so none)

      by : (m.host.state.side.turn ≡ no_turn) ⊎ (m.host.state.side.turn ≡ no_turn → ⊥) → AreNow these many m.host.state (chip_taken m rest ways).outside.outer
      by (inl none) = outs_on (λ (frame : Flown). IsAskedNow these m.host.state frame) airs m awaits so.flies takes (covers_of (Moving passes ticks) next m takes goes line_at) may (idle none)
      by (inr busy) = busy_flies airs these many passes ticks m rest ways may line_at awaits room tie peopled so busy later kept

  flies_on : (here next : Phase) (m : Machine) (event : Event) → Goes here m event next → May m event → LineAt here m → AwaitsAt here m → RoomAt here m → TieAt here m → IsPeopled these m → LineAt next (happens m event) → AwaitsAt next (happens m event)
      → TieAt next (happens m event) → AreAskedSo these here m → AreNow these many (happens m event).host.state (happens m event).outside.outer
  flies_on here next m event goes may line_at awaits room tie peopled line_next awaits_next tie_next so = by (step_of airs here next m event goes may line_at tie peopled.facts.nodes.places)
    where
      h : HostState
      h = m.host.state

      taken_as : (passes ticks : ℕ) (rest : Rest) (ways : List (Item × Option Route)) → here ≡ Moving passes ticks → event ≡ Outside_does (Chip_takes (length m.outside.outer.to_chip.bytes) rest ways)
          → AreNow these many (chip_taken m rest ways).host.state (chip_taken m rest ways).outside.outer
      taken_as passes ticks rest ways at is =
          subst (λ (g : HostState). AreNow these many g (chip_taken m rest ways).outside.outer) (sym (taken_host m rest ways))
          (takes_flies passes ticks m rest ways (subst (May m) is may) (subst (λ (q : Phase). LineAt q m) at line_at) (awaits_of here m awaits) (subst (λ (q : Phase). RoomAt q m) at room) (subst (λ (q : Phase). TieAt q m) at tie) peopled
          (subst (λ (q : Phase). AreAskedSo these q m) at so) (subst (λ (e : Event). Awaits (happens m e)) is (awaits_of next (happens m event) awaits_next))
          (subst (λ (e : Event). (happens m e).outside.outer.chip.state.aborted ≡ 0) is (none_aborted next (happens m event) line_next)) next
          (subst (λ (q : Phase). Goes q m (Outside_does (Chip_takes (length m.outside.outer.to_chip.bytes) rest ways)) next) at (subst (λ (e : Event). Goes here m e next) is goes)))

      by : Step here next m event → AreNow these many (happens m event).host.state (happens m event).outside.outer
      by (Goes_on steady calm none) =
          steady_flies these many h next (happens m event) steady line_next awaits_next tie_next (outs_still (λ (frame : Flown). IsAskedNow these h frame) here next m event goes may line_at awaits none so.flies)
      by (Submits passes ticks asked at to is next_is) =
          all-weaker (IsOut (λ (frame : Flown). ⊥)) (IsOut (λ (frame : Flown). IsAskedNow these (happens m event).host.state frame)) (λ frame never out. absurd (never out)) (on_air (happens m event).outside.outer.air.frames)
          (outs_still (λ (frame : Flown). ⊥) here next m event goes may line_at awaits
          (λ count rest ways takes. let no : Host_does asked ≡ Outside_does (Chip_takes count rest ways) = sym is ∙ takes in cc)
          (all-weaker (IsOut (λ (frame : Flown). IsAskedNow these h frame)) (IsOut (λ (frame : Flown). ⊥)) (λ frame was out. never_asked frame next_is.0.none_under_way (was out)) (on_air m.outside.outer.air.frames) so.flies))
        where
          never_asked : (frame : Flown) → h.requests.under_way ≡ None → IsAskedNow these h frame → ⊥
          never_asked frame none_is asked = absurd (let no : None ≡ Some asked.request = sym none_is ∙ asked.under_way in cc)
      by (Takes passes ticks rest ways at to is) =
          subst (λ (e : Event). AreNow these many (happens m e).host.state (happens m e).outside.outer) (sym is) (taken_as passes ticks rest ways at is)

  -- a request begins in a settling alone
  does_asks : (m : Machine) (event : HostEvent) → ((u : UnderWay) → (after m.host.state event).requests.under_way ≡ Some u → IsPlainPurpose these (after m.host.state event) u.purpose) → (u : UnderWay)
      → (happens m (Host_does event)).host.state.requests.under_way ≡ Some u → IsPlainPurpose these (happens m (Host_does event)).host.state u.purpose
  unfolding happens
  does_asks m event asks = asks

  never_asking : (next to : Phase) → next ≡ to → (IsAsking to → ⊥) → IsAsking next → ⊥
  never_asking next to same none asking = none (subst IsAsking same asking)

  asks_on : (here next : Phase) (m : Machine) (event : Event) → Goes here m event next → May m event → TieAt here m → HostFacts m.host.state → AllByRecursion (IsPlainTask these) m.host.state.requests.queue → GoWhole these m.host.state.commands
      → ((n : ℕ) → is_marked these n ≡ true → (node_of m.host.state n).text ≡ None) → ((n : ℕ) → next_of_node m.host.state.nodes m.host.state.served ≡ Some n → is_marked these n ≡ true) → IsAsking next → (u : UnderWay)
      → (happens m event).host.state.requests.under_way ≡ Some u → IsPlainPurpose these (happens m event).host.state u.purpose
  asks_on (Submitting passes ticks) next m event (asked, next_is_so, is, to) may tie facts tasks go texts workers asking =
      subst (λ (e : Event). (u : UnderWay) → (happens m e).host.state.requests.under_way ≡ Some u → IsPlainPurpose these (happens m e).host.state u.purpose) (sym is)
      (does_asks m asked (submits_asks these many m facts tie.paid tasks go texts workers asked next_is_so (subst (May m) is may)))
  asks_on (Said_line line) next m event (is, to) may tie facts tasks go texts workers asking = absurd (never_asking next (Begun line) to (λ a. a) asking)
  asks_on (Doing line (first ∷ left)) next m event (is, to) may tie facts tasks go texts workers asking = absurd (never_asking next (Doing line left) to (λ a. a) asking)
  asks_on (To_tick (suc ticks)) next m event (is, to) may tie facts tasks go texts workers asking = absurd (never_asking next (Ticked ticks) to (λ a. a) asking)
  asks_on (Arriving (suc frames) ticks) next m event (drawn, route, is, to) may tie facts tasks go texts workers asking = absurd (never_asking next (Arriving frames ticks) to (λ a. a) asking)
  asks_on (Giving (suc results) ticks) next m event (route, is, to) may tie facts tasks go texts workers asking = absurd (never_asking next (Giving results ticks) to (λ a. a) asking)
  asks_on (Ticking_devices place (suc count) ticks) next m event (drawn, route, is, to) may tie facts tasks go texts workers asking = absurd (never_asking next (Ticking_devices _ count ticks) to (λ a. a) asking)
  asks_on (Ticking_chip ticks) next m event (is, to) may tie facts tasks go texts workers asking = absurd (never_asking next (Ticking_decoder ticks) to (λ a. a) asking)
  asks_on (Ticking_decoder ticks) next m event (is, to) may tie facts tasks go texts workers asking = absurd (never_asking next (Ticking_host _ ticks) to (λ a. a) asking)
  asks_on (Ticking_host (first ∷ events) ticks) next m event (is, to) may tie facts tasks go texts workers asking = absurd (never_asking next (Ticking_host events ticks) to (λ a. a) asking)
  asks_on (Sleeping passes ticks) next m event (node, wants, is, to) may tie facts tasks go texts workers asking = absurd (never_asking next (Sleeping passes ticks) to (λ a. a) asking)
  asks_on (Moving passes ticks) next m event (rest, ways, is, to) may tie facts tasks go texts workers asking = absurd (never_asking next (Moved true passes ticks) to (λ a. a) asking)
  asks_on (Moved b passes ticks) next m event (rest, items, done, is, to) may tie facts tasks go texts workers asking = absurd (never_asking next (Sleeping passes ticks) to (λ a. a) asking)
  asks_on here next m event goes may tie facts tasks go texts workers asking = absurd goes

  pub asked_on : (here next : Phase) (m : Machine) (event : Event) → Goes here m event next → May m event → LineAt here m → AwaitsAt here m → RoomAt here m → TieAt here m → IsPeopled these m → LineAt next (happens m event) → AwaitsAt next (happens m event)
      → TieAt next (happens m event) → AllByRecursion (IsPlainTask these) m.host.state.requests.queue → GoWhole these m.host.state.commands → ((n : ℕ) → is_marked these n ≡ true → (node_of m.host.state n).text ≡ None)
      → ((n : ℕ) → next_of_node m.host.state.nodes m.host.state.served ≡ Some n → is_marked these n ≡ true) → AreAskedSo these here m → AreAskedSo these next (happens m event)
  asked_on here next m event goes may line_at awaits room tie peopled line_next awaits_next tie_next tasks go texts workers so = record {
    asks = λ asking u under_way busy. asks_on here next m event goes may tie peopled.facts tasks go texts workers asking u under_way;
    flies = flies_on here next m event goes may line_at awaits room tie peopled line_next awaits_next tie_next so;
  }

  -- the frame that arrives
  pub says_so : (here : Phase) (m : Machine) → Awaits m → AreAskedSo these here m → (frame : Flown) → next_of m.outside.outer.air.frames ≡ Some frame → frame.heading ≡ Outward → IsAskedNow these m.host.state frame
  says_so here m awaits so frame next out =
      let first = next_flight airs awaits.log (on_air m.outside.outer.air.frames) m.outside.outer.air.frames frame awaits.follows.fly next in
      (subst (AllByRecursion (IsOut (λ (one : Flown). IsAskedNow these m.host.state one))) first.1 so.flies).0 out

-- ---- with no event

pub asked_said : (these : List Bool) (line : TextLine) (m : Machine) → AreAskedSo these Between m → AreAskedSo these (Said_line line) m
asked_said these line m so = record { asks = λ asking u under_way busy. absurd asking; flies = so.flies }

module _ (these : List Bool) (m : Machine) where
  quiet_turn : (here next to : Phase) → next ≡ to → (IsAsking to → ⊥) → AreAskedSo these here m → AreAskedSo these next m
  quiet_turn here next to same none so = record { asks = λ asking u under_way busy. absurd (none (subst IsAsking same asking)); flies = so.flies }

  pump_turn : (here : Phase) (passes ticks : ℕ) → AreAskedSo these (Submitting passes ticks) m → AreAskedSo these (after_pump passes ticks) m
  pump_turn here zero ticks so = record { asks = λ asking u under_way busy. absurd asking; flies = so.flies }
  pump_turn here (suc passes) ticks so = record { asks = λ asking u under_way busy. so.asks tt u under_way busy; flies = so.flies }

  idle_turn : (passes ticks : ℕ) → IsDone m ⊎ Stands_on passes m → m.host.state.side.turn ≡ no_turn
  idle_turn passes ticks (inl done) = done.line.at_host.turn_is
  idle_turn passes ticks (inr stands) = stands.turn

  pub asked_turn : (here next : Phase) → Turns here m next → LineAt here m → AreAskedSo these here m → AreAskedSo these next m
  asked_turn (Begun line) next (inl (events, is, same)) line_at so = quiet_turn (Begun line) next (Doing line events) same (λ a. a) so
  asked_turn (Begun line) next (inr (ticks, is, same)) line_at so = quiet_turn (Begun line) next (To_tick ticks) same (λ a. a) so
  asked_turn (Doing line []) next same line_at so = quiet_turn (Doing line []) next (Sleeping 64 0) same (λ a. a) so
  asked_turn (To_tick zero) next same line_at so = quiet_turn (To_tick zero) next Between same (λ a. a) so
  asked_turn (Ticked ticks) next same line_at so = quiet_turn (Ticked ticks) next (Arriving _ ticks) same (λ a. a) so
  asked_turn (Arriving zero ticks) next same line_at so = quiet_turn (Arriving zero ticks) next (Giving _ ticks) same (λ a. a) so
  asked_turn (Giving zero ticks) next same line_at so = quiet_turn (Giving zero ticks) next (Ticking_devices 0 _ ticks) same (λ a. a) so
  asked_turn (Ticking_devices place zero ticks) next same line_at so = quiet_turn (Ticking_devices place zero ticks) next (Ticking_chip ticks) same (λ a. a) so
  asked_turn (Ticking_host [] ticks) next same line_at so = quiet_turn (Ticking_host [] ticks) next (Sleeping 64 ticks) same (λ a. a) so
  asked_turn (Sleeping passes ticks) next (none, same) line_at so =
      subst (λ (q : Phase). AreAskedSo these q m) (sym same) (record { asks = λ asking u under_way busy. absurd (busy (idle_turn passes ticks line_at)); flies = so.flies })
  asked_turn (Submitting passes ticks) next (pumped, same) line_at so = subst (λ (q : Phase). AreAskedSo these q m) (sym same) (pump_turn (Submitting passes ticks) passes ticks so)
  asked_turn (Moving passes ticks) next (still, same) line_at so = quiet_turn (Moving passes ticks) next (Moved false passes ticks) same (λ a. a) so
  asked_turn (Moved b passes ticks) next (still, same) line_at so = quiet_turn (Moved b passes ticks) next (Sleeping (passes_after b passes) ticks) same (λ a. a) so
  asked_turn here next turns line_at so = absurd turns
