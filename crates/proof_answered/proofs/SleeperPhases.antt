-- From phase to phase of lines for one node that sleeps, it counts as asleep and the host has nothing to do with it, or it counts as awake until it was told that there is no more.
use Rattle.std.proofs.Common.{◌≡◌, ◌≢◌, ◌<◌, ℕ, suc, ◌==◌, ◌&&◌, nat_le, Bool, true, false, if◌then◌else◌, List, [], ◌∷◌, ◌++◌, length, refl, sym, ap, ◌∙◌, subst, arith}
use Rattle.std.specs.Prelude.{◌⊎◌, ◌||◌, Option, Some, None, option_map}
use Rattle.std.specs.Option.{is_none, is_some}
use Rattle.zw_base.specs.declared.order.Order.{Order}
use Rattle.serial_frame.specs.Stream.{Rest}
use Rattle.serial_frame.specs.declared.item.Item.{Item}
use Rattle.chip_sim.specs.Nodes.{is_marked}
use Rattle.supervision.specs.Host.{open_session}
use Rattle.host_orders.specs.declared.carriage.Carriage.{Carriage}
use Rattle.host_requests.specs.Events.{task_begun}
use Rattle.host_requests.specs.Events.RequestsEvent.{Ticks as request_ticks}
use Rattle.host_requests.specs.declared.task.Purpose.{Purpose}
use Rattle.host_requests.specs.declared.task.Purpose.TheVariants.{Attempt, Housekeeping}
use Rattle.host_requests.specs.declared.task.Task.{Task}
use Rattle.host_requests.specs.declared.task.Task.TheVariants.{NoMore}
use Rattle.host_requests.specs.declared.under_way.UnderWay.{UnderWay}
use Rattle.host_node.specs.Events.{after as after_node}
use Rattle.host_node.specs.Events.NodeEvent.{Queues_no_more as node_queues_no_more}
use Rattle.host_node.specs.Search.{first_wanting, next_of}
use Rattle.host_node.specs.State.{NodeState, has_waiting, has_work, is_false, is_idle, is_unasked, is_up, wants_no_more}
use Rattle.host_node.specs.TableState.{node_of as node_among}
use Rattle.host_node.specs.declared.attempt.Moment.TheVariants.{BeforeItsTick}
use Rattle.host_node.specs.declared.no_more.NoMore.{NoMore as Asked}
use Rattle.host_node.specs.declared.no_more.NoMore.TheVariants.{Queued}
use Rattle.host_node.specs.declared.series.Series.{Series}
use Rattle.host_node.specs.declared.series.Series.TheVariants.{Idle}
use Rattle.host_node.proofs.Searches.{what_is_least}
use Rattle.host_model.proofs.Pumps.{next_works}
use Rattle.host_model.proofs.Submitted.{SubmittedAre, next_is}
use Rattle.host_model.specs.After.{after, is_full}
use Rattle.host_model.specs.Events.{HostEvent, Accepts, Begin_unkept, Begins, Drops_no_more, Gives_segment, Gives_text, Line_ticks, Node_ticks, Queues_no_more, Requests_do, Starts, Submits_front}
use Rattle.host_model.specs.May.{May as MayHost}
use Rattle.host_model.specs.Pumping.{IsNext, no_more_event}
use Rattle.host_model.specs.State.{HostState, node_of}
use Rattle.outside_model.specs.Events.{OuterEvent, Begins_line, Begins_tick, Arrives, Gives, Device_ticks, Chip_ticks, Chip_takes}
use Rattle.world_model.specs.Events.{Event, Outside_does, Host_does, Host_takes, Decoder_ticks, Refuses, Shows_values, happens, May}
use Rattle.world_model.specs.State.{Machine}
use Rattle.proof_calm.specs.proof_work.proof_walk.Phases.{Phase, Said_line, Doing, To_tick, Arriving, Giving, Ticking_devices, Ticking_chip, Ticking_decoder, Ticking_host, Sleeping, Submitting, Moving, Moved, Goes}
use Rattle.proof_calm.specs.Awaited.{AwaitsAt, AwaitsNone}
use Rattle.proof_calm.specs.Resting.{IsEffect, IsGiven, LineAt}
use Rattle.proof_calm.specs.Settling.{HasMoved, IsDone}
use Rattle.proof_calm.specs.Tied.{All, IsNodeTick, Nodes, Request, TickLeft, TiedInTick, TieAt, TieOf}
use Rattle.proof_calm.proofs.Rested.{all_four}
use Rattle.proof_calm.proofs.Serving.{none_works}
use Rattle.proof_answered.specs.FirstAttempts.{AllFirst, IsInTime}
use Rattle.proof_answered.specs.Sleepers.{IsAlone, IsDown, IsTelling, IsUpAt, Is_queued, Is_sent, NoMoreAt, Not_asked, request_purpose}
use Rattle.proof_answered.specs.Workers.{IsStill, KnowsWorkers}
use Rattle.proof_answered.proofs.AttemptEnds.{event_first}
use Rattle.proof_answered.proofs.FirstWalk.{request_well}
use Rattle.proof_answered.proofs.SleeperHosts.{Alive, DownAt, Gone, Still_up, down_apart, line_alive, line_down, node_alive, node_down, request_down, set_place, ticks_alive, up_apart, up_submits}
use Rattle.proof_answered.proofs.SleeperNodes.{UpNode, asked_up}
use Rattle.proof_answered.proofs.Staffing.{still_wants}
use Rattle.proof_answered.proofs.Unheard.{AreJudged}

-- ---- a node that counts as asleep has no work, and is not to be told

wants_parts : (a b c d : Bool) (e f : Bool) (hold : Bool) → (a && b && c && d && e && f && hold) ≡ true → (a ≡ true) × (d ≡ true)
wants_parts true true true true e f hold is = (refl, refl)
wants_parts true true true false e f hold is = absurd (let wrong : false ≡ true = is in cc)
wants_parts true true false d e f hold is = absurd (let wrong : false ≡ true = is in cc)
wants_parts true false c d e f hold is = absurd (let wrong : false ≡ true = is in cc)
wants_parts false b c d e f hold is = absurd (let wrong : false ≡ true = is in cc)

wanting_parts : (x : NodeState) → wants_no_more x ≡ true → (x.awake ≡ true) × (is_unasked x.no_more ≡ true)
wanting_parts x wants = wants_parts x.awake (is_false x.listens) (is_some x.classes) (is_unasked x.no_more) (is_false (has_waiting x)) (is_idle x.series) (x.hold == 0) wants

asleep_wants : (x : NodeState) → x.awake ≡ false → wants_no_more x ≡ true → ⊥
asleep_wants x down wants = absurd (let wrong : true ≡ false = sym (wanting_parts x wants).0 ∙ down in cc)

queued_wants : (x : NodeState) → x.no_more ≡ Queued → wants_no_more x ≡ true → ⊥
queued_wants x asked wants = absurd (let wrong : false ≡ true = sym (ap (λ (no_more : Asked). is_unasked no_more) asked) ∙ (wanting_parts x wants).1 in cc)

asleep_works : (x : NodeState) → x.listens ≡ false → x.awake ≡ false → x.series ≡ Idle → has_work x ≡ true → ⊥
asleep_works x sleeps down idle works =
    let as_idle : has_work (record x { series = Idle }) ≡ true = subst (λ (s : Series). has_work (record x { series = s }) ≡ true) idle works in
    let all = all_four (is_none (open_session x.book)) (has_waiting x) (is_up x) (is_false x.blocked) as_idle in
    let none : is_up x ≡ false = ap (λ (b : Bool). b || x.awake) sleeps ∙ down in
    absurd (let wrong : true ≡ false = sym all.2 ∙ none in cc)

-- ---- the events of a machine

outer_host : (On : HostState → Type 0) (m : Machine) (event : OuterEvent) → On m.host.state → On (happens m (Outside_does event)).host.state
unfolding happens
outer_host On m event on = on

decoder_host : (On : HostState → Type 0) (m : Machine) → On m.host.state → On (happens m Decoder_ticks).host.state
unfolding happens
decoder_host On m on = on

does_host : (On : HostState → Type 0) (m : Machine) (event : HostEvent) → On (after m.host.state event) → On (happens m (Host_does event)).host.state
unfolding happens
does_host On m event on = on

refuses_host : (On : HostState → Type 0) (m : Machine) (line : _) (refusal : _) → On m.host.state → On (happens m (Refuses line refusal)).host.state
unfolding happens
refuses_host On m line refusal on = on

shows_host : (On : HostState → Type 0) (m : Machine) (node : ℕ) → On m.host.state → On (happens m (Shows_values node)).host.state
unfolding happens
shows_host On m node on = on

may_host : (m : Machine) (event : HostEvent) → May m (Host_does event) → MayHost m.host.state event
unfolding May
may_host m event may = may.0

-- ---- the node alone

module _ (these : List Bool) (n : ℕ) (alone : IsAlone these n) (within : n < 233) where
  -- each other node is still
  only_one : (h : HostState) (k : ℕ) → KnowsWorkers these h → (IsStill (node_of h k) → ⊥) → k ≡ n
  only_one h k knows busy = by (is_marked these k) refl
    where
      by : (b : Bool) → is_marked these k ≡ b → k ≡ n
      by true is = alone.only k is
      by false is = absurd (busy (knows.others k is))

  wanting_one : (h : HostState) (k : ℕ) → KnowsWorkers these h → first_wanting h.nodes ≡ Some k → (k ≡ n) × (wants_no_more (node_of h n) ≡ true)
  wanting_one h k knows is =
      let wants : wants_no_more (node_of h k) ≡ true = (what_is_least (λ (node : ℕ). wants_no_more (node_among h.nodes node)) 0 k is).is_one in
      let same : k ≡ n = only_one h k knows (λ still. still_wants (node_of h k) still wants) in
      (same, subst (λ (j : ℕ). wants_no_more (node_of h j) ≡ true) same wants)

  working_one : (h : HostState) (k : ℕ) → KnowsWorkers these h → next_of h.nodes h.served ≡ Some k → has_work (node_of h n) ≡ true
  working_one h k knows is =
      let works : has_work (node_of h k) ≡ true = next_works h.nodes h.served k is in
      let same : k ≡ n = only_one h k knows (λ still. none_works (node_of h k) still.idle still.none_waits works) in
      subst (λ (j : ℕ). has_work (node_of h j) ≡ true) same works

  -- nothing is submitted while it counts as asleep
  none_submits : (h : HostState) (event : HostEvent) → KnowsWorkers these h → IsDown n h → h.requests.owes ≡ false → IsNext h event → MayHost h event → ⊥
  none_submits h event knows down paid next may = next_is (λ (e : HostEvent). MayHost h e → ⊥) each h event next may
    where
      none : (k : ℕ) → next_of h.nodes h.served ≡ Some k → ⊥
      none k is = asleep_works (node_of h n) down.sleeps down.asleep down.idle (working_one h k knows is)

      each : SubmittedAre (λ (e : HostEvent). MayHost h e → ⊥)
      each = record {
        abort = λ may_it. absurd (let owes = may_it.1 in cc);
        front = λ may_it. may_it.2 down.no_task;
        starts = λ k plan more payload may_it. none k may_it.0.next;
        text = λ k payload may_it. none k may_it.0.next;
        segment = λ k more payload may_it. none k may_it.0.next;
        begins = λ k session command may_it. none k may_it.0.next;
        unkept = λ k may_it. none k may_it.0.next;
      }

  -- ---- while it counts as asleep

  module _ (Empty : Type 0) where
    abbrev Down : HostState → Type 0
    Down h = DownAt Empty n h

    -- an order for it is accepted only where something may be left
    abbrev MayAccept : Event → Type 0
    MayAccept event = (order : Order) (carriage : Carriage) → event ≡ Host_does (Accepts order carriage) → order.node ≡ n → Empty → ⊥

    effect_down : (m : Machine) (event : Event) → IsEffect event → MayAccept event → Down m.host.state → Down (happens m event).host.state
    effect_down m (Outside_does event) is accepts d = outer_host Down m event d
    effect_down m (Host_does (Accepts order carriage)) is accepts d =
        does_host Down m (Accepts order carriage) (down_apart n within Empty m.host.state (Accepts order carriage) tt ((λ same. accepts order carriage refl same), (λ same. tt)) refl d)
    effect_down m (Host_does event) is accepts d = absurd is
    effect_down m (Refuses line refusal) is accepts d = refuses_host Down m line refusal d
    effect_down m (Shows_values node) is accepts d = shows_host Down m node d
    effect_down m event is accepts d = absurd is

    node_tick_down : (m : Machine) (event : HostEvent) → IsNodeTick event → IsInTime m (Host_does event) → Down m.host.state → Down (after m.host.state event)
    node_tick_down m (Node_ticks k) is in_time d = node_down n within Empty m.host.state k in_time d
    node_tick_down m event is in_time d = absurd is

    tick_down : (m : Machine) (first : HostEvent) (events : List HostEvent) → IsGiven 1 m → TiedInTick (first ∷ events) m → IsInTime m (Host_does first) → Down m.host.state → Down (after m.host.state first)
    tick_down m first events given at in_time d = by at.left
      where
        as_first : (is : HostEvent) → first ≡ is → Down (after m.host.state is) → Down (after m.host.state first)
        as_first is same down = subst (λ (e : HostEvent). Down (after m.host.state e)) (sym same) down

        by : TickLeft at.counted (first ∷ events) → Down (after m.host.state first)
        by (All nodes are is none) = let one : first ≡ Line_ticks = cc in as_first Line_ticks one (line_down n within Empty m.host.state given.at_host.turn_is d)
        by (Request nodes are is none) =
            let one : first ≡ Requests_do request_ticks BeforeItsTick = cc in
            as_first (Requests_do request_ticks BeforeItsTick) one (request_down n within Empty m.host.state request_ticks BeforeItsTick tt d)
        by (Nodes are done) = node_tick_down m first are.0 in_time d

    module _ (R : Type 0) (m : Machine) (event : Event) (stays : (AreJudged event → ⊥) → Down (happens m event).host.state → R) where
      down_as : (is : Event) → event ≡ is → (AreJudged is → ⊥) → Down (happens m is).host.state → R
      down_as is same not d = stays (λ judged. not (subst AreJudged same judged)) (subst (λ (e : Event). Down (happens m e).host.state) (sym same) d)

      -- of an effect
      not_judged : (is : Event) → IsEffect is → AreJudged is → ⊥
      not_judged (Host_takes count rest items events) is judged = is
      not_judged is effect judged = judged

      pub down_on : (here next : Phase) → Goes here m event next → May m event → LineAt here m → TieAt here m → KnowsWorkers these m.host.state → IsInTime m event → MayAccept event
          → ((b : Bool) (passes : ℕ) (rest : Rest) (items : List Item) (done : List HostEvent) → event ≡ Host_takes (length m.outside.outer.to_host.bytes) rest items done → IsDone m ⊎ HasMoved b passes m → TieOf true m [] → R)
          → Down m.host.state → R
      down_on (Said_line line) next (is, to) may line_at tie knows in_time accepts judges d = down_as _ is (λ j. j) (outer_host Down m Begins_line d)
      down_on (Doing line (first ∷ left)) next (is, to) may line_at tie knows in_time accepts judges d =
          down_as first is (not_judged first line_at.0.0) (effect_down m first line_at.0.0 (subst MayAccept is accepts) d)
      down_on (To_tick (suc ticks)) next (is, to) may line_at tie knows in_time accepts judges d = down_as _ is (λ j. j) (outer_host Down m Begins_tick d)
      down_on (Arriving (suc frames) ticks) next (drawn, route, is, to) may line_at tie knows in_time accepts judges d = down_as _ is (λ j. j) (outer_host Down m (Arrives drawn route) d)
      down_on (Giving (suc results) ticks) next (route, is, to) may line_at tie knows in_time accepts judges d = down_as _ is (λ j. j) (outer_host Down m (Gives route) d)
      down_on (Ticking_devices place (suc count) ticks) next (drawn, route, is, to) may line_at tie knows in_time accepts judges d = down_as _ is (λ j. j) (outer_host Down m (Device_ticks place drawn route) d)
      down_on (Ticking_chip ticks) next (is, to) may line_at tie knows in_time accepts judges d = down_as _ is (λ j. j) (outer_host Down m Chip_ticks d)
      down_on (Ticking_decoder ticks) next (is, to) may line_at tie knows in_time accepts judges d = down_as _ is (λ j. j) (decoder_host Down m d)
      down_on (Ticking_host (first ∷ events) ticks) next (is, to) may line_at tie knows in_time accepts judges d =
          down_as _ is (λ j. j) (does_host Down m first (tick_down m first events line_at.1 tie (subst (IsInTime m) is in_time) d))
      down_on (Sleeping passes ticks) next (node, wants, is, to) may line_at tie knows in_time accepts judges d =
          absurd (asleep_wants (node_of m.host.state n) d.down.asleep (wanting_one m.host.state node knows wants).1)
      down_on (Submitting passes ticks) next (asked, next_so, is, to) may line_at tie knows in_time accepts judges d =
          absurd (none_submits m.host.state asked knows d.down tie.paid next_so (may_host m asked (subst (May m) is may)))
      down_on (Moving passes ticks) next (rest, ways, is, to) may line_at tie knows in_time accepts judges d = down_as _ is (λ j. j) (outer_host Down m (Chip_takes (length m.outside.outer.to_chip.bytes) rest ways) d)
      down_on (Moved b passes ticks) next (rest, items, done, is, to) may line_at tie knows in_time accepts judges d = judges b passes rest items done is line_at tie
      down_on here next goes may line_at tie knows in_time accepts judges d = absurd goes

  -- ---- while it counts as awake

  module _ (Telling : Type 0) where
    abbrev Live : HostState → Type 0
    Live h = Alive Telling n h

    -- no order for it is accepted
    abbrev AcceptsOther : Event → Type 0
    AcceptsOther event = (order : Order) (carriage : Carriage) → event ≡ Host_does (Accepts order carriage) → order.node ≢ n

    accepts_alive : (h : HostState) (order : Order) (carriage : Carriage) → order.node ≢ n → Live h → Live (after h (Accepts order carriage))
    accepts_alive h order carriage other (Still_up places up tells) =
        up_apart n within Telling h places up tells (Accepts order carriage) tt ((λ same. absurd (other same)), (λ same. absurd (other same))) refl
    accepts_alive h order carriage other (Gone d) = Gone (down_apart n within (Unit {0}) h (Accepts order carriage) tt ((λ same. absurd (other same)), (λ same. tt)) refl d)

    effect_alive : (m : Machine) (event : Event) → IsEffect event → AcceptsOther event → Live m.host.state → Live (happens m event).host.state
    effect_alive m (Outside_does event) is accepts live = outer_host Live m event live
    effect_alive m (Host_does (Accepts order carriage)) is accepts live = does_host Live m (Accepts order carriage) (accepts_alive m.host.state order carriage (accepts order carriage refl) live)
    effect_alive m (Host_does event) is accepts live = absurd is
    effect_alive m (Refuses line refusal) is accepts live = refuses_host Live m line refusal live
    effect_alive m (Shows_values node) is accepts live = shows_host Live m node live
    effect_alive m event is accepts live = absurd is

    node_tick_alive : (m : Machine) (event : HostEvent) → IsNodeTick event → IsInTime m (Host_does event) → Live m.host.state → Live (after m.host.state event)
    node_tick_alive m (Node_ticks k) is in_time live = node_alive n within Telling m.host.state k in_time live
    node_tick_alive m event is in_time live = absurd is

    tick_alive : (m : Machine) (first : HostEvent) (events : List HostEvent) → IsGiven 1 m → AwaitsNone m → TiedInTick (first ∷ events) m → IsInTime m (Host_does first) → Live m.host.state → Live (after m.host.state first)
    tick_alive m first events given awaits at in_time live = by at.counted at.left at.tie
      where
        as_first : (is : HostEvent) → first ≡ is → Live (after m.host.state is) → Live (after m.host.state first)
        as_first is same goes = subst (λ (e : HostEvent). Live (after m.host.state e)) (sym same) goes

        by : (counted : Bool) → TickLeft counted (first ∷ events) → TieOf counted m [] → Live (after m.host.state first)
        by counted (All nodes are is none) tie = let one : first ≡ Line_ticks = cc in as_first Line_ticks one (line_alive n within Telling m.host.state given.at_host.turn_is live)
        by counted (Request nodes are is none) tie =
            let one : first ≡ Requests_do request_ticks BeforeItsTick = cc in
            as_first (Requests_do request_ticks BeforeItsTick) one
            (ticks_alive n within Telling m.host.state BeforeItsTick (request_well AllFirst event_first m awaits (subst (λ (b : Bool). TieOf b m []) none tie)) live)
        by counted (Nodes are done) tie = node_tick_alive m first are.0 in_time live

    -- it is asked for that it be told that there is no more
    asks_alive : (h : HostState) → length h.nodes ≡ 233 → IsUpAt n h → (Telling → IsTelling n h) → wants_no_more (node_of h n) ≡ true → Live (after h (no_more_event h n))
    asks_alive h places up tells wants = by up.no_more
      where
        asked : h.requests.queue ≡ [] → (IsTelling n h → ⊥) → Live (after h (Queues_no_more n))
        asked empty not =
            let p = set_place (UpNode (Unit {0})) n h.nodes (after_node (node_of h n) node_queues_no_more) within places (asked_up (Unit {0}) (node_of h n) wants up.sleeps up.kept) in
            Still_up p.places (record { sleeps = p.is.sleeps; kept = p.is.kept; no_more = Is_queued (ap (λ (tasks : List Task). tasks ++ NoMore n ∷ []) empty) not (p.is.asked tt) }) (λ t. absurd (not (tells t)))

        by : NoMoreAt n h → Live (after h (no_more_event h n))
        by (Not_asked empty not) =
            let room : is_full h ≡ false = ap (λ (tasks : List Task). nat_le 64 (length tasks)) empty in
            subst (λ (full : Bool). Live (after h (if full then Drops_no_more n else Queues_no_more n))) (sym room) (asked empty not)
        by (Is_queued waits not asked_it) = absurd (queued_wants (node_of h n) asked_it wants)
        by (Is_sent empty told asked_it) = absurd (queued_wants (node_of h n) asked_it wants)

    wants_alive : (h : HostState) (k : ℕ) → KnowsWorkers these h → first_wanting h.nodes ≡ Some k → Live h → Live (after h (no_more_event h k))
    wants_alive h k knows is (Still_up places up tells) =
        let one = wanting_one h k knows is in subst (λ (j : ℕ). Live (after h (no_more_event h j))) (sym one.0) (asks_alive h places up tells one.1)
    wants_alive h k knows is (Gone d) = absurd (asleep_wants (node_of h n) d.down.asleep (wanting_one h k knows is).1)

    -- a request is submitted, and none was under way
    submits_alive : (h : HostState) (event : HostEvent) → KnowsWorkers these h → h.requests.owes ≡ false → IsNext h event → MayHost h event → Live h → Live (after h event)
    submits_alive h event knows paid next may (Gone d) = absurd (none_submits h event knows d.down paid next may)
    submits_alive h event knows paid next may (Still_up places up tells) = next_is (λ (e : HostEvent). MayHost h e → Live (after h e)) each h event next may
      where
        none : request_purpose h ≡ None
        none = ap (λ (o : Option UnderWay). option_map (λ (request : UnderWay). request.purpose) o) next.0.none_under_way

        not : IsTelling n h → ⊥
        not told = let wrong : None ≡ Some (Housekeeping (NoMore n)) = sym none ∙ told in absurd cc

        -- No More Information is submitted
        front : (h.requests.queue ≢ []) → NoMoreAt n h → Live (after h Submits_front)
        front some (Not_asked empty no_telling) = absurd (some empty)
        front some (Is_sent empty told asked_it) = absurd (not told)
        front some (Is_queued waits no_telling asked_it) =
            Still_up places (record {
              sleeps = up.sleeps;
              kept = up.kept;
              no_more = Is_sent (ap (λ (tasks : List Task). (task_begun h.requests tasks).queue) waits)
                  (ap (λ (tasks : List Task). option_map (λ (request : UnderWay). request.purpose) (task_begun h.requests tasks).under_way) waits) asked_it;
            }) (λ t. absurd (not (tells t)))

        attempt_not : (k : ℕ) (more : Bool) (payload : List ℕ) → ◌≡◌ {A = Option Purpose} (Some (Attempt k more payload)) (Some (Housekeeping (NoMore n))) → ⊥
        attempt_not k more payload told = absurd cc

        each : SubmittedAre (λ (e : HostEvent). MayHost h e → Live (after h e))
        each = record {
          abort = λ may_it. absurd (let owes = may_it.1 in cc);
          front = λ may_it. front may_it.2 up.no_more;
          starts = λ k plan more payload may_it.
              up_submits n within Telling h places up tells (Starts k plan more payload) (λ same. may_it.2.0) tt not refl (attempt_not k more payload);
          text = λ k payload may_it. up_submits n within Telling h places up tells (Gives_text k payload) tt tt not refl (attempt_not k false payload);
          segment = λ k more payload may_it. up_submits n within Telling h places up tells (Gives_segment k more payload) tt tt not refl (attempt_not k more payload);
          begins = λ k session command may_it. up_apart n within Telling h places up tells (Begins k session command) (λ same. let some = may_it.1.0 in omega (arith, some)) tt refl;
          unkept = λ k may_it. up_apart n within Telling h places up tells (Begin_unkept k) (λ same. tt) tt refl;
        }

    alive_as : (m : Machine) (event is : Event) → event ≡ is → Live (happens m is).host.state → Live (happens m event).host.state
    alive_as m event is same live = subst (λ (e : Event). Live (happens m e).host.state) (sym same) live

    pub alive_on : (here next : Phase) (m : Machine) (event : Event) → Goes here m event next → May m event → LineAt here m → AwaitsAt here m → TieAt here m → KnowsWorkers these m.host.state → IsInTime m event → AcceptsOther event
        → ((b : Bool) (passes : ℕ) (rest : Rest) (items : List Item) (done : List HostEvent) → event ≡ Host_takes (length m.outside.outer.to_host.bytes) rest items done → IsDone m ⊎ HasMoved b passes m → TieOf true m []
        → Live (happens m event).host.state)
        → Live m.host.state → Live (happens m event).host.state
    alive_on (Said_line line) next m event (is, to) may line_at awaits tie knows in_time accepts judges live = alive_as m event _ is (outer_host Live m Begins_line live)
    alive_on (Doing line (first ∷ left)) next m event (is, to) may line_at awaits tie knows in_time accepts judges live = alive_as m event first is (effect_alive m first line_at.0.0 (subst AcceptsOther is accepts) live)
    alive_on (To_tick (suc ticks)) next m event (is, to) may line_at awaits tie knows in_time accepts judges live = alive_as m event _ is (outer_host Live m Begins_tick live)
    alive_on (Arriving (suc frames) ticks) next m event (drawn, route, is, to) may line_at awaits tie knows in_time accepts judges live = alive_as m event _ is (outer_host Live m (Arrives drawn route) live)
    alive_on (Giving (suc results) ticks) next m event (route, is, to) may line_at awaits tie knows in_time accepts judges live = alive_as m event _ is (outer_host Live m (Gives route) live)
    alive_on (Ticking_devices place (suc count) ticks) next m event (drawn, route, is, to) may line_at awaits tie knows in_time accepts judges live = alive_as m event _ is (outer_host Live m (Device_ticks place drawn route) live)
    alive_on (Ticking_chip ticks) next m event (is, to) may line_at awaits tie knows in_time accepts judges live = alive_as m event _ is (outer_host Live m Chip_ticks live)
    alive_on (Ticking_decoder ticks) next m event (is, to) may line_at awaits tie knows in_time accepts judges live = alive_as m event _ is (decoder_host Live m live)
    alive_on (Ticking_host (first ∷ events) ticks) next m event (is, to) may line_at awaits tie knows in_time accepts judges live =
        alive_as m event _ is (does_host Live m first (tick_alive m first events line_at.1 awaits tie (subst (IsInTime m) is in_time) live))
    alive_on (Sleeping passes ticks) next m event (node, wants, is, to) may line_at awaits tie knows in_time accepts judges live =
        alive_as m event _ is (does_host Live m (no_more_event m.host.state node) (wants_alive m.host.state node knows wants live))
    alive_on (Submitting passes ticks) next m event (asked, next_so, is, to) may line_at awaits tie knows in_time accepts judges live =
        alive_as m event _ is (does_host Live m asked (submits_alive m.host.state asked knows tie.paid next_so (may_host m asked (subst (May m) is may)) live))
    alive_on (Moving passes ticks) next m event (rest, ways, is, to) may line_at awaits tie knows in_time accepts judges live =
        alive_as m event _ is (outer_host Live m (Chip_takes (length m.outside.outer.to_chip.bytes) rest ways) live)
    alive_on (Moved b passes ticks) next m event (rest, items, done, is, to) may line_at awaits tie knows in_time accepts judges live = judges b passes rest items done is line_at tie
    alive_on here next m event goes may line_at awaits tie knows in_time accepts judges live = absurd goes
