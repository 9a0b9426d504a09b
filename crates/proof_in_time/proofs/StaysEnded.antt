-- A command whose session is over is so at every event of the machine at which no host starts, whatever is known besides.
use Rattle.std.proofs.Common.{◌≡◌, ◌<◌, ◌+◌, ◌-◌, ◌==◌, ◌&&◌, ℕ, nat_lt, inl, inr, Bool, true, false, if◌then◌else◌, List, [], ◌∷◌, length, length-append, refl, arith}
use Rattle.std.specs.Prelude.{Option, Some, None}
use Rattle.supervision.specs.Host.{begun_of, told_of}
use Rattle.supervision.specs.declared.host_node.Told.{Told}
use Rattle.supervision.specs.declared.host_node.Told.TheVariants.{Final, Working, Old}
use Rattle.host_requests.specs.Events.{end_at}
use Rattle.host_requests.specs.Events.RequestsEvent.{Fails}
use Rattle.host_requests.specs.declared.end.End.{End}
use Rattle.host_requests.specs.declared.end.How.{How}
use Rattle.host_requests.specs.declared.task.Purpose.{Purpose}
use Rattle.host_requests.specs.declared.task.Purpose.TheVariants.{Housekeeping, Attempt, Abort}
use Rattle.host_requests.specs.declared.task.Task.{Task}
use Rattle.host_requests.specs.declared.task.Task.TheVariants.{NoMore}
use Rattle.host_node.specs.declared.attempt.Moment.{Moment}
use Rattle.host_node.specs.declared.attempt.Moment.TheVariants.{BeforeItsTick, BetweenTicks}
use Rattle.host_node.specs.declared.attempt.Plan.TheVariants.{Whole, Segments, Sealed}
use Rattle.host_node.specs.declared.no_more.NoMore.TheVariants.{Unasked}
use Rattle.host_node.specs.State.{NodeState, has_waiting, is_idle, is_open, is_running, is_up}
use Rattle.host_node.specs.Events.{NodeEvent, after as after_node}
use Rattle.host_node.specs.Events.NodeEvent.{Joins, Interviews, Puts, Takes_back, Accepts, Cancels, Begins, Blocks, Starts, Gives_segment, Gives_text, Succeeds, Takes_nonce, Restores_seen, Ends_attempt, Reports, Holds, Notifies, Sleeps, Queues_no_more, Drops_no_more, Ends_no_more, Ticks, Restarts}
use Rattle.host_node.specs.Steps.{after_again, after_again_tick, after_attempt_end, after_attempts, after_hold_tick, after_no_more, after_occasion, after_sign, after_sleep, after_told, as_recorded, asleep, new_series, next_due, oldest, series_over, tried_again, wait_ticks, with_again, with_wait, without_attempt}
use Rattle.host_model.specs.After.{after, failing_if, gives_up, line_ticked}
use Rattle.host_model.specs.Did.{after_all}
use Rattle.host_model.specs.Ends.{PartEnd, Good, Passed_over, Bad, part_end}
use Rattle.host_model.specs.Events.{HostEvent, Accepts as host_accepts, Cancels as host_cancels, Requests_do as host_requests_do, Interviews as host_interviews, Notifies as host_notifies, Line_ticks, Node_ticks, Queues_no_more as host_queues_no_more, Drops_no_more as host_drops_no_more, Starts as host_starts, Begins as host_begins, Begin_unkept}
use Rattle.host_model.specs.State.{HostState, node_of}
use Rattle.serial_link.specs.State.{tick_side}
use Rattle.world_model.specs.State.{Machine}
use Rattle.world_model.specs.Events.{Event, Outside_does, Host_does, Host_takes, Decoder_ticks, Refuses, Shows_values, Restarts as Machine_restarts, happens}
use Rattle.proof_answered.specs.proof_calm.proof_work.proof_walk.Phases.{Phase, Goes}
use Rattle.proof_answered.proofs.NodeSteps.{AllowsAt, AllowsEnd, AllowsEndIf, AllowsPart, AllowsPurpose, AllowsTask, AllowsTaskIf, AllowsWaking, IsAside}
use Rattle.proof_answered.proofs.SleeperHosts.{OfNode, PlaceIs, on_place}
use Rattle.proof_in_time.specs.InHand.{HasEnded, IsPast}
use Rattle.proof_in_time.proofs.InHand.{command_before, same_ended}
use Rattle.proof_in_time.proofs.QuietPhases.{IsNoStart, QuietAt, no_start_of}

-- ---- at each event of its node

module _ (command : ℕ) where
  abbrev Over : NodeState → Type 0
  Over x = HasEnded command x.book

  either : (b : Bool) (x y : NodeState) → Over x → Over y → Over (if b then x else y)
  either true x y first later = first
  either false x y first later = later

  -- the attempts that were counted do not matter
  counted : (x y : NodeState) → y.book.commands ≡ x.book.commands → y.book.outcome ≡ x.book.outcome → Over x → Over y
  counted x y commands outcome is = same_ended command x.book y.book commands outcome is

  occasion : (x : NodeState) → Over x → Over (after_occasion x)
  occasion x is = either (is_open x && is_up x && is_idle x.series) (new_series x) x (counted x (new_series x) refl refl is) is

  sign : (x : NodeState) → Over x → Over (after_sign x)
  sign x is = either (is_running x.series) (with_wait x wait_ticks) x is is

  sleep : (x : NodeState) → Over x → Over (after_sleep x)
  sleep x is = either x.listens x (asleep x) is is

  told : (x : NodeState) (status : ℕ) (t : Told) → Over x → Over (after_told x status t)
  told x status (Final number) is = record { session = is.session; was = is.was; past = past is.past }
    where
      past : IsPast is.session x.book → IsPast is.session (after_told x status (Final number)).book
      past (inl more) = inl more
      past (inr (last, none)) = inr (last, refl)
  told x status Working is = sign x is
  told x status Old is = is

  attempts : (x : NodeState) (count : ℕ) (moment : Moment) → Over x → Over (after_attempts x count moment)
  attempts x count moment is =
      either (nat_lt count 3) (next_due x count) (after_sleep (series_over x count moment)) (counted x (next_due x count) refl refl is)
      (sleep (series_over x count moment) (counted x (series_over x count moment) refl refl is))

  attempt_end : (x : NodeState) (moment : Moment) → Over x → Over (after_attempt_end x moment)
  attempt_end x moment is =
      either (is_running x.series) (after_attempts (without_attempt x) (x.book.attempts + 1) moment) x (attempts (without_attempt x) (x.book.attempts + 1) moment is) is

  again : (x : NodeState) → Over x → Over (after_again_tick x)
  again x is =
      either (x.again_wait == 1) (after_again (with_again x 0)) (with_again x (x.again_wait - 1))
      (either (has_waiting (with_again x 0)) (after_occasion (with_again x 0)) (with_again x 0) (occasion (with_again x 0) is) is) is

  ticked : (x : NodeState) → Over x → Over (after_node x Ticks)
  ticked x is =
      either ((after_again_tick (after_hold_tick x)).attempt_wait == 1) (after_attempt_end (after_again_tick (after_hold_tick x)) BetweenTicks)
      (with_wait (after_again_tick (after_hold_tick x)) ((after_again_tick (after_hold_tick x)).attempt_wait - 1)) (attempt_end (after_again_tick (after_hold_tick x)) BetweenTicks there) there
    where
      there : Over (after_again_tick (after_hold_tick x))
      there = again (after_hold_tick x) is

  begun : (x : NodeState) → Over x → Over (after_node x Begins)
  begun x is = record { session = is.session; was = command_before x.book.commands is.session command (oldest x) is.was; past = past is.past }
    where
      one_more : begun_of (after_node x Begins).book ≡ begun_of x.book + 1
      one_more = length-append x.book.commands (oldest x ∷ [])

      past : IsPast is.session x.book → IsPast is.session (after_node x Begins).book
      past (inl more) = inl (omega (arith, more, one_more))
      past (inr (last, none)) = inl (omega (arith, last, one_more))

  abbrev Any : NodeState → NodeEvent → Type 0
  Any x event = Unit {0}

  any_aside : (x : NodeState) (event : NodeEvent) → IsAside event → Any x event
  any_aside x event aside = tt

  over_on : (x : NodeState) (event : NodeEvent) → Any x event → Over x → Over (after_node x event)
  over_on x Joins any is = is
  over_on x (Interviews listens classes) any is = is
  over_on x (Puts other) any is = is
  over_on x Takes_back any is = is
  over_on x Accepts any is = occasion x is
  over_on x (Cancels other) any is = is
  over_on x Begins any is = begun x is
  over_on x Blocks any is = is
  over_on x (Starts Whole) any is = is
  over_on x (Starts (Segments count)) any is = is
  over_on x (Starts (Sealed plain)) any is = is
  over_on x Gives_segment any is = is
  over_on x Gives_text any is = is
  over_on x Succeeds any is = sign x is
  over_on x (Takes_nonce seen text) any is = is
  over_on x (Restores_seen seen) any is = is
  over_on x (Ends_attempt moment) any is = attempt_end x moment is
  over_on x (Reports id status) any is = told x status (told_of x.book id status) is
  over_on x Holds any is = is
  over_on x Notifies any is = occasion (record x { awake = true; no_more = tried_again x.no_more }) is
  over_on x Sleeps any is = sleep x is
  over_on x Queues_no_more any is = is
  over_on x Drops_no_more any is = is
  over_on x Ends_no_more any is = sleep (after_no_more x Unasked) is
  over_on x Ticks any is = ticked x is
  over_on x Restarts any is = occasion (as_recorded x) (counted x (as_recorded x) refl refl is)

  -- ---- at each event of the host

  module _ (n : ℕ) (within : n < 233) where
    abbrev Allows : ℕ → NodeState → NodeEvent → Type 0
    Allows = OfNode Any n

    part_any : (k : ℕ) (x : NodeState) (end : PartEnd) (moment : Moment) → AllowsPart Allows k x end moment
    part_any k x Good moment = tt
    part_any k x Passed_over moment = tt
    part_any k x Bad moment = λ same. tt

    purpose_any : (h : HostState) (purpose : Purpose) (how : How) (moment : Moment) → AllowsEnd Allows h purpose how moment
    purpose_any h (Attempt k more payload) how moment = part_any k (node_of h k) (part_end more how) moment
    purpose_any h (Housekeeping task) how moment = tt
    purpose_any h Abort how moment = tt

    end_any : (h : HostState) (end : Option End) (moment : Moment) → AllowsEndIf Allows h end moment
    end_any h None moment = tt
    end_any h (Some end) moment = purpose_any h end.purpose end.how moment

    task_any : (h : HostState) (task : Task) → AllowsTask Allows h task
    task_any h (NoMore k) = λ same. tt
    task_any h task = tt

    told_any : (h : HostState) (purpose : Purpose) → AllowsPurpose Allows h purpose
    told_any h (Housekeeping task) = task_any h task
    told_any h purpose = tt

    told_if_any : (h : HostState) (end : Option End) → AllowsTaskIf Allows h end
    told_if_any h None = tt
    told_if_any h (Some end) = told_any h end.purpose

    -- but for the line's own tick
    abbrev IsNoLine : HostEvent → Type 0
    IsNoLine Line_ticks = ⊥
    IsNoLine event = Unit {0}

    at_any : (h : HostState) (event : HostEvent) → IsNoLine event → AllowsAt Allows h event
    at_any h (host_requests_do event moment) quiet = end_any h (end_at h.requests event) moment
    at_any h (host_interviews k listens classes update) quiet = λ same. tt
    at_any h (Node_ticks k) quiet = λ same. tt
    at_any h (host_starts k plan more payload) quiet = λ same. tt
    at_any h (host_cancels other) quiet = λ same. tt
    at_any h (host_begins k session other) quiet = λ same. tt
    at_any h (Begin_unkept k) quiet = λ same. tt
    at_any h Line_ticks quiet = absurd quiet
    at_any h event quiet = tt

    waking_any : (h : HostState) (event : HostEvent) → AllowsWaking Allows h event
    waking_any h (host_accepts order carriage) = (λ same. tt, λ same. tt)
    waking_any h (host_requests_do event moment) = told_if_any h (end_at h.requests event)
    waking_any h (host_notifies k) = λ same. tt
    waking_any h (host_queues_no_more k) = λ same. tt
    waking_any h (host_drops_no_more k) = λ same. tt
    waking_any h event = tt

    abbrev Stays : HostState → Type 0
    Stays h = PlaceIs Over n h.nodes

    other_on : (h : HostState) (event : HostEvent) → IsNoLine event → Stays h → Stays (after h event)
    other_on h event quiet at = on_place Over Any any_aside over_on n within h event (at_any h event quiet) (waking_any h event) at

    failing_on : (b : Bool) (h : HostState) → Stays h → Stays (failing_if b h)
    failing_on true h at = other_on h (host_requests_do Fails BeforeItsTick) tt at
    failing_on false h at = at

    host_on : (h : HostState) (event : HostEvent) → Stays h → Stays (after h event)
    host_on h Line_ticks at = failing_on (gives_up h.side.turn (tick_side h.side).turn) (line_ticked h) (record { places = at.places; is = at.is })
    host_on h event at = other_on h event tt at

    hosts_on : (h : HostState) (events : List HostEvent) → Stays h → Stays (after_all h events)
    hosts_on h [] at = at
    hosts_on h (event ∷ events) at = hosts_on (after h event) events (host_on h event at)

    -- ---- of the machine

    machine_on : (m : Machine) (event : Event) → IsNoStart event → Stays m.host.state → Stays (happens m event).host.state
    unfolding happens
    machine_on m (Outside_does event) none at = at
    machine_on m (Host_does event) none at = host_on m.host.state event at
    machine_on m (Host_takes count rest items events) none at = hosts_on m.host.state events at
    machine_on m Decoder_ticks none at = at
    machine_on m (Refuses line refusal) none at = at
    machine_on m (Shows_values node) none at = at
    machine_on m (Machine_restarts state) none at = absurd none

-- ---- so over lines

abbrev pub IsEnded : ℕ → ℕ → Machine → Type 0
IsEnded n command m = (length m.host.state.nodes ≡ 233) × HasEnded command (node_of m.host.state n).book

pub ended_on : (n command : ℕ) → n < 233 → (here next : Phase) (m : Machine) (event : Event) → Goes here m event next → QuietAt here → IsEnded n command m → IsEnded n command (happens m event)
ended_on n command within here next m event goes quiet ended =
    let stays : PlaceIs (Over command) n (happens m event).host.state.nodes = machine_on command n within m event (no_start_of here next m event goes quiet) (record { places = ended.0; is = ended.1 }) in
    (stays.places, stays.is)
