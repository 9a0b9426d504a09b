-- What is to come of an attempt of a node, from phase to phase, and that no wait of one runs out.
use Rattle.std.proofs.Common.{◌≡◌, ◌≢◌, ◌≤◌, ◌<◌, ℕ, suc, ◌+◌, ◌-◌, ◌==◌, ◌&&◌, nat_le, nat_lt, inl, inr, Bool, true, false, if◌then◌else◌, List, [], ◌∷◌, length, refl, sym, ap, ◌∙◌, subst, arith}
use Rattle.std.proofs.lemmas.Bool.{eq-eqb, eqb-true}
use Rattle.std.specs.Prelude.{◌⊎◌, Option, Some, None, IsSome, slice_get, slice_set}
use Rattle.zw_base.specs.declared.order.Order.{Order}
use Rattle.zw_text.specs.declared.line.Line.{Line}
use Rattle.zw_text.specs.declared.entry.Entry.TheVariants as entry
use Rattle.zw_text.specs.declared.entry.Refusal.{Refusal}
use Rattle.supervision.specs.Host.{begun_of, open_session}
use Rattle.supervision.specs.declared.session.TheConstants.{WORKING}
use Rattle.serial_frame.specs.Frame.{FrameParts}
use Rattle.serial_link.specs.declared.turn.Turn.TheVariants.{Idle as no_turn}
use Rattle.route_table.specs.declared.route.Route.{Route}
use Rattle.chip_functions.specs.Field.{IsNode}
use Rattle.chip_sim.specs.Nodes.{is_marked}
use Rattle.device_sim.specs.Event.{DeviceEvent, Hears as device_hears, Ticks, device_after, device_replies}
use Rattle.device_sim.specs.State.{State}
use Rattle.host_orders.specs.Refusals.{IsFit}
use Rattle.host_orders.specs.Wrapping.{message_of}
use Rattle.host_orders.specs.declared.carriage.Carriage.{Carriage}
use Rattle.host_node.specs.State.{NodeState}
use Rattle.host_node.specs.Steps.{after_start}
use Rattle.host_node.specs.Facts.{NodeFacts, SeriesFacts}
use Rattle.host_node.specs.declared.attempt.Plan.{Plan}
use Rattle.host_node.specs.declared.attempt.Plan.TheVariants.{Whole, Segments, Sealed}
use Rattle.host_node.specs.declared.series.Series.{Series}
use Rattle.host_node.specs.declared.series.Series.TheVariants as series
use Rattle.host_model.specs.After.{after}
use Rattle.host_model.specs.Events.{HostEvent, Accepts, Line_ticks, Node_ticks, Requests_do, Starts}
use Rattle.host_model.specs.State.{HostState, node_of}
use Rattle.host_model.specs.Ticking.{tick_events}
use Rattle.outside_model.specs.Events.{OuterEvent, Begins_line, Begins_tick, Arrives, Device_ticks, Chip_ticks, Wakes_device, Shows, Cuts, devices_after, outcome}
use Rattle.world_model.specs.Events.{Event, Outside_does, Host_does, Decoder_ticks, Refuses, Shows_values, happens, May, shown_values}
use Rattle.world_model.specs.State.{Machine}
use Rattle.world_model.proofs.Hosting.{devices_host-all}
use Rattle.proof_answered.specs.proof_calm.proof_traffic.OnAir.{on_air}
use Rattle.proof_answered.specs.proof_calm.proof_work.proof_walk.Phases.{Phase, Said_line, Begun, Doing, To_tick, Ticked, Arriving, Ticking_devices, Ticking_chip, Ticking_decoder, Ticking_host}
use Rattle.proof_answered.proofs.Judging.{AnyFrame}
use Rattle.proof_answered.proofs.proof_traffic_Parts.{Airs}
use Rattle.proof_answered.specs.proof_calm.Awaited.{Awaits}
use Rattle.proof_answered.specs.proof_calm.Live.{HasLive, IsLive}
use Rattle.proof_answered.specs.proof_calm.Resting.{IsEffect, IsGiven, IsOfTick}
use Rattle.proof_answered.specs.proof_calm.Tied.{unheard}
use Rattle.proof_answered.proofs.Calm.{does_calm, enters_calm}
use Rattle.proof_answered.proofs.ChipNotices.{entered_leaves}
use Rattle.proof_answered.proofs.Outwards.{next_is_live}
use Rattle.mesh_sim.specs.Air.{is_joined}
use Rattle.mesh_sim.specs.Fates.{dead_hop_of, fate_of, listener_of, place_of}
use Rattle.mesh_sim.specs.declared.fate.Fate.TheVariants.{AtDevice}
use Rattle.proof_spoken.proofs.KeptKinds.{event_same}
use Rattle.proof_course_plain.proofs.Arrivals.{awake_at_place}
use Rattle.proof_course_plain.proofs.ChangesOutside.{place_is}
use Rattle.proof_course_plain.proofs.Replies.{one_place, one_stands}
use Rattle.proof_messages.specs.Asking.{takes_openly}
use Rattle.proof_messages.specs.Reporting.{CanSay, TellsOwn, asks_now}
use Rattle.supervision.specs.Session.{wire_id}
use Rattle.host_heard.specs.declared.payload.Heard.TheVariants.{Messages}
use Rattle.host_heard.specs.declared.told.Told.TheVariants.{Report}
use Rattle.device_kinds.specs.Answers.{report_status}
use Rattle.proof_answered.proofs.Unheard.{counts_says, decoder_says, device_says, does_says, effect_says, line_says, tick_says}
use Rattle.proof_answered.specs.Heard.{IsHeardThen}
use Rattle.proof_answered.proofs.Speaking.{fate_listens, hears_at}
use Rattle.proof_in_time.specs.Answering.{AnswersSession, Ends as Work_ends, Goes_on as Work_goes_on, IsAtWork, IsDoneOrAtWork, IsInStep, WorksOn}
use Rattle.proof_in_time.specs.Coming.{AsksFor, Asked, At_work, Coming, Flies, Has, IsAsking, IsBusy, IsMessage, IsReport, IsRequest, Sent, Stands, TellsEnd, Told, WaitsFor, has_ticked, one_later, own_ticks, ticks_left, ticks_of, is_listed}
use Rattle.proof_in_time.specs.InStep.{HasInStep, HearsInStep}
use Rattle.proof_in_time.proofs.Busy.{BusyThere, HearsStill, StayBusy, arrived_devices, arrives_busy, later_ticked, one_most, same_busy, ticked_devices, then_busy, ticks_apart, unless_ticking, wakes_busy}
use Rattle.proof_in_time.proofs.Carried.{Fits, IsNearEnd, arrives_comes, busy_on, carry, many_on_air, ticks_once}
use Rattle.proof_in_time.proofs.Grown.{Adds, Arrived, arrives_there, calm_adds, device_adds, same_adds, wakes_add}
use Rattle.proof_in_time.proofs.Landed.{answer_flies, has_piled, tick_flies}
use Rattle.proof_in_time.proofs.NodeWaits.{IsBeside, OnTable, TickOf, beside_table, own_start, own_tick}
use Rattle.proof_answered.proofs.Flying.{chip_counts}

-- ---- how far the wait of an attempt is from its end

-- it does not run where no attempt does
pub waits_none : (n : NodeState) → NodeFacts n → n.series ≢ series.Running → n.attempt_wait ≡ 0
waits_none n facts still = by n.series refl facts.series
  where
    by : (s : Series) → n.series ≡ s → SeriesFacts s n.book n.attempt_wait n.again_wait n.next_segment n.segments n.text n.pending → n.attempt_wait ≡ 0
    by series.Idle is (idle, nothing) = nothing.no_wait
    by series.Due is (due, none_again, nothing) = nothing.no_wait
    by series.Running is running = absurd (still is)

runs_or_not : (s : Series) → (s ≡ series.Running) ⊎ (s ≢ series.Running)
runs_or_not series.Running = inl refl
runs_or_not series.Idle = inr (λ e. absurd cc)
runs_or_not series.Due = inr (λ e. absurd cc)

far : (wait left own : ℕ) → (wait ≡ 0) ⊎ (70 + left + own ≤ wait) → wait ≢ 1
far wait left own (inl none) one = omega (arith, none, one)
far wait left own (inr more) one = omega (arith, more, one)

pub lasts_of : (whole : Bool) (n most : ℕ) (here : Phase) (m : Machine) → NodeFacts (node_of m.host.state n) → WaitsFor whole n most here m → (node_of m.host.state n).attempt_wait ≢ 1
lasts_of whole n most here m facts waits = by (runs_or_not (node_of m.host.state n).series)
  where
    by : ((node_of m.host.state n).series ≡ series.Running) ⊎ ((node_of m.host.state n).series ≢ series.Running) → (node_of m.host.state n).attempt_wait ≢ 1
    by (inl run) = let b = waits.bounded run in far (node_of m.host.state n).attempt_wait b.left (own_ticks n here) b.waits
    by (inr still) = λ one. let none = waits_none (node_of m.host.state n) facts still in omega (arith, none, one)

pub idle_lasts : (n : NodeState) → NodeFacts n → n.series ≡ series.Idle → n.attempt_wait ≢ 1
idle_lasts n facts idle one = let none = waits_none n facts (λ run. let wrong : series.Idle ≡ series.Running = sym idle ∙ run in absurd cc) in omega (arith, none, one)

-- a session is open where an attempt runs
open_by : (commands : List ℕ) (outcome : Option ℕ) (attempts : ℕ) → IsSome (open_session (record { commands = commands; outcome = outcome; attempts = attempts })) → open_session (record { commands = commands; outcome = outcome; attempts = attempts }) ≡ Some (length commands)
open_by [] None attempts is = absurd (let no : false ≡ true = is in cc)
open_by (command ∷ commands) None attempts is = refl
open_by commands (Some status) attempts is = absurd (let no : false ≡ true = is in cc)

pub some_by : (commands : List ℕ) (outcome : Option ℕ) (attempts : ℕ) → IsSome (open_session (record { commands = commands; outcome = outcome; attempts = attempts })) → 1 ≤ length commands
some_by [] None attempts is = absurd (let no : false ≡ true = is in cc)
some_by [] (Some status) attempts is = absurd (let no : false ≡ true = is in cc)
some_by (command ∷ commands) outcome attempts is = omega arith

is_open : (n : NodeState) → NodeFacts n → n.series ≡ series.Running → IsSome (open_session n.book)
is_open n facts run = of (subst (λ (s : Series). SeriesFacts s n.book n.attempt_wait n.again_wait n.next_segment n.segments n.text n.pending) run facts.series)
  where
    of : SeriesFacts series.Running n.book n.attempt_wait n.again_wait n.next_segment n.segments n.text n.pending → IsSome (open_session n.book)
    of facts_are = facts_are.0.is_open

pub open_where : (n : NodeState) → NodeFacts n → n.series ≡ series.Running → open_session n.book ≡ Some (begun_of n.book)
open_where n facts run = open_by n.book.commands n.book.outcome n.book.attempts (is_open n facts run)

pub begun_where : (n : NodeState) → NodeFacts n → n.series ≡ series.Running → 1 ≤ begun_of n.book
begun_where n facts run = some_by n.book.commands n.book.outcome n.book.attempts (is_open n facts run)

-- ---- where the host is as it was

pub still_fits : (n count left : ℕ) (here next : Phase) → ((place : ℕ) → ticks_left next + one_later next place ≤ ticks_left here + one_later here place) → ticks_left next ≤ ticks_left here → Fits n count here left next left
still_fits n count left here next joint alone = record { joint = λ place within. let one = joint place in omega (arith, one); alone = omega (arith, alone) }

-- the session that was begun last
abbrev pub session_of : ℕ → Machine → ℕ
session_of n m = begun_of (node_of m.host.state n).book

-- how what is to come goes on
abbrev pub Goes_on : ℕ → Phase → Machine → Phase → Machine → Type 0
Goes_on n here m next later = (left : ℕ) → Coming n (session_of n m) left here m → Coming n (session_of n m) left next later

-- no more ticks of the node itself are to come than were
abbrev pub NoMore : ℕ → Phase → Phase → Type 0
NoMore n here next = own_ticks n next ≤ own_ticks n here

pub as_far : (wait left old new : ℕ) → new ≤ old → (wait ≡ 0) ⊎ (70 + left + old ≤ wait) → (wait ≡ 0) ⊎ (70 + left + new ≤ wait)
as_far wait left old new less (inl none) = inl none
as_far wait left old new less (inr more) = inr (omega (arith, less, more))

no_fewer : (more least : ℕ) → least ≤ more + least
no_fewer more least = omega arith

pub fewer : (new old : ℕ) → new ≤ old → old ≤ 1 → new ≤ 1
fewer new old less once = omega (arith, less, once)

module _ (whole : Bool) (n most : ℕ) (here next : Phase) (less : NoMore n here next) where
  -- with the host as it was
  same_host : (m later : Machine) → later.host.state ≡ m.host.state → ((node_of m.host.state n).series ≡ series.Running → Goes_on n here m next later) → WaitsFor whole n most here m → WaitsFor whole n most next later
  same_host m later same goes w = record {
    openly = ap (λ (h : HostState). is_listed whole (node_of h n).classes) same ∙ w.openly;
    once = fewer (own_ticks n next) (own_ticks n here) less w.once;
    bounded = λ run.
        let was = sym (ap (λ (h : HostState). (node_of h n).series) same) ∙ run in
        let b = w.bounded was in
        record {
          left = b.left;
          few = b.few;
          within = b.within;
          comes = subst (λ (s : ℕ). Coming n s b.left next later) (sym (ap (λ (h : HostState). begun_of (node_of h n).book) same)) (goes was b.left b.comes);
          waits = subst (λ (h : HostState). ((node_of h n).attempt_wait ≡ 0) ⊎ (70 + b.left + own_ticks n next ≤ (node_of h n).attempt_wait)) (sym same)
              (as_far (node_of m.host.state n).attempt_wait b.left (own_ticks n here) (own_ticks n next) less b.waits);
        };
  }

  running_waits : (m : Machine) (event : OuterEvent) → ((node_of m.host.state n).series ≡ series.Running → Goes_on n here m next (happens m (Outside_does event))) → WaitsFor whole n most here m → WaitsFor whole n most next (happens m (Outside_does event))
  unfolding happens
  running_waits m event goes w = same_host m (happens m (Outside_does event)) refl goes w

  pub outer_waits : (m : Machine) (event : OuterEvent) → Goes_on n here m next (happens m (Outside_does event)) → WaitsFor whole n most here m → WaitsFor whole n most next (happens m (Outside_does event))
  outer_waits m event goes w = running_waits m event (λ run. goes) w

  pub decoder_waits : (m : Machine) → Goes_on n here m next (happens m Decoder_ticks) → WaitsFor whole n most here m → WaitsFor whole n most next (happens m Decoder_ticks)
  unfolding happens
  decoder_waits m goes w = same_host m (happens m Decoder_ticks) refl (λ run. goes) w

  pub refuses_waits : (m : Machine) (event : Event) → (happens m event).host.state ≡ m.host.state → Goes_on n here m next (happens m event) → WaitsFor whole n most here m → WaitsFor whole n most next (happens m event)
  refuses_waits m event same goes w = same_host m (happens m event) same (λ run. goes) w

  -- the same machine at another phase
  pub turn_waits : (m : Machine) → Goes_on n here m next m → WaitsFor whole n most here m → WaitsFor whole n most next m
  turn_waits m goes w = same_host m m refl (λ run. goes) w

-- within more ticks
pub later_waits : (whole : Bool) (n most more : ℕ) (here : Phase) (m : Machine) → most ≤ more → WaitsFor whole n most here m → WaitsFor whole n more here m
later_waits whole n most more here m less w = record {
  openly = w.openly;
  once = w.once;
  bounded = λ run. let b = w.bounded run in let within = b.within in record { left = b.left; few = b.few; within = omega (arith, within, less); comes = b.comes; waits = b.waits };
}

-- ---- where it does something

pub again_far : (wait old left was now : ℕ) → left ≤ 23 → now ≤ was → was ≤ 1 → (wait ≡ old) ⊎ (wait ≡ 100) → (old ≡ 0) ⊎ (70 + left + was ≤ old) → (wait ≡ 0) ⊎ (70 + left + now ≤ wait)
again_far wait old left was now few less once (inl same) (inl none) = inl (same ∙ none)
again_far wait old left was now few less once (inl same) (inr more) = inr (omega (arith, same, more, less))
again_far wait old left was now few less once (inr anew) so = inr (omega (arith, anew, few, less, once))

module _ (whole : Bool) (n most : ℕ) (within : n < 233) where
  pub does_waits : (here next : Phase) (m : Machine) (event : HostEvent) → NoMore n here next → IsBeside n m.host.state event → length m.host.state.nodes ≡ 233 → Goes_on n here m next (happens m (Host_does event)) → WaitsFor whole n most here m
      → WaitsFor whole n most next (happens m (Host_does event))
  unfolding happens
  does_waits here next m event less beside places goes w =
      let table : OnTable n (node_of m.host.state n) (after m.host.state event).nodes = beside_table n within m.host.state event places beside in
      record {
        openly = ap (is_listed whole) table.from.same ∙ w.openly;
        once = fewer (own_ticks n next) (own_ticks n here) less w.once;
        bounded = λ run.
            let k = table.from.keeps run in
            let b = w.bounded k.running in
            record {
              left = b.left;
              few = b.few;
              within = b.within;
              comes = subst (λ (s : ℕ). Coming n s b.left next (happens m (Host_does event))) (sym (ap (λ (cs : List ℕ). length cs) k.commands_are)) (goes b.left b.comes);
              waits = again_far (node_of (after m.host.state event) n).attempt_wait (node_of m.host.state n).attempt_wait b.left (own_ticks n here) (own_ticks n next) b.few less w.once k.waits b.waits;
            };
      }

  -- its own tick
  less_far : (wait old left own : ℕ) → wait ≡ old - 1 → (old ≡ 0) ⊎ (70 + left + (1 + own) ≤ old) → (wait ≡ 0) ⊎ (70 + left + own ≤ wait)
  less_far wait old left own is (inl none) = inl (omega (arith, is, none))
  less_far wait old left own is (inr more) = inr (omega (arith, is, more))

  own_count : (events : List HostEvent) → ticks_of n (Node_ticks n ∷ events) ≡ 1 + ticks_of n events
  own_count events = ap (λ (b : Bool). (if b then 1 else 0) + ticks_of n events) (eq-eqb n n refl)

  abbrev Own_at : List HostEvent → ℕ → Phase
  Own_at events ticks = Ticking_host (Node_ticks n ∷ events) ticks

  tick_waits : (events : List HostEvent) (ticks : ℕ) (m : Machine) → length m.host.state.nodes ≡ 233 → (node_of m.host.state n).attempt_wait ≢ 1
      → Goes_on n (Own_at events ticks) m (Ticking_host events ticks) (happens m (Host_does (Node_ticks n))) → WaitsFor whole n most (Own_at events ticks) m → WaitsFor whole n most (Ticking_host events ticks) (happens m (Host_does (Node_ticks n)))
  unfolding happens
  tick_waits events ticks m places lasts goes w =
      let t : TickOf (node_of m.host.state n) (node_of (after m.host.state (Node_ticks n)) n) = own_tick n within m.host.state places lasts in
      let once = w.once in
      let one = own_count events in
      record {
        openly = ap (is_listed whole) t.same ∙ w.openly;
        once = omega (arith, once, one);
        bounded = λ run.
            let b = w.bounded (t.running run) in
            record {
              left = b.left;
              few = b.few;
              within = b.within;
              comes = subst (λ (s : ℕ). Coming n s b.left (Ticking_host events ticks) (happens m (Host_does (Node_ticks n)))) (sym (ap (λ (cs : List ℕ). length cs) (t.commands_are run))) (goes b.left b.comes);
              waits = less_far (node_of (after m.host.state (Node_ticks n)) n).attempt_wait (node_of m.host.state n).attempt_wait b.left (ticks_of n events) t.less
                  (subst (λ (k : ℕ). ((node_of m.host.state n).attempt_wait ≡ 0) ⊎ (70 + b.left + k ≤ (node_of m.host.state n).attempt_wait)) one b.waits);
            };
      }

  -- an attempt of its own starts
  pub start_kept : (state : NodeState) (plan : Plan)
      → ((after_start state plan).book ≡ state.book) × ((after_start state plan).classes ≡ state.classes) × ((after_start state plan).attempt_wait ≡ state.attempt_wait)
  start_kept state Whole = (refl, refl, refl)
  start_kept state (Segments count) = (refl, refl, refl)
  start_kept state (Sealed plain) = (refl, refl, refl)

  pub start_waits : (here next : Phase) (m : Machine) (plan : Plan) (more : Bool) (payload : List ℕ) → length m.host.state.nodes ≡ 233 → (node_of m.host.state n).attempt_wait ≡ 0 → IsMessage (begun_of (node_of m.host.state n).book) payload → IsAsking next
      → own_ticks n next ≤ 1 → WaitsFor whole n most here m → WaitsFor whole n 6 next (happens m (Host_does (Starts n plan more payload)))
  unfolding happens
  start_waits here next m plan more payload places none message asking once w =
      let h : HostState = m.host.state in
      let there : node_of (after h (Starts n plan more payload)) n ≡ after_start (node_of h n) plan = own_start n within h plan more payload places in
      let begun : begun_of (node_of (after h (Starts n plan more payload)) n).book ≡ begun_of (node_of h n).book = ap (λ (s : NodeState). begun_of s.book) there ∙ ap begun_of (start_kept (node_of h n) plan).0 in
      record {
        openly = ap (λ (s : NodeState). is_listed whole s.classes) there ∙ (ap (is_listed whole) (start_kept (node_of h n) plan).1 ∙ w.openly);
        once = once;
        bounded = λ run. record {
          left = 6;
          few = omega arith;
          within = omega arith;
          comes = Asked asking
              (record { request = _; more = more; payload = payload; under_way = refl; purpose = refl; message = subst (λ (s : ℕ). IsMessage s payload) (sym begun) message; frame = refl })
              (omega arith);
          waits = inl (ap (λ (s : NodeState). s.attempt_wait) there ∙ ((start_kept (node_of h n) plan).2 ∙ none));
        };
      }

-- ---- at each event

pub counted_air : (m : Machine) → (happens m (Outside_does Chip_ticks)).outside.outer.air ≡ m.outside.outer.air
unfolding happens
counted_air m = (chip_counts m.outside).0

pub shows_adds : (m : Machine) (node : ℕ) → Adds m.outside.outer (happens m (Outside_does (Shows node))).outside.outer
unfolding happens outcome
shows_adds m node = same_adds m.outside.outer (happens m (Outside_does (Shows node))).outside.outer (entered_leaves (outcome m.outside (Shows node)).outer (outcome m.outside (Shows node)).entries).air

pub decoder_adds : (m : Machine) → Adds m.outside.outer (happens m Decoder_ticks).outside.outer
unfolding happens
decoder_adds m = same_adds m.outside.outer m.outside.outer refl

pub line_devices : (m : Machine) → (happens m (Outside_does Begins_line)).outside.devices ≡ m.outside.devices
unfolding happens devices_after
line_devices m = refl

pub tick_devices : (m : Machine) → (happens m (Outside_does Begins_tick)).outside.devices ≡ m.outside.devices
unfolding happens devices_after
tick_devices m = refl

pub counted_devices : (m : Machine) → (happens m (Outside_does Chip_ticks)).outside.devices ≡ m.outside.devices
unfolding happens
counted_devices m = (chip_counts m.outside).2

pub shows_devices : (m : Machine) (node : ℕ) → (happens m (Outside_does (Shows node))).outside.devices ≡ m.outside.devices
unfolding happens devices_after
shows_devices m node = refl

pub cuts_devices : (m : Machine) (size : ℕ) → (happens m (Outside_does (Cuts size))).outside.devices ≡ m.outside.devices
unfolding happens devices_after
cuts_devices m size = refl

pub decoder_devices : (m : Machine) → (happens m Decoder_ticks).outside.devices ≡ m.outside.devices
unfolding happens
decoder_devices m = refl

pub refuses_devices : (m : Machine) (of : Line) (refusal : Refusal) → (happens m (Refuses of refusal)).outside.devices ≡ m.outside.devices
unfolding happens devices_after
refuses_devices m of refusal = refl

pub values_devices : (m : Machine) (node : ℕ) → (happens m (Shows_values node)).outside.devices ≡ m.outside.devices
unfolding happens devices_after
values_devices m node = refl

-- what is proved of devices that hear, and of those at work
pub record Devices : Type 0 where
  pub heard : (device : State) (drawn : List ℕ) (carriage : Carriage) (order : Order) (session : ℕ) → IsFit carriage.actuator order → order.end ≤ 127 → device.awake ≡ true → takes_openly device.kind ≡ true → IsInStep session device
      → AnswersSession session (device_after device (device_hears (message_of carriage order session) drawn)) (device_replies device (device_hears (message_of carriage order session) drawn))
  pub still : HearsStill
  pub works : (device : State) (drawn : List ℕ) → CanSay device → IsAtWork device → WorksOn device (device_after device (Ticks drawn)) (device_replies device (Ticks drawn))

-- what a device tells of a session that is over tells its end
pub tells_end : (session : ℕ) (new : State) (payload : List ℕ) → new.sessions.taken ≡ session → new.sessions.status ≢ WORKING → TellsOwn new payload → 1 ≤ length payload → length payload ≤ 46 → TellsEnd session payload
tells_end session new payload taken over tells some few = record {
  status = new.sessions.status;
  over = over;
  tells = record { wakes = asks_now new; heard = tells ∙ ap (λ (k : ℕ). Messages (Report (wire_id k) (report_status new.sessions.status) (asks_now new) ∷ [])) taken };
  some = some;
  few = few;
}

-- it sends this payload alone, which tells the end
abbrev Ends_by : ℕ → State → DeviceEvent → Type 0
Ends_by session device event = (reply : List ℕ) × ((device_replies device event ≡ reply ∷ []) × TellsEnd session reply)

-- the answer of a device in step tells the end, or it is at work on the session then
answer_ends : (laws : Devices) (session : ℕ) (payload drawn : List ℕ) (device : State) → IsMessage session payload → device.awake ≡ true → HearsInStep session device
    → Ends_by session device (device_hears payload drawn) ⊎ (((device_after device (device_hears payload drawn)).sessions.taken ≡ session) × IsAtWork (device_after device (device_hears payload drawn)))
answer_ends laws session payload drawn device message awake hears =
    subst (λ (p : List ℕ). Ends_by session device (device_hears p drawn) ⊎ (((device_after device (device_hears p drawn)).sessions.taken ≡ session) × IsAtWork (device_after device (device_hears p drawn)))) (sym message.is) (by answer.comes_to)
  where
    text : List ℕ
    text = message_of message.carriage message.order session

    new : State
    new = device_after device (device_hears text drawn)

    answer : AnswersSession session new (device_replies device (device_hears text drawn))
    answer = laws.heard device drawn message.carriage message.order session message.fit message.end awake hears.plain.openly hears.step

    by : IsDoneOrAtWork new → Ends_by session device (device_hears text drawn) ⊎ ((new.sessions.taken ≡ session) × IsAtWork new)
    by (inl done) = inl (answer.payload, (answer.says, tells_end session new answer.payload answer.taken done.over answer.tells answer.some answer.few))
    by (inr work) = inr (answer.taken, work)

-- with the devices as they were, one at work stays as near to its end
pub busy_still : (n session left : ℕ) (here next : Phase) (m later : Machine) → later.outside.devices ≡ m.outside.devices → ((place : ℕ) → ticks_left next + has_ticked next place ≤ ticks_left here + has_ticked here place)
    → (at : IsBusy n session m.outside.devices) → IsNearEnd n session left here m.outside.devices at → Coming n session left next later
busy_still n session left here next m later same near =
    busy_on n session left left here next m later (same_busy n session m.outside.devices later.outside.devices same) (λ place. let one = near place in omega (arith, one))

pub host_stays : (airs : Airs) (n : ℕ) (here next : Phase) (m : Machine) (event : HostEvent) → (IsAsking here → AsksFor n (session_of n m) m.host.state → ⊥) → ((left : ℕ) → Fits n (many_on_air m) here left next left)
    → ((place : ℕ) → ticks_left next + has_ticked next place ≤ ticks_left here + has_ticked here place) → Goes_on n here m next (happens m (Host_does event))
host_stays airs n here next m event none fits near left comes =
    carry n (session_of n m) left left here next m (happens m (Host_does event)) (λ asking asks six. absurd (none asking asks)) (busy_still n (session_of n m) left here next m (happens m (Host_does event)) (devices_host-all m (event ∷ [])) near) (calm_adds m.outside.outer (happens m (Host_does event)).outside.outer (does_calm airs m event))
    (λ x has. does_says AnyFrame (Has x) (has_piled x) airs m event has) (fits left) comes

pub either_node : (n k : ℕ) → (k ≡ n) ⊎ (k ≢ n)
either_node n k = by (k == n) refl
  where
    by : (b : Bool) → (k == n) ≡ b → (k ≡ n) ⊎ (k ≢ n)
    by true is = inl (eqb-true k n is)
    by false is = inr (λ same. let wrong : true ≡ false = sym (eq-eqb k n same) ∙ is in absurd cc)

-- ---- a device ticks

near_apart : (new old later was left : ℕ) → new ≤ old → later ≡ was → 0 + old + was ≤ left → 0 + new + later ≤ left
near_apart new old later was left less same few = omega (arith, less, same, few)

near_own : (new later was left : ℕ) → new ≤ 1 → later + 1 ≡ was → was ≤ left → 0 + new + later ≤ left
near_own new later was left one less few = omega (arith, one, less, few)

only_left : (old was left : ℕ) → 0 + old + was ≤ left → was ≤ left
only_left old was left few = omega (arith, few)

last_left : (was left : ℕ) → was ≡ 1 → was ≤ left → 0 + 1 ≤ left
last_left was left one few = omega (arith, one, few)

module _ (airs : Airs) (laws : Devices) (n : ℕ) (within : n < 233) (session left place count ticks : ℕ) (m : Machine) (drawn : List ℕ) (route : Option Route) (step : HasInStep n m) (joined : is_joined m.outside.outer.air n ≡ true) (is : Awaits m) where
  abbrev once_ticked : Machine
  once_ticked = happens m (Outside_does (Device_ticks place drawn route))

  abbrev StillComes : Type 0
  StillComes = Coming n session left (Ticking_devices (place + 1) count ticks) once_ticked

  -- for how many ticks a device at this place is to be at work still
  abbrev Bound : List State → Type 0
  Bound devices = (now : IsBusy n session devices) × (0 + unless_ticking (nat_le (place + 1) now.place && nat_lt now.place (place + 1 + count)) + now.device.work_left ≤ left)

  at_place : (devices : List State) (there was : ℕ) → 0 + unless_ticking (nat_le (place + 1) there && nat_lt there (place + 1 + count)) + was ≤ left → BusyThere n session there was devices → Bound devices
  at_place devices there was few (now, (place_is, left_is)) = (
    now,
    subst (λ (k : ℕ). 0 + unless_ticking (nat_le (place + 1) k && nat_lt k (place + 1 + count)) + now.device.work_left ≤ left) (sym place_is)
        (subst (λ (k : ℕ). 0 + unless_ticking (nat_le (place + 1) there && nat_lt there (place + 1 + count)) + k ≤ left) (sym left_is) few),
  )

  as_bound : Bound once_ticked.outside.devices → StillComes
  as_bound (now, few) = At_work now few

  -- another device than that at work
  others : (at : IsBusy n session m.outside.devices) → at.place ≢ place → IsNearEnd n session left (Ticking_devices place (suc count) ticks) m.outside.devices at → StillComes
  others at apart few =
      as_bound
      (at_place once_ticked.outside.devices at.place at.device.work_left
      (near_apart (unless_ticking (nat_le (place + 1) at.place && nat_lt at.place (place + 1 + count))) (unless_ticking (nat_le place at.place && nat_lt at.place (place + suc count))) at.device.work_left at.device.work_left left
      (later_ticked place count at.place apart) refl few) (ticks_apart n session m place drawn route at apart))

  -- that one: it goes on, or tells the end
  worked : (at : IsBusy n session m.outside.devices) → at.place ≡ place → at.device.work_left ≤ left → slice_get m.outside.devices place ≡ Some at.device
      → WorksOn at.device (device_after at.device (Ticks drawn)) (device_replies at.device (Ticks drawn)) → StillComes
  worked at own some there (Work_goes_on silent work taken less) =
      let new : State = device_after at.device (Ticks drawn) in
      as_bound
      (subst Bound (sym (ticked_devices m place (Some at.device) drawn route there))
      (at_place (slice_set m.outside.devices place new) place new.work_left
      (near_own (unless_ticking (nat_le (place + 1) place && nat_lt place (place + 1 + count))) new.work_left at.device.work_left left (one_most (nat_le (place + 1) place && nat_lt place (place + 1 + count))) less some)
      (then_busy n session m.outside.devices place at.device new (subst (λ (k : ℕ). place_of n m.outside.devices ≡ Some k) own at.first) there (event_same at.device (Ticks drawn)).node (taken ∙ at.taken) work.working)))
  worked at own some there (Work_ends payload says tells long short done taken one) =
      let new : State = device_after at.device (Ticks drawn) in
      let node_is : at.device.node ≡ n = place_is n m.outside.devices at.place at.device at.first at.stands in
      let flies = tick_flies airs m is place at.device drawn route session payload there (subst (λ (k : ℕ). is_joined m.outside.outer.air k ≡ true) (sym node_is) joined) (subst (λ (k : ℕ). k < 233) (sym node_is) within) says
      (tells_end session new payload (taken ∙ at.taken) done.over tells long short) in
      Flies (subst (λ (k : ℕ). Stands (IsReport k session) (on_air once_ticked.outside.outer.air.frames)) node_is flies) (last_left at.device.work_left left one some)

  own_ticks_on : (at : IsBusy n session m.outside.devices) → at.place ≡ place → at.device.work_left ≤ left → StillComes
  own_ticks_on at own some = by step.plain.at
    where
      same : step.device ≡ at.device
      same = one_stands m.outside.devices step.place at.place step.device at.device step.stands at.stands (one_place n m.outside.devices step.place at.place step.first at.first)

      by : IsDoneOrAtWork step.device → StillComes
      by (inl done) = absurd (done.over (ap (λ (d : State). d.sessions.status) same ∙ at.working))
      by (inr work) =
          worked at own some (subst (λ (k : ℕ). slice_get m.outside.devices k ≡ Some at.device) own at.stands) (laws.works at.device drawn (subst CanSay same step.plain.can) (subst IsAtWork same work))

  pub ticks_near : (at : IsBusy n session m.outside.devices) → IsNearEnd n session left (Ticking_devices place (suc count) ticks) m.outside.devices at → StillComes
  ticks_near at few = by (at.place == place) refl
    where
      by : (b : Bool) → (at.place == place) ≡ b → StillComes
      by true own = own_ticks_on at (eqb-true at.place place own) (only_left (unless_ticking (nat_le place at.place && nat_lt at.place (place + suc count))) at.device.work_left left few)
      by false other = others at (λ same. let wrong : true ≡ false = sym (eq-eqb at.place place same) ∙ other in absurd cc) few

module _ (airs : Airs) (these : List Bool) (many : length these ≡ 233) (laws : Devices) (whole : Bool) (n most : ℕ) (marked : is_marked these n ≡ true) (node : IsNode n) where
  within : n < 233
  within = let few = node.1 in omega (arith, few)

  -- what stands stays
  stay : (here next : Phase) (m later : Machine) → (IsAsking here → ⊥) → Adds m.outside.outer later.outside.outer → ((x : FrameParts) → Has x (unheard m.outside.outer) → Has x (unheard later.outside.outer))
      → ((left : ℕ) → Fits n (many_on_air m) here left next left) → StayBusy n (session_of n m) m.outside.devices later.outside.devices → ((place : ℕ) → ticks_left next + has_ticked next place ≤ ticks_left here + has_ticked here place)
      → Goes_on n here m next later
  stay here next m later none adds has fits stays near left comes =
      carry n (session_of n m) left left here next m later (λ asking asks six. absurd (none asking))
      (busy_on n (session_of n m) left left here next m later stays (λ place. let one = near place in omega (arith, one))) adds has (fits left) comes

  -- with the devices as they were
  same_stay : (here next : Phase) (m later : Machine) → (IsAsking here → ⊥) → Adds m.outside.outer later.outside.outer → ((x : FrameParts) → Has x (unheard m.outside.outer) → Has x (unheard later.outside.outer))
      → ((left : ℕ) → Fits n (many_on_air m) here left next left) → later.outside.devices ≡ m.outside.devices → ((place : ℕ) → ticks_left next + has_ticked next place ≤ ticks_left here + has_ticked here place)
      → Goes_on n here m next later
  same_stay here next m later none adds has fits same near = stay here next m later none adds has fits (same_busy n (session_of n m) m.outside.devices later.outside.devices same) near

  same_fits : (here next : Phase) → ((place : ℕ) → ticks_left next + one_later next place ≤ ticks_left here + one_later here place) → ticks_left next ≤ ticks_left here → (count left : ℕ) → Fits n count here left next left
  same_fits here next joint alone count left = still_fits n count left here next joint alone

  -- ---- outside the host

  pub line_waits : (line : Line) (m : Machine) → WaitsFor whole n most (Said_line line) m → WaitsFor whole n most (Begun line) (happens m (Outside_does Begins_line))
  unfolding happens outcome
  line_waits line m w =
      outer_waits whole n most (Said_line line) (Begun line) (omega arith) m Begins_line
      (same_stay (Said_line line) (Begun line) m (happens m (Outside_does Begins_line)) (λ a. a) (same_adds m.outside.outer (happens m (Outside_does Begins_line)).outside.outer refl) (λ x has. line_says AnyFrame (Has x) (has_piled x) m has)
      (same_fits (Said_line line) (Begun line) (λ place. omega arith) (omega arith) (many_on_air m)) (line_devices m) (λ place. omega arith)) w

  -- a tick begins: one fewer is to begin
  pub some_left : (ticks session left : ℕ) (m : Machine) → Coming n session left (To_tick (suc ticks)) m → 1 ≤ left
  some_left ticks session left m (Asked asking asks six) = absurd asking
  some_left ticks session left m (Sent at few) = omega (arith, few)
  some_left ticks session left m (Flies at few) = omega (arith, few)
  some_left ticks session left m (At_work at few) = omega (arith, few)
  some_left ticks session left m (Told payload tells has few) = omega (arith, few)

  begun_far : (wait left : ℕ) → 1 ≤ left → (wait ≡ 0) ⊎ (70 + left + 0 ≤ wait) → (wait ≡ 0) ⊎ (70 + (left - 1) + 1 ≤ wait)
  begun_far wait left some (inl none) = inl none
  begun_far wait left some (inr more) = inr (omega (arith, some, more))

  pub begins_waits : (ticks : ℕ) (m : Machine) → WaitsFor whole n most (To_tick (suc ticks)) m → WaitsFor whole n (most - 1) (Ticked ticks) (happens m (Outside_does Begins_tick))
  unfolding happens outcome
  begins_waits ticks m w = record {
    openly = w.openly;
    once = omega arith;
    bounded = λ run.
        let b = w.bounded run in
        let some = some_left ticks (session_of n m) b.left m b.comes in
        let few = b.few in
        let within = b.within in
        record {
          left = b.left - 1;
          few = omega (arith, few);
          within = omega (arith, within);
          comes = carry n (session_of n m) b.left (b.left - 1) (To_tick (suc ticks)) (Ticked ticks) m (happens m (Outside_does Begins_tick)) (λ asking asks six. absurd asking)
              (busy_on n (session_of n m) b.left (b.left - 1) (To_tick (suc ticks)) (Ticked ticks) m (happens m (Outside_does Begins_tick))
              (same_busy n (session_of n m) m.outside.devices (happens m (Outside_does Begins_tick)).outside.devices (tick_devices m)) (λ place. omega (arith, some)))
              (same_adds m.outside.outer (happens m (Outside_does Begins_tick)).outside.outer refl) (λ x has. tick_says AnyFrame (Has x) (has_piled x) m has)
              (record { joint = λ place within_it. omega (arith, some); alone = omega (arith, some) }) b.comes;
          waits = begun_far (node_of m.host.state n).attempt_wait b.left some b.waits;
        };
  }

  pub ticks_wait : (place count ticks : ℕ) (m : Machine) (drawn : List ℕ) (route : Option Route) → HasInStep n m → is_joined m.outside.outer.air n ≡ true → Awaits m → WaitsFor whole n most (Ticking_devices place (suc count) ticks) m
      → WaitsFor whole n most (Ticking_devices (place + 1) count ticks) (happens m (Outside_does (Device_ticks place drawn route)))
  ticks_wait place count ticks m drawn route step joined is w =
      outer_waits whole n most (Ticking_devices place (suc count) ticks) (Ticking_devices (place + 1) count ticks) (omega arith) m (Device_ticks place drawn route)
      (λ left comes.
      carry n (session_of n m) left left (Ticking_devices place (suc count) ticks) (Ticking_devices (place + 1) count ticks) m (happens m (Outside_does (Device_ticks place drawn route))) (λ asking asks six. absurd asking)
      (ticks_near airs laws n within (session_of n m) left place count ticks m drawn route step joined is) (device_adds airs m is place drawn route) (λ x has. device_says AnyFrame (Has x) (has_piled x) m place drawn route has)
      (same_fits (Ticking_devices place (suc count) ticks) (Ticking_devices (place + 1) count ticks) (λ at. omega arith) (omega arith) (many_on_air m) left) comes) w

  pub chip_waits : (ticks : ℕ) (m : Machine) → IsGiven 0 m → IsGiven 1 (happens m (Outside_does Chip_ticks)) → WaitsFor whole n most (Ticking_chip ticks) m → WaitsFor whole n most (Ticking_decoder ticks) (happens m (Outside_does Chip_ticks))
  chip_waits ticks m given later w =
      outer_waits whole n most (Ticking_chip ticks) (Ticking_decoder ticks) (omega arith) m Chip_ticks
      (same_stay (Ticking_chip ticks) (Ticking_decoder ticks) m (happens m (Outside_does Chip_ticks)) (λ a. a) (chip_adds m) (λ x has. counts_says AnyFrame (Has x) (has_piled x) m given later has)
      (same_fits (Ticking_chip ticks) (Ticking_decoder ticks) (λ place. omega arith) (omega arith) (many_on_air m)) (counted_devices m) (λ place. omega arith)) w
    where
      chip_adds : (k : Machine) → Adds k.outside.outer (happens k (Outside_does Chip_ticks)).outside.outer
      chip_adds k = same_adds k.outside.outer (happens k (Outside_does Chip_ticks)).outside.outer (counted_air k)

  pub unfinished_waits : (ticks : ℕ) (m : Machine) → WaitsFor whole n most (Ticking_decoder ticks) m → WaitsFor whole n most (Ticking_host (tick_events m.host.state) ticks) (happens m Decoder_ticks)
  unfinished_waits ticks m w =
      let once = ticks_once n m.host.state in
      decoder_waits whole n most (Ticking_decoder ticks) (Ticking_host (tick_events m.host.state) ticks) once m
      (same_stay (Ticking_decoder ticks) (Ticking_host (tick_events m.host.state) ticks) m (happens m Decoder_ticks) (λ a. a) (decoder_adds m) (λ x has. decoder_says AnyFrame (Has x) (has_piled x) m has)
      (same_fits (Ticking_decoder ticks) (Ticking_host (tick_events m.host.state) ticks) (λ place. omega arith) (omega arith) (many_on_air m)) (decoder_devices m) (λ place. omega arith)) w

  for_five : (session place left : ℕ) (devices : List State) → left ≤ 5 → BusyThere n session place left devices → (busy : IsBusy n session devices) × (busy.device.work_left ≤ 5)
  for_five session place left devices few (busy, (place_is, left_is)) = (busy, subst (λ (k : ℕ). k ≤ 5) (sym left_is) few)

  pub arrives_wait : (frames ticks : ℕ) (m : Machine) (drawn : List ℕ) (route : Option Route) → May m (Outside_does (Arrives drawn route)) → HasInStep n m → is_joined m.outside.outer.air n ≡ true → NodeFacts (node_of m.host.state n) → Awaits m
      → IsHeardThen m (Outside_does (Arrives drawn route)) → HasLive these m.outside.outer → IsGiven 0 m → IsGiven 0 (happens m (Outside_does (Arrives drawn route))) → length m.outside.outer.chip.state.port.waiting ≤ 31 → WaitsFor whole n most (Arriving (suc frames) ticks) m
      → WaitsFor whole n most (Arriving frames ticks) (happens m (Outside_does (Arrives drawn route)))
  arrives_wait frames ticks m drawn route may step joined facts is hears live given later room w =
      running_waits whole n most (Arriving (suc frames) ticks) (Arriving frames ticks) (omega arith) m (Arrives drawn route) goes w
    where
      at : Arrived airs m is drawn route
      at = arrives_there airs m is drawn route may

      alive : at.frame.node ≡ n → IsLive m.outside.outer.air.network at.frame
      alive same = next_is_live these m.outside.outer live at.frame at.next (λ home. subst (λ (k : ℕ). is_marked these k ≡ true) (sym same) marked)

      -- the device of the node that hears it
      heard : IsRequest n (session_of n m) at.frame → (place : ℕ) (device : State) → place_of n m.outside.devices ≡ Some place → slice_get m.outside.devices place ≡ Some device
          → fate_of m.outside.outer.air.network m.outside.devices at.frame ≡ AtDevice place
          → Ends_by (session_of n m) device (device_hears at.frame.payload drawn)
          ⊎ (((device_after device (device_hears at.frame.payload drawn)).sessions.taken ≡ session_of n m) × IsAtWork (device_after device (device_hears at.frame.payload drawn)))
          → Stands (IsReport n (session_of n m)) (on_air (happens m (Outside_does (Arrives drawn route))).outside.outer.air.frames) ⊎ ((busy : IsBusy n (session_of n m) (happens m (Outside_does (Arrives drawn route))).outside.devices) × (busy.device.work_left ≤ 5))
      heard request place device first there fate (inl (reply, (replies, tells))) =
          inl
          (subst (λ (k : ℕ). Stands (IsReport k (session_of n m)) (on_air (happens m (Outside_does (Arrives drawn route))).outside.outer.air.frames)) request.node
          (answer_flies airs m is drawn route at (session_of n m) place device reply fate there (subst (λ (k : ℕ). is_joined m.outside.outer.air k ≡ true) (sym request.node) joined)
          (subst (λ (k : ℕ). k < 233) (sym request.node) within) replies tells))
      heard request place device first there fate (inr (taken, work)) =
          let new : State = device_after device (device_hears at.frame.payload drawn) in
          inr
          (subst (λ (ds : List State). (busy : IsBusy n (session_of n m) ds) × (busy.device.work_left ≤ 5)) (sym (arrived_devices m drawn route at.frame place device at.next fate there))
          (for_five (session_of n m) place new.work_left (slice_set m.outside.devices place new) work.few
          (then_busy n (session_of n m) m.outside.devices place device new first there (event_same device (device_hears at.frame.payload drawn)).node taken work.working)))

      -- it answers, or comes to work
      answers : (node_of m.host.state n).series ≡ series.Running → IsRequest n (session_of n m) at.frame
          → Stands (IsReport n (session_of n m)) (on_air (happens m (Outside_does (Arrives drawn route))).outside.outer.air.frames) ⊎ ((busy : IsBusy n (session_of n m) (happens m (Outside_does (Arrives drawn route))).outside.devices) × (busy.device.work_left ≤ 5))
      answers run request =
          let session : ℕ = begun_of (node_of m.host.state n).book in
          let there = hears at.frame at.next request.out in
          let first : place_of n m.outside.devices ≡ Some there.0 = subst (λ (k : ℕ). place_of k m.outside.devices ≡ Some there.0) request.node (hears_at m.outside.outer.air.network m.outside.devices at.frame there.0 there.1) in
          let place : step.place ≡ there.0 = one_place n m.outside.devices step.place there.0 step.first first in
          let stands : slice_get m.outside.devices there.0 ≡ Some step.device = subst (λ (k : ℕ). slice_get m.outside.devices k ≡ Some step.device) place step.stands in
          let listener : listener_of at.frame.node m.outside.devices ≡ Some there.0 =
          fate_listens at.frame.lost (dead_hop_of m.outside.outer.air.network at.frame) at.frame.heading (listener_of at.frame.node m.outside.devices) there.0 there.1 in
          let awake : step.device.awake ≡ true = awake_at_place m.outside.devices at.frame.node there.0 step.device listener stands in
          heard request there.0 step.device first stands there.1
          (answer_ends laws session at.frame.payload drawn step.device request.message awake (record { plain = step.plain; step = step.step (begun_where (node_of m.host.state n) facts run) }))

      goes : (node_of m.host.state n).series ≡ series.Running → Goes_on n (Arriving (suc frames) ticks) m (Arriving frames ticks) (happens m (Outside_does (Arrives drawn route)))
      goes run left comes = arrives_comes airs m is drawn route at given later room n alive (session_of n m) left frames ticks (answers run) (arrives_busy laws.still n (session_of n m) m drawn route) comes

  -- ---- in a line

  effect_fits : (line : Line) (first : Event) (left : List Event) (count k : ℕ) → Fits n count (Doing line (first ∷ left)) k (Doing line left) k
  effect_fits line first left count k = still_fits n count k (Doing line (first ∷ left)) (Doing line left) (λ place. omega arith) (omega arith)

  pub effect_waits : (line : Line) (left : List Event) (m : Machine) (event : Event) → IsEffect event → Awaits m → length m.host.state.nodes ≡ 233 → WaitsFor whole n most (Doing line (event ∷ left)) m → WaitsFor whole n most (Doing line left) (happens m event)
  unfolding happens outcome
  effect_waits line left m (Outside_does (Wakes_device node route)) is awaits places w =
      outer_waits whole n most (Doing line (Outside_does (Wakes_device node route) ∷ left)) (Doing line left) (omega arith) m (Wakes_device node route)
      (stay (Doing line (Outside_does (Wakes_device node route) ∷ left)) (Doing line left) m (happens m (Outside_does (Wakes_device node route))) (λ a. a) (wakes_add airs m awaits node route)
      (λ x has. effect_says AnyFrame (Has x) (has_piled x) airs m (Outside_does (Wakes_device node route)) tt has) (effect_fits line (Outside_does (Wakes_device node route)) left (many_on_air m))
      (wakes_busy n (session_of n m) m node route) (λ place. omega arith)) w
  effect_waits line left m (Outside_does (Shows node)) is awaits places w =
      outer_waits whole n most (Doing line (Outside_does (Shows node) ∷ left)) (Doing line left) (omega arith) m (Shows node)
      (same_stay (Doing line (Outside_does (Shows node) ∷ left)) (Doing line left) m (happens m (Outside_does (Shows node))) (λ a. a) (shows_adds m node)
      (λ x has. effect_says AnyFrame (Has x) (has_piled x) airs m (Outside_does (Shows node)) tt has) (effect_fits line (Outside_does (Shows node)) left (many_on_air m)) (shows_devices m node) (λ place. omega arith)) w
  effect_waits line left m (Outside_does (Cuts size)) is awaits places w =
      outer_waits whole n most (Doing line (Outside_does (Cuts size) ∷ left)) (Doing line left) (omega arith) m (Cuts size)
      (same_stay (Doing line (Outside_does (Cuts size) ∷ left)) (Doing line left) m (happens m (Outside_does (Cuts size))) (λ a. a) (same_adds m.outside.outer (happens m (Outside_does (Cuts size))).outside.outer refl)
      (λ x has. effect_says AnyFrame (Has x) (has_piled x) airs m (Outside_does (Cuts size)) tt has) (effect_fits line (Outside_does (Cuts size)) left (many_on_air m)) (cuts_devices m size) (λ place. omega arith)) w
  effect_waits line left m (Host_does (Accepts order carriage)) is awaits places w =
      does_waits whole n most within (Doing line (Host_does (Accepts order carriage) ∷ left)) (Doing line left) m (Accepts order carriage) (omega arith) tt places
      (same_stay (Doing line (Host_does (Accepts order carriage) ∷ left)) (Doing line left) m (happens m (Host_does (Accepts order carriage))) (λ a. a)
      (calm_adds m.outside.outer (happens m (Host_does (Accepts order carriage))).outside.outer (does_calm airs m (Accepts order carriage)))
      (λ x has. effect_says AnyFrame (Has x) (has_piled x) airs m (Host_does (Accepts order carriage)) tt has) (effect_fits line (Host_does (Accepts order carriage)) left (many_on_air m)) (devices_host-all m (Accepts order carriage ∷ [])) (λ place. omega arith)) w
  effect_waits line left m (Refuses of refusal) is awaits places w =
      refuses_waits whole n most (Doing line (Refuses of refusal ∷ left)) (Doing line left) (omega arith) m (Refuses of refusal) refl
      (same_stay (Doing line (Refuses of refusal ∷ left)) (Doing line left) m (happens m (Refuses of refusal)) (λ a. a) (calm_adds m.outside.outer (happens m (Refuses of refusal)).outside.outer (enters_calm airs m (entry.Refused refusal)))
      (λ x has. effect_says AnyFrame (Has x) (has_piled x) airs m (Refuses of refusal) tt has) (effect_fits line (Refuses of refusal) left (many_on_air m)) (refuses_devices m of refusal) (λ place. omega arith)) w
  effect_waits line left m (Shows_values node) is awaits places w =
      refuses_waits whole n most (Doing line (Shows_values node ∷ left)) (Doing line left) (omega arith) m (Shows_values node) refl
      (same_stay (Doing line (Shows_values node ∷ left)) (Doing line left) m (happens m (Shows_values node)) (λ a. a) (calm_adds m.outside.outer (happens m (Shows_values node)).outside.outer (enters_calm airs m (shown_values m.host.state node)))
      (λ x has. effect_says AnyFrame (Has x) (has_piled x) airs m (Shows_values node) tt has) (effect_fits line (Shows_values node) left (many_on_air m)) (values_devices m node) (λ place. omega arith)) w
  effect_waits line left m (Outside_does event) is awaits places w = absurd is
  effect_waits line left m (Host_does event) is awaits places w = absurd is
  effect_waits line left m event is awaits places w = absurd is

  -- ---- the host

  -- an event of its tick, of this node or not
  pub tick_event : (first : HostEvent) (events : List HostEvent) (ticks : ℕ) (m : Machine) → IsOfTick first → m.host.state.side.turn ≡ no_turn → length m.host.state.nodes ≡ 233 → (node_of m.host.state n).attempt_wait ≢ 1
      → WaitsFor whole n most (Ticking_host (first ∷ events) ticks) m → WaitsFor whole n most (Ticking_host events ticks) (happens m (Host_does first))
  tick_event Line_ticks events ticks m is turn places lasts w =
      does_waits whole n most within (Ticking_host (Line_ticks ∷ events) ticks) (Ticking_host events ticks) m Line_ticks (omega arith) turn places
      (host_stays airs n (Ticking_host (Line_ticks ∷ events) ticks) (Ticking_host events ticks) m Line_ticks (λ asking asks. asking) (λ left. still_fits n (many_on_air m) left (Ticking_host (Line_ticks ∷ events) ticks) (Ticking_host events ticks) (λ place. omega arith) (omega arith)) (λ place. omega arith)) w
  tick_event (Requests_do event moment) events ticks m is turn places lasts w =
      does_waits whole n most within (Ticking_host (Requests_do event moment ∷ events) ticks) (Ticking_host events ticks) m (Requests_do event moment) (omega arith) tt places
      (host_stays airs n (Ticking_host (Requests_do event moment ∷ events) ticks) (Ticking_host events ticks) m (Requests_do event moment) (λ asking asks. asking)
      (λ left. still_fits n (many_on_air m) left (Ticking_host (Requests_do event moment ∷ events) ticks) (Ticking_host events ticks) (λ place. omega arith) (omega arith)) (λ place. omega arith)) w
  tick_event (Node_ticks k) events ticks m is turn places lasts w = by (either_node n k)
    where
      own : WaitsFor whole n most (Ticking_host (Node_ticks n ∷ events) ticks) m → WaitsFor whole n most (Ticking_host events ticks) (happens m (Host_does (Node_ticks n)))
      own v =
          tick_waits whole n most within events ticks m places lasts
          (host_stays airs n (Own_at whole n most within events ticks) (Ticking_host events ticks) m (Node_ticks n) (λ asking asks. asking)
          (λ left. still_fits n (many_on_air m) left (Own_at whole n most within events ticks) (Ticking_host events ticks) (λ place. omega arith) (omega arith)) (λ place. omega arith)) v

      by : (k ≡ n) ⊎ (k ≢ n) → WaitsFor whole n most (Ticking_host events ticks) (happens m (Host_does (Node_ticks k)))
      by (inl same) =
          subst (λ (j : ℕ). WaitsFor whole n most (Ticking_host events ticks) (happens m (Host_does (Node_ticks j)))) (sym same)
          (own (subst (λ (j : ℕ). WaitsFor whole n most (Ticking_host (Node_ticks j ∷ events) ticks) m) same w))
      by (inr other) =
          does_waits whole n most within (Ticking_host (Node_ticks k ∷ events) ticks) (Ticking_host events ticks) m (Node_ticks k) (no_fewer (if k == n then 1 else 0) (ticks_of n events)) other places
          (host_stays airs n (Ticking_host (Node_ticks k ∷ events) ticks) (Ticking_host events ticks) m (Node_ticks k) (λ asking asks. asking)
          (λ left. still_fits n (many_on_air m) left (Ticking_host (Node_ticks k ∷ events) ticks) (Ticking_host events ticks) (λ place. omega arith) (omega arith)) (λ place. omega arith)) w
  tick_event event events ticks m is turn places lasts w = absurd is
