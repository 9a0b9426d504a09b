-- No task of the host waits, where none waited and what is on its way to it asks for none: these nodes listen, and the others are still.
use Rattle.std.proofs.Common.{◌≡◌, ℕ, Bool, true, false, List, [], ◌∷◌, length, suc, refl, sym, ap, ◌∙◌, subst}
use Rattle.std.specs.Prelude.{Option, Some, None}
use Rattle.std.specs.List.{AllByRecursion}
use Rattle.serial_link.specs.State.{Side, turn_ticked}
use Rattle.chip_sim.specs.Nodes.{is_marked}
use Rattle.host_requests.specs.Events.{RequestsEvent, end_at, task_begun}
use Rattle.host_requests.specs.Events.RequestsEvent.{Pushes, PushesInterview, PushesProbe, BeginsAbort, BeginsPrefix, BeginsAttempt, IsSent, Fails, Responds, CallsBack, Updates, Ticks, Forgets}
use Rattle.host_requests.specs.Next.{next_from}
use Rattle.host_requests.specs.State.{RequestsState}
use Rattle.host_requests.specs.declared.end.How.TheVariants.{LinkFailed}
use Rattle.host_requests.specs.declared.next.Next.{Next}
use Rattle.host_requests.specs.declared.next.Next.TheVariants as next
use Rattle.host_requests.specs.declared.task.Task.{Task}
use Rattle.host_requests.specs.declared.under_way.UnderWay.{UnderWay}
use Rattle.host_node.specs.Events.NodeEvent.{Ticks as node_ticks}
use Rattle.host_node.specs.Search.{first_wanting}
use Rattle.host_node.specs.State.{NodeState, wants_no_more}
use Rattle.host_node.specs.Steps.{tick_end}
use Rattle.host_model.specs.After.{after, failing_if, finishing, gives_up, is_held, line_ticked, node_does, requests_do}
use Rattle.host_model.specs.Did.{after_all}
use Rattle.host_model.specs.Events.{HostEvent, Accepts, Queues, Queues_interview, Queues_probe, Requests_do, Interviews, Interview_unkept, Finishes, Offers, Gives, Resends, Line_ticks, Node_ticks, Queues_no_more, Submits_front}
use Rattle.host_model.specs.Sessions.{open_command}
use Rattle.host_model.specs.State.{HostState, node_of}
use Rattle.host_node.proofs.Searches.{what_is_least}
use Rattle.host_node.specs.TableState.{node_of as node_among}
use Rattle.host_model.proofs.Submitted.{SubmittedAre, next_is}
use Rattle.outside_model.specs.Events.{OuterEvent, Begins_line, Begins_tick, Arrives, Gives as outer_gives, Device_ticks, Chip_ticks, Chip_takes}
use Rattle.serial_frame.specs.Stream.{Rest}
use Rattle.serial_frame.specs.declared.item.Item.{Item}
use Rattle.proof_answered.specs.proof_calm.Tied.{All, IsNodeTick, Nodes, Request, TickLeft, TieAt, unheard}
use Rattle.host_node.specs.declared.attempt.Moment.TheVariants.{BeforeItsTick}
use Rattle.world_model.specs.Events.{Event, Outside_does, Host_does, Host_takes, Decoder_ticks, Refuses, Shows_values, happens, May}
use Rattle.world_model.specs.State.{Machine}
use Rattle.proof_answered.specs.proof_calm.Resting.{IsEffect, LineAt}
use Rattle.proof_answered.specs.proof_calm.proof_work.proof_walk.Phases.{Phase, Said_line, Doing, To_tick, Arriving, Giving, Ticking_devices, Ticking_chip, Ticking_decoder, Ticking_host, Sleeping, Submitting, Moving, Moved, Goes}
use Rattle.proof_answered.specs.Workers.{KnowsWorkers}
use Rattle.proof_messages.specs.Reporting.{TellsPlainly}
use Rattle.proof_answered.specs.Workers.{IsFromSaying}
use Rattle.proof_answered.proofs.Following.{attempt_asks, end_if_asks, held_asks}
use Rattle.proof_answered.proofs.Peopled.{takes_are}
use Rattle.proof_answered.proofs.Staffing.{still_wants}
use Rattle.proof_answered.proofs.proof_traffic_Parts.{Airs}
use Rattle.proof_in_time.specs.InHand.{AllServe}
use Rattle.proof_in_time.specs.Plainly.{SpeakPlainly}
use Rattle.proof_in_time.proofs.Plainly.{AsksNoTask, QueuesNone, each_none}

-- ---- an event of the host

abbrev pub queue_of : HostState → List Task
queue_of h = h.requests.queue

next_queue : (s : RequestsState) (step : UnderWay → Next) (u : Option UnderWay) → (next_from s step u).queue ≡ s.queue
next_queue s step None = refl
next_queue s step (Some u) = by (step u)
  where
    by : (n : Next) → (next_from s (λ (w : UnderWay). n) (Some u)).queue ≡ s.queue
    by (next.GoesOn progress) = refl
    by (next.Ends how) = refl

request_queue : (h : HostState) (event : RequestsEvent) → AsksNoTask event → queue_of h ≡ [] → queue_of (requests_do h event) ≡ []
request_queue h (Pushes task) none empty = absurd none
request_queue h (PushesInterview n) none empty = absurd none
request_queue h PushesProbe none empty = absurd none
request_queue h BeginsAbort none empty = empty
request_queue h BeginsPrefix none empty = ap (λ (tasks : List Task). (task_begun h.requests tasks).queue) empty ∙ empty
request_queue h (BeginsAttempt n more payload) none empty = empty
request_queue h IsSent none empty = next_queue h.requests _ h.requests.under_way ∙ empty
request_queue h Fails none empty = next_queue h.requests (λ (u : UnderWay). next.Ends LinkFailed) h.requests.under_way ∙ empty
request_queue h (Responds response) none empty = next_queue h.requests _ h.requests.under_way ∙ empty
request_queue h (CallsBack id status) none empty = next_queue h.requests _ h.requests.under_way ∙ empty
request_queue h (Updates update) none empty = next_queue h.requests _ h.requests.under_way ∙ empty
request_queue h Ticks none empty = next_queue h.requests _ h.requests.under_way ∙ empty
request_queue h Forgets none empty = refl

-- the requests that wait, of what the end of a request leaves
abbrev queue_by : Side × RequestsState → List Task
queue_by p = p.1.queue

failing_queue : (b : Bool) (h : HostState) → queue_of h ≡ [] → queue_of (failing_if b h) ≡ []
failing_queue true h empty = ap queue_by (end_if_asks (requests_do h Fails) (end_at h.requests Fails) BeforeItsTick) ∙ request_queue h Fails tt empty
failing_queue false h empty = empty

pub event_queue : (h : HostState) (event : HostEvent) → QueuesNone event → queue_of h ≡ [] → queue_of (after h event) ≡ []
event_queue h (Queues task) none empty = absurd none
event_queue h (Queues_interview n) none empty = absurd none
event_queue h Queues_probe none empty = absurd none
event_queue h (Requests_do event moment) none empty = ap queue_by (end_if_asks (requests_do h event) (end_at h.requests event) moment) ∙ request_queue h event none empty
event_queue h (Interviews n listens classes update) none empty = request_queue h (Updates update) tt empty
event_queue h (Interview_unkept n update) none empty = request_queue h (Updates update) tt empty
event_queue h (Finishes n session id command status wake) none empty = ap queue_by (held_asks (finishing h n id command status) n (is_held h n wake)) ∙ empty
event_queue h (Offers n) none empty = absurd none
event_queue h (Gives n drawn) none empty = absurd none
event_queue h (Resends n payload) none empty = absurd none
event_queue h Line_ticks none empty = failing_queue (gives_up h.side.turn (turn_ticked h.side.turn)) (line_ticked h) empty
event_queue h (Node_ticks n) none empty = ap queue_by (attempt_asks (node_does h n node_ticks) (tick_end (node_of h n)) (open_command (node_of h n))) ∙ empty
event_queue h (Queues_no_more n) none empty = absurd none
event_queue h Submits_front none empty = request_queue h BeginsPrefix tt empty
event_queue h event none empty = empty

events_queue : (h : HostState) (events : List HostEvent) → AllByRecursion QueuesNone events → queue_of h ≡ [] → queue_of (after_all h events) ≡ []
events_queue h [] none empty = empty
events_queue h (event ∷ events) none empty = events_queue (after h event) events none.1 (event_queue h event none.0 empty)

-- ---- none is to be told that there is no more for it

wants : (nodes : List NodeState) (n : ℕ) → first_wanting nodes ≡ Some n → wants_no_more (node_among nodes n) ≡ true
wants nodes n is = (what_is_least (λ (node : ℕ). wants_no_more (node_among nodes node)) 0 n is).is_one

wants_parts : (x : NodeState) (awake listens : Bool) → wants_no_more (record x { awake = awake; listens = listens }) ≡ true → (awake ≡ true) × (listens ≡ false)
wants_parts x true false is = (refl, refl)
wants_parts x true true is = absurd (let wrong : false ≡ true = is in cc)
wants_parts x false listens is = absurd (let wrong : false ≡ true = is in cc)

none_wants : (these : List Bool) (h : HostState) (n : ℕ) → AllServe these h → KnowsWorkers these h → first_wanting h.nodes ≡ Some n → ⊥
none_wants these h n serves knows is = by (is_marked these n) refl
  where
    parts : ((node_of h n).awake ≡ true) × ((node_of h n).listens ≡ false)
    parts = wants_parts (node_of h n) (node_of h n).awake (node_of h n).listens (wants h.nodes n is)

    by : (b : Bool) → is_marked these n ≡ b → ⊥
    by true marked = absurd (let wrong : true ≡ false = sym (serves.listens n marked) ∙ parts.1 in cc)
    by false other = still_wants (node_of h n) (knows.others n other) (wants h.nodes n is)

-- ---- from phase to phase

abbrev Empty : Machine → Type 0
Empty m = queue_of m.host.state ≡ []

outer_empty : (m : Machine) (event : OuterEvent) → Empty m → Empty (happens m (Outside_does event))
unfolding happens
outer_empty m event empty = empty

does_empty : (m : Machine) (event : HostEvent) → QueuesNone event → Empty m → Empty (happens m (Host_does event))
unfolding happens
does_empty m event none empty = event_queue m.host.state event none empty

takes_empty : (m : Machine) (count : ℕ) (rest : Rest) (items : List Item) (events : List HostEvent) → AllByRecursion QueuesNone events → Empty m → Empty (happens m (Host_takes count rest items events))
unfolding happens
takes_empty m count rest items events none empty = events_queue m.host.state events none empty

decoder_empty : (m : Machine) → Empty m → Empty (happens m Decoder_ticks)
unfolding happens
decoder_empty m empty = empty

effect_empty : (m : Machine) (event : Event) → IsEffect event → Empty m → Empty (happens m event)
unfolding happens
effect_empty m (Outside_does event) is empty = empty
effect_empty m (Host_does (Accepts order carriage)) is empty = empty
effect_empty m (Host_does event) is empty = absurd is
effect_empty m (Refuses line refusal) is empty = empty
effect_empty m (Shows_values node) is empty = empty
effect_empty m event is empty = absurd is

empty_as : (m : Machine) (event is : Event) → event ≡ is → Empty (happens m is) → Empty (happens m event)
empty_as m event is same empty = subst (λ (e : Event). Empty (happens m e)) (sym same) empty

node_tick : (event : HostEvent) → IsNodeTick event → QueuesNone event
node_tick (Node_ticks n) is = tt
node_tick event is = absurd is

tick_none : (counted : Bool) (first : HostEvent) (events : List HostEvent) → TickLeft counted (first ∷ events) → QueuesNone first
tick_none counted first events (All nodes are is none) = let one : first ≡ Line_ticks = cc in subst QueuesNone (sym one) tt
tick_none counted first events (Request nodes are is none) = let one : first ≡ Requests_do Ticks BeforeItsTick = cc in subst QueuesNone (sym one) tt
tick_none counted first events (Nodes nodes done) = node_tick first nodes.0

submitted_none : SubmittedAre QueuesNone
submitted_none = record { abort = tt; front = tt; starts = λ n plan more payload. tt; text = λ n payload. tt; segment = λ n more payload. tt; begins = λ n session command. tt; unkept = λ n. tt }

-- where none is to be told that there is no more for it, and what the chip has for the host tells plainly
pub queue_where : (airs : Airs) (these : List Bool) (here next : Phase) (m : Machine) (event : Event) → Goes here m event next → May m event → LineAt here m → TieAt here m → AllByRecursion (IsFromSaying these TellsPlainly) (unheard m.outside.outer)
    → ((k : ℕ) → first_wanting m.host.state.nodes ≡ Some k → ⊥) → Empty m → Empty (happens m event)
queue_where airs these (Said_line line) next m event (is, to) may at tie pending wants_none empty = empty_as m event _ is (outer_empty m Begins_line empty)
queue_where airs these (Doing line (first ∷ left)) next m event (is, to) may at tie pending wants_none empty = empty_as m event first is (effect_empty m first at.0.0 empty)
queue_where airs these (To_tick (suc ticks)) next m event (is, to) may at tie pending wants_none empty = empty_as m event _ is (outer_empty m Begins_tick empty)
queue_where airs these (Arriving (suc frames) ticks) next m event (drawn, route, is, to) may at tie pending wants_none empty = empty_as m event _ is (outer_empty m (Arrives drawn route) empty)
queue_where airs these (Giving (suc results) ticks) next m event (route, is, to) may at tie pending wants_none empty = empty_as m event _ is (outer_empty m (outer_gives route) empty)
queue_where airs these (Ticking_devices place (suc count) ticks) next m event (drawn, route, is, to) may at tie pending wants_none empty = empty_as m event _ is (outer_empty m (Device_ticks place drawn route) empty)
queue_where airs these (Ticking_chip ticks) next m event (is, to) may at tie pending wants_none empty = empty_as m event _ is (outer_empty m Chip_ticks empty)
queue_where airs these (Ticking_decoder ticks) next m event (is, to) may at tie pending wants_none empty = empty_as m event _ is (decoder_empty m empty)
queue_where airs these (Ticking_host (first ∷ events) ticks) next m event (is, to) may at tie pending wants_none empty = empty_as m event _ is (does_empty m first (tick_none tie.counted first events tie.left) empty)
queue_where airs these (Sleeping passes ticks) next m event (n, first, is, to) may at tie pending wants_none empty = absurd (wants_none n first)
queue_where airs these (Submitting passes ticks) next m event (asked, next_so, is, to) may at tie pending wants_none empty = empty_as m event _ is (does_empty m asked (next_is QueuesNone submitted_none m.host.state asked next_so) empty)
queue_where airs these (Moving passes ticks) next m event (rest, ways, is, to) may at tie pending wants_none empty = empty_as m event _ is (outer_empty m (Chip_takes (length m.outside.outer.to_chip.bytes) rest ways) empty)
queue_where airs these (Moved b passes ticks) next m event (rest, items, events, is, to) may at tie pending wants_none empty =
    empty_as m event _ is
    (takes_empty m (length m.outside.outer.to_host.bytes) rest items events
    (takes_are QueuesNone (IsFromSaying these TellsPlainly) airs b passes m rest items events (each_none these m.outside.outer.chip.state.joined) (subst (May m) is may) at tie pending) empty)
queue_where airs these here next m event goes may at tie pending wants_none empty = absurd goes

pub queue_on : (airs : Airs) (these : List Bool) (here next : Phase) (m : Machine) (event : Event) → Goes here m event next → May m event → LineAt here m → TieAt here m → SpeakPlainly these m → AllServe these m.host.state → KnowsWorkers these m.host.state → Empty m → Empty (happens m event)
queue_on airs these here next m event goes may at tie speak serves knows empty = queue_where airs these here next m event goes may at tie speak.pending (λ k wanting. none_wants these m.host.state k serves knows wanting) empty
