-- Which events a pump is (this project's own rules of choosing): nodes that nothing keeps awake are let sleep; then, while no request is
-- under way and the line is free, the next one is submitted: an owed abort, the task that waited longest, or what the next node with work gives.
use Rattle.std.specs.Prelude.{◌≡◌, ℕ, suc, ◌+◌, ◌&&◌, ◌⊎◌, count_by, is_none, nat_lt, Bool, true, false, if◌then◌else◌, List, [], ◌∷◌, ◌++◌, slice_index, Option, Some, None}
use Rattle.supervision.specs.Host.{begun_of, open_session}
use Rattle.host_requests.specs.declared.task.Task.{Task}
use Rattle.host_node.specs.State.{NodeState, is_false, is_idle, wants_no_more}
use Rattle.host_node.specs.declared.series.Series.{Series}
use Rattle.host_node.specs.declared.series.Series.TheVariants.{Idle, Due, Running}
use Rattle.host_node.specs.declared.attempt.Plan.{Plan}
use Rattle.host_node.specs.Search.{next_of, first_wanting}
use Rattle.host_model.specs.State.{HostState, node_of}
use Rattle.host_model.specs.Sessions.{open_segment}
use Rattle.host_model.specs.After.{after, is_busy, is_full}
use Rattle.host_model.specs.Did.{after_all}
use Rattle.host_model.specs.May.{IsFree, IsStart}
use Rattle.host_model.specs.Events.{HostEvent, Queues_no_more, Drops_no_more, Submits_abort, Submits_front, Starts, Gives_text, Gives_segment, Begins, Begin_unkept}

-- ---- No More Information

-- it is queued for a node, or finds the queue full
abbrev pub no_more_event : HostState → ℕ → HostEvent
no_more_event h n = if is_full h then Drops_no_more n else Queues_no_more n

-- each node that is to be told is, the least first, until none is left
abbrev pub LetsSleep : HostState → List HostEvent → Type 0
LetsSleep h [] = first_wanting h.nodes ≡ None
LetsSleep h (event ∷ events) = (n : ℕ) × (first_wanting h.nodes ≡ Some n) × (event ≡ no_more_event h n) × LetsSleep (after h event) events

-- some of them are
abbrev pub LetsSome : HostState → List HostEvent → Type 0
LetsSome h [] = Unit {0}
LetsSome h (event ∷ events) = (n : ℕ) × (first_wanting h.nodes ≡ Some n) × (event ≡ no_more_event h n) × LetsSome (after h event) events

-- ---- the next request

-- what a running attempt gives next: its sealed text, or its next segment
abbrev pub GivesNext : HostState → ℕ → Option (List ℕ) → HostEvent → Type 0
GivesNext h n (Some text) event = event ≡ Gives_text n text
GivesNext h n None event =
    (payload : List ℕ) × (open_segment h (node_of h n) (open_session (node_of h n).book) (node_of h n).next_segment ≡ Some payload)
    × (event ≡ Gives_segment n (nat_lt ((node_of h n).next_segment + 1) (node_of h n).segments) payload)

-- a node with work is served: an attempt gives more, the attempt that is due starts, or a session begins for the command that waited longest
abbrev pub IsServedBy : HostState → ℕ → Series → HostEvent → Type 0
IsServedBy h n Running event = GivesNext h n (node_of h n).text event
IsServedBy h n Due event = (plan : Plan) × (more : Bool) × (payload : List ℕ) × IsStart h n plan more payload × (event ≡ Starts n plan more payload)
IsServedBy h n Idle event =
    (event ≡ Begins n (begun_of (node_of h n).book + 1) (slice_index (node_of h n).waiting 0)) ⊎ (event ≡ Begin_unkept n)

abbrev pub IsNextOfNodes : HostState → Option ℕ → HostEvent → Type 0
IsNextOfNodes h None event = ⊥
IsNextOfNodes h (Some n) event = IsServedBy h n (node_of h n).series event

-- the first of these that there is: an abort, a task, work of a node
abbrev pub IsNextOf : HostState → Bool → List Task → HostEvent → Type 0
IsNextOf h true queue event = event ≡ Submits_abort
IsNextOf h false (task ∷ more) event = event ≡ Submits_front
IsNextOf h false [] event = IsNextOfNodes h (next_of h.nodes h.served) event

abbrev pub IsNext : HostState → HostEvent → Type 0
IsNext h event = IsFree h × IsNextOf h h.requests.owes h.requests.queue event

-- a request is under way or the line is busy, or there is nothing to submit
pub record HasNothing (h : HostState) : Type 0 where
  pub paid : h.requests.owes ≡ false
  pub no_task : h.requests.queue ≡ []
  pub no_work : next_of h.nodes h.served ≡ None

abbrev pub IsPumped : HostState → Type 0
IsPumped h = (IsFree h → ⊥) ⊎ HasNothing h

-- one after another, until none can be
abbrev pub Submits : HostState → List HostEvent → Type 0
Submits h [] = IsPumped h
Submits h (event ∷ events) = IsNext h event × Submits (after h event) events

-- some turns of that
abbrev pub SubmitsSome : HostState → List HostEvent → Type 0
SubmitsSome h [] = Unit {0}
SubmitsSome h (event ∷ events) = IsNext h event × SubmitsSome (after h event) events

-- ---- the whole

abbrev pub Pumps : HostState → List HostEvent → Type 0
Pumps h events = (first rest : List HostEvent) × (events ≡ first ++ rest) × LetsSleep h first × Submits (after_all h first) rest

-- ---- how many turns it has

-- how many nodes may still be told that there is no more for them
abbrev pub sleepers_left : HostState → ℕ
sleepers_left h = count_by wants_no_more h.nodes

-- a session may still begin for this node, or be refused by the keeper
abbrev pub may_begin : NodeState → Bool
may_begin n = is_idle n.series && is_false n.blocked

-- no request is under way, and the line is free
abbrev pub is_free : HostState → Bool
is_free h = is_none h.requests.under_way && is_false (is_busy h.side.turn)

-- one for each node for which a session may still begin, and one for the request itself; none once a request is under way
abbrev pub turns_left : HostState → ℕ
turns_left h = if is_free h then suc (count_by may_begin h.nodes) else 0
