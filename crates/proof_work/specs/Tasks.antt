-- The tasks of a host (this project's own rule): which it has, in order; which an event adds; and which one ends at it. Attempts and aborts are none.
use Rattle.std.specs.Prelude.{ℕ, Bool, true, false, if◌then◌else◌, Option, Some, None, List, [], ◌∷◌, ◌++◌}
use Rattle.std.specs.List.{flat_map}
use Rattle.zw_text.specs.Transcript.{where_same}
use Rattle.serial_link.specs.State.{tick_side}
use Rattle.s0_session.specs.Nonces.{live_of}
use Rattle.host_requests.specs.State.{RequestsState}
use Rattle.host_requests.specs.Events.{end_at}
use Rattle.host_requests.specs.Events.RequestsEvent.{Fails as request_fails, Updates as request_updates}
use Rattle.host_requests.specs.declared.end.End.{End}
use Rattle.host_requests.specs.declared.task.Task.{Task}
use Rattle.host_requests.specs.declared.task.Task.TheVariants.{Plain, Offer, Segment, NoMore, First, Second, Version, MemoryId, Capabilities}
use Rattle.host_requests.specs.declared.task.Purpose.{Purpose}
use Rattle.host_requests.specs.declared.task.Purpose.TheVariants.{Housekeeping}
use Rattle.host_requests.specs.declared.under_way.UnderWay.{UnderWay}
use Rattle.proof_walk.specs.host_model.State.{HostState}
use Rattle.proof_walk.specs.host_model.After.{after, gives_up, giving, is_full}
use Rattle.proof_walk.specs.host_model.Events.{HostEvent, Queues, Queues_interview, Queues_probe, Requests_do, Interviews, Interview_unkept, Offers, Gives, Resends, Line_ticks, Queues_no_more}

-- the task of a purpose, and of the request under way
abbrev pub task_of : Purpose → List Task
task_of (Housekeeping task) = task ∷ []
task_of purpose = []

abbrev pub task_under_way : Option UnderWay → List Task
task_under_way None = []
task_under_way (Some u) = task_of u.purpose

-- the one that is under way, and those that wait
abbrev pub tasks_of : RequestsState → List Task
tasks_of requests = task_under_way requests.under_way ++ requests.queue

-- ---- what an event adds

abbrev pub added_if_room : HostState → Task → List Task
added_if_room h task = if is_full h then [] else task ∷ []

abbrev pub added_offer : HostState → ℕ → Option (List ℕ) → List Task
added_offer h n None = []
added_offer h n (Some nonce) = added_if_room h (Offer n nonce)

abbrev pub added : HostState → HostEvent → List Task
added h (Queues task) = task ∷ []
added h (Queues_interview n) = First n ∷ Second n ∷ []
added h Queues_probe = Version ∷ MemoryId ∷ Capabilities ∷ []
added h (Offers n) = added_offer h n (live_of h.nonces n)
added h (Gives n drawn) = added_offer (giving h n drawn) n (live_of (giving h n drawn).nonces n)
added h (Resends n payload) = added_if_room h (Segment n payload)
added h (Queues_no_more n) = NoMore n ∷ []
added h event = []

-- ---- what ends at it

abbrev pub task_ended : Option End → List Task
task_ended None = []
task_ended (Some end) = task_of end.purpose

abbrev pub ended_if : Bool → HostState → List Task
ended_if true h = task_ended (end_at h.requests request_fails)
ended_if false h = []

abbrev pub ended : HostState → HostEvent → List Task
ended h (Requests_do event moment) = task_ended (end_at h.requests event)
ended h (Interviews n listens classes update) = task_ended (end_at h.requests (request_updates update))
ended h (Interview_unkept n update) = task_ended (end_at h.requests (request_updates update))
ended h Line_ticks = ended_if (gives_up h.side.turn (tick_side h.side).turn) h
ended h event = []

-- ---- what becomes of errands and interviews

-- the messages to a node among tasks, and the second requests of its interviews
abbrev pub errand_of : ℕ → Task → List (List ℕ)
errand_of n (Plain m payload) = where_same m n payload
errand_of n task = []

abbrev pub errands : ℕ → List Task → List (List ℕ)
errands n tasks = flat_map (errand_of n) tasks

abbrev pub interview_of : ℕ → Task → List ℕ
interview_of n (Second m) = where_same m n m
interview_of n task = []

abbrev pub interviews : ℕ → List Task → List ℕ
interviews n tasks = flat_map (interview_of n) tasks

-- what an interview told was kept, where one ended well
abbrev pub KeepsInterview : HostEvent → Type 0
KeepsInterview (Interview_unkept n update) = ⊥
KeepsInterview event = Unit {0}

-- ---- events one after another

abbrev pub added_all : HostState → List HostEvent → List Task
added_all h [] = []
added_all h (event ∷ events) = added h event ++ added_all (after h event) events

abbrev pub ended_all : HostState → List HostEvent → List Task
ended_all h [] = []
ended_all h (event ∷ events) = ended h event ++ ended_all (after h event) events
