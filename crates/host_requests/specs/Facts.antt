-- What holds of the host's requests at all times.
use Rattle.std.specs.Prelude.{◌≡◌, ◌≢◌, ℕ, ◌+◌, ◌≤◌, ◌⊎◌, false, Option, Some, None, List, [], ◌∷◌, length, All, IsTrue, IsSome}
use Rattle.chip_functions.specs.declared.function.TheConstants.{SEND_DATA, SEND_DATA_ABORT, REQUEST_NODE_INFO}
use Rattle.host_requests.specs.Frames.{function_of, HasPayload}
use Rattle.host_requests.specs.State.{RequestsState}
use Rattle.host_requests.specs.Next.{response_ticks, notice_ticks}
use Rattle.host_requests.specs.Events.{RequestsEvent, after, end_at}
use Rattle.host_requests.specs.Events.RequestsEvent.{Ticks, Forgets}
use Rattle.host_requests.specs.declared.task.Task.{Task}
use Rattle.host_requests.specs.declared.task.Task.TheVariants.{First, Second}
use Rattle.host_requests.specs.declared.task.Purpose.{Purpose}
use Rattle.host_requests.specs.declared.task.Purpose.TheVariants.{Housekeeping}
use Rattle.host_requests.specs.declared.under_way.Progress.{Progress}
use Rattle.host_requests.specs.declared.under_way.Progress.TheVariants.{Submitted, Sent, Answered}
use Rattle.host_requests.specs.declared.under_way.UnderWay.{UnderWay}

-- a function that has something to come after its response
abbrev pub HasNotice : ℕ → Type 0
HasNotice function = (function ≡ SEND_DATA) ⊎ (function ≡ REQUEST_NODE_INFO)

-- a request that was acknowledged and not answered waits for 1 to 15 ticks, and is no abort; one that was answered waits for
-- 1 to 65, and is a SendData or a RequestNodeInfo; one that was neither does not wait
abbrev pub Waits : ℕ → Progress → Type 0
Waits function Submitted = Unit {0}
Waits function (Sent left) = (1 ≤ left) × (left ≤ response_ticks) × (function ≢ SEND_DATA_ABORT)
Waits function (Answered sent left) = (1 ≤ left) × (left ≤ notice_ticks) × HasNotice function

-- the node of a first task of an interview, and that of a second one
abbrev pub first_of : Task → Option ℕ
first_of (First n) = Some n
first_of task = None

abbrev pub second_of : Task → Option ℕ
second_of (Second n) = Some n
second_of task = None

abbrev pub first_asked : Purpose → Option ℕ
first_asked (Housekeeping task) = first_of task
first_asked purpose = None

abbrev pub second_asked : Purpose → Option ℕ
second_asked (Housekeeping task) = second_of task
second_asked purpose = None

-- where the second task of this node is due, each second task has the first of the same node directly before it, and each
-- first the second after it
abbrev pub ArePaired : Option ℕ → List Task → Type 0
ArePaired due [] = due ≡ None
ArePaired due (task ∷ rest) = (second_of task ≡ due) × ArePaired (first_of task) rest

-- the node whose second task is due: it waits before all others
abbrev pub due_second : List Task → Option ℕ
due_second [] = None
due_second (task ∷ rest) = second_of task

-- what is true of the request under way, where there is one: its waits; a SendData has a callback id that was given; no abort
-- is owed; while the first request of an interview is under way its second is due, and else none is; and only while a second
-- one is under way there is a byte that its first has brought
pub record IsUnderWay (u : UnderWay) (s : RequestsState) : Type 0 where
  pub waits : Waits (function_of u.purpose) u.progress
  pub id : function_of u.purpose ≡ SEND_DATA → 1 ≤ s.last_id
  pub paid : s.owes ≡ false
  pub due : due_second s.queue ≡ first_asked u.purpose
  pub brought : second_asked u.purpose ≡ None → s.first ≡ None

-- what is true where none is: an abort is owed and a byte is kept only while no second request, or one, is due
pub record IsIdle (s : RequestsState) : Type 0 where
  pub owed : IsTrue s.owes → due_second s.queue ≡ None
  pub brought : due_second s.queue ≡ None → s.first ≡ None

abbrev pub IsEither : Option UnderWay → RequestsState → Type 0
IsEither None s = IsIdle s
IsEither (Some u) s = IsUnderWay u s

-- what is true at all times
pub record IsRequests (s : RequestsState) : Type 0 where
  pub few : length s.queue ≤ 64
  pub payloads : All HasPayload s.queue
  pub ids : s.last_id ≤ 255
  pub paired : ArePaired (due_second s.queue) s.queue
  pub either : IsEither s.under_way s

-- the most ticks until a request ends that was acknowledged or answered
abbrev pub most_left : Progress → ℕ
most_left Submitted = 0
most_left (Sent left) = left + notice_ticks
most_left (Answered sent left) = left

-- it was acknowledged or answered
abbrev pub IsWaiting : Progress → Type 0
IsWaiting Submitted = ⊥
IsWaiting progress = Unit {0}

-- how many ticks are among the events
abbrev pub tick_of : RequestsEvent → ℕ
tick_of Ticks = 1
tick_of event = 0

abbrev pub ticks_in : List RequestsEvent → ℕ
ticks_in [] = 0
ticks_in (event ∷ events) = tick_of event + ticks_in events

-- a request ends at one of the events, or all is forgotten
abbrev pub EndsAmong : RequestsState → List RequestsEvent → Type 0
EndsAmong s [] = ⊥
EndsAmong s (event ∷ events) = IsSome (end_at s event) ⊎ ((event ≡ Forgets) ⊎ EndsAmong (after s event) events)
