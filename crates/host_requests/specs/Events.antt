-- What may happen to the host's requests, one event at a time (this project's own rules on the Serial API).
use Rattle.std.specs.Prelude.{◌≡◌, ℕ, ◌+◌, ◌≤◌, Bool, false, Option, Some, None, List, [], ◌∷◌, ◌++◌, length, IsTrue, if◌then◌else◌}
use Rattle.chip_functions.specs.declared.notice.TransmitStatus.{TransmitStatus}
use Rattle.chip_functions.specs.declared.notice.Update.{Update}
use Rattle.chip_functions.specs.declared.notice.Update.TheVariants.{Received}
use Rattle.chip_functions.specs.declared.response.Response.{Response}
use Rattle.host_requests.specs.Frames.{StandsAlone}
use Rattle.host_requests.specs.State.{RequestsState, no_requests, begun}
use Rattle.host_requests.specs.Next.{at_sent, at_response, at_callback, at_update, at_tick, ends_at_update, after_next, end_of_next}
use Rattle.host_requests.specs.declared.end.End.{End}
use Rattle.host_requests.specs.declared.end.How.TheVariants.{LinkFailed}
use Rattle.host_requests.specs.declared.next.Next.TheVariants.{Ends}
use Rattle.host_requests.specs.declared.requests.TheConstants.{QUEUE_CAPACITY}
use Rattle.host_requests.specs.declared.task.Task.{Task}
use Rattle.host_requests.specs.declared.task.Task.TheVariants.{First, Second, Version, MemoryId, Capabilities}
use Rattle.host_requests.specs.declared.task.Purpose.TheVariants.{Housekeeping, Attempt, Abort}
use Rattle.host_requests.specs.declared.under_way.UnderWay.{UnderWay}

-- a task waits, the two of an interview, the three of a probe; the owed abort is submitted, the task that waited longest, a
-- part of an attempt; the link says that a frame was acknowledged, or was not in any copy; the chip sends a response, a
-- callback, an ApplicationUpdate; a tick; the host starts anew
pub data RequestsEvent : Type 0 where
  Pushes : (task : Task) → RequestsEvent
  PushesInterview : (node : ℕ) → RequestsEvent
  PushesProbe : RequestsEvent
  BeginsAbort : RequestsEvent
  BeginsPrefix : RequestsEvent
  BeginsAttempt : (node : ℕ) (more : Bool) (payload : List ℕ) → RequestsEvent
  IsSent : RequestsEvent
  Fails : RequestsEvent
  Responds : (response : Response) → RequestsEvent
  CallsBack : (id : ℕ) (status : TransmitStatus) → RequestsEvent
  Updates : (update : Update) → RequestsEvent
  Ticks : RequestsEvent
  Forgets : RequestsEvent

-- these tasks wait after the others
abbrev pub with_tasks : RequestsState → List Task → RequestsState
with_tasks s tasks = record s { queue = s.queue ++ tasks }

-- the task that waited longest is submitted
abbrev pub task_begun : RequestsState → List Task → RequestsState
task_begun s [] = s
task_begun s (task ∷ rest) = begun (record s { queue = rest }) (Housekeeping task)

-- the state after an event
abbrev pub after : RequestsState → RequestsEvent → RequestsState
after s (Pushes task) = with_tasks s (task ∷ [])
after s (PushesInterview n) = with_tasks s (First n ∷ Second n ∷ [])
after s PushesProbe = with_tasks s (Version ∷ MemoryId ∷ Capabilities ∷ [])
after s BeginsAbort = begun (record s { owes = false }) Abort
after s BeginsPrefix = task_begun s s.queue
after s (BeginsAttempt n more payload) = begun s (Attempt n more payload)
after s IsSent = after_next s at_sent
after s Fails = after_next s (λ _. Ends LinkFailed)
after s (Responds response) = after_next s (at_response response)
after s (CallsBack id status) = after_next s (at_callback s.last_id id status)
after s (Updates update) = after_next s (at_update s.first update)
after s Ticks = after_next s at_tick
after s Forgets = no_requests

-- what ends at an event
abbrev pub end_at : RequestsState → RequestsEvent → Option End
end_at s IsSent = end_of_next s at_sent
end_at s Fails = end_of_next s (λ _. Ends LinkFailed)
end_at s (Responds response) = end_of_next s (at_response response)
end_at s (CallsBack id status) = end_of_next s (at_callback s.last_id id status)
end_at s (Updates update) = end_of_next s (at_update s.first update)
end_at s Ticks = end_of_next s at_tick
end_at s event = None

-- so many more tasks may wait
abbrev pub HasRoom : RequestsState → ℕ → Type 0
HasRoom s count = length s.queue + count ≤ QUEUE_CAPACITY

-- when an event may happen: one request is under way at a time, an owed abort comes before any other, and tasks come before
-- attempts; what comes from the link and the chip may come at any time
abbrev pub May : RequestsState → RequestsEvent → Type 0
May s (Pushes task) = StandsAlone task × HasRoom s 1
May s (PushesInterview n) = HasRoom s 2
May s PushesProbe = HasRoom s 3
May s BeginsAbort = (s.under_way ≡ None) × IsTrue s.owes
May s BeginsPrefix = (s.under_way ≡ None) × (s.owes ≡ false)
May s (BeginsAttempt n more payload) = (s.under_way ≡ None) × (s.owes ≡ false) × (s.queue ≡ []) × (1 ≤ length payload)
May s event = Unit {0}

-- the capability byte of the interview that ends well at an ApplicationUpdate: where it is the asked node's information, and
-- the first request brought one
abbrev pub interviewed_from : Option ℕ → Update → Option UnderWay → Option ℕ
interviewed_from first (Received n b g s classes) (Some u) = if ends_at_update (Received n b g s classes) u then first else None
interviewed_from first update under_way = None

abbrev pub interviewed_by : RequestsState → Update → Option ℕ
interviewed_by s update = interviewed_from s.first update s.under_way

-- events one after another
abbrev pub after_all : RequestsState → List RequestsEvent → RequestsState
after_all s [] = s
after_all s (event ∷ events) = after_all (after s event) events

abbrev pub MayAll : RequestsState → List RequestsEvent → Type 0
MayAll s [] = Unit {0}
MayAll s (event ∷ events) = May s event × MayAll (after s event) events
