-- What waits to be asked of the chip of a host alone, as its transcript has it (this project's own rule): the wants of its tasks, in order, and whom it still has to tell that a message
-- was dropped.
use Rattle.std.specs.Prelude.{◌≡◌, ◌⊎◌, ℕ, true, List, [], ◌∷◌, ◌++◌, map}
use Rattle.std.specs.List.{flat_map}
use Rattle.zw_text.specs.declared.entry.Entry.{Entry}
use Rattle.zw_text.specs.declared.entry.Entry.TheVariants as entry
use Rattle.zw_text.specs.Transcript.{line_last}
use Rattle.law_time.specs.Heeds.{Heeds}
use Rattle.law_time.specs.Moments.{now_at}
use Rattle.law_time.specs.Requests.{asked}
use Rattle.law_time.specs.Wants.{want_of}
use Rattle.law_time.specs.Queue.{Queue, has_looked, may_queue, queue_before, requests}
use Rattle.host_requests.specs.Frames.{task_request}
use Rattle.host_requests.specs.declared.task.Task.{Task}
use Rattle.host_model.specs.State.{HostState}
use Rattle.host_model.specs.Events.{HostEvent}
use Rattle.host_model.specs.After.{after}
use Rattle.host_model.specs.Outs.{outs}
use Rattle.host_model.specs.declared.out.HostOut.{HostOut}
use Rattle.host_model.specs.declared.out.HostOut.TheVariants.{Note}
use Rattle.proof_attempts.specs.proof_requests.law_host.Heard.{is_refusal_of_others}
use Rattle.proof_attempts.specs.proof_requests.proof_alone.State.{HostMachine}
use Rattle.proof_queue.specs.Turn.{may_go}

-- ---- a host

-- what a task wants, whatever its callback id
abbrev pub want_of_task : Task → List ℕ
want_of_task task = want_of (task_request task 0)

-- the nodes a message to which was dropped, by what a host puts out, and so at these events
abbrev pub dropped_at : HostOut → List ℕ
dropped_at (Note (entry.QueueFull n)) = n ∷ []
dropped_at out = []

abbrev pub dropped_by : HostState → List HostEvent → List ℕ
dropped_by h [] = []
dropped_by h (event ∷ events) = flat_map dropped_at (outs h event) ++ dropped_by (after h event) events

-- ---- by the transcript

abbrev pub queue_of : Heeds → List Entry → Queue
queue_of heeds past = (requests heeds past).queue

-- these tasks wait, and these nodes are to be told
pub record Waits (queue : Queue) (tasks : List Task) (owes : List ℕ) : Type 0 where
  pub wants_are : queue.wants ≡ map want_of_task tasks
  pub owed_are : queue.owed ≡ owes

-- before each entry at which the host looks at this time what waits by the transcript is what waits in the host
abbrev pub WaitsAtLooks : Heeds → List Entry → HostMachine → Type 0
WaitsAtLooks heeds past m =
    (e : Entry) → has_looked past (asked past) (queue_of heeds past) e ≡ true → now_at past e ≡ m.clock → Waits (queue_before heeds past e) m.state.requests.queue []

-- ---- the law

-- an entry may stand where it does, by what waits, unless it refuses a line that is for others; and requests go by it
pub record Fits (heeds : Heeds) (past : List Entry) (e : Entry) : Type 0 where
  pub queues : (is_refusal_of_others (line_last past) e ≡ true) ⊎ (may_queue heeds past e ≡ true)
  pub goes : may_go heeds past e ≡ true
