-- The host in the courses of a lock (this project's own rule).
use Rattle.std.specs.Prelude.{◌≡◌, ◌≢◌, ◌≤◌, ℕ, List, map, length, Option, Some, None}
use Rattle.std.specs.List.{AllByRecursion}
use Rattle.s0_session.specs.Nonces.{account_of}
use Rattle.host_requests.specs.declared.task.Task.{Task}
use Rattle.host_requests.specs.declared.task.Task.TheVariants as task
use Rattle.host_model.specs.State.{HostState, node_of}
use Rattle.host_model.specs.Events.{HostEvent, Accepts, Queues, Requests_do}
use Rattle.proof_course_plain.specs.Meaning.{Asked}
use Rattle.proof_course_plain.specs.Ways.{Beside}
use Rattle.proof_course_plain.specs.Host.{asked_of, PushesOther}
use Rattle.proof_course_plain.specs.Mesh.{labels}
use Rattle.proof_messages.specs.Numbers.{IsNonce, HasGiven}
use Rattle.proof_course_sealed.specs.Labels.{Sealed, Up}
use Rattle.proof_course_sealed.specs.Courses.{Courses, HasSeen}
use Rattle.proof_course_sealed.specs.Meaning.{Past, IsSealedMessage, IsNeither, HostMeans}

-- a sealed text that is not written yet is of the last session, and for a nonce of that number; where there is none, no number is
abbrev pub TextIs : Past → ℕ → Option (List ℕ) → Option ℕ → Type 0
TextIs past node None None = Unit {0}
TextIs past node (Some payload) (Some number) = HostMeans past node payload (Up (Sealed (length past.commands) number))
TextIs past node None (Some number) = ⊥
TextIs past node (Some payload) None = ⊥

-- what is sent beside messages of sessions and nonces is neither
abbrev pub IsOtherTask : ℕ → Task → Type 0
IsOtherTask node (task.Plain n payload) = n ≡ node → IsNeither payload
IsOtherTask node (task.Offer n nonce) = n ≢ node
IsOtherTask node (task.Segment n payload) = n ≢ node
IsOtherTask node other = Unit {0}

-- a task that brings the node one of its nonces has that number; any other has none
abbrev pub TaskIs : Past → ℕ → Task → Option ℕ → Type 0
TaskIs past node (task.Offer n nonce) (Some number) = (n ≡ node) × IsNonce past.shown number nonce
TaskIs past node (task.Plain n payload) (Some number) = ⊥
TaskIs past node (task.Segment n payload) (Some number) = ⊥
TaskIs past node other (Some number) = ⊥
TaskIs past node asked None = IsOtherTask node asked

-- a command for the node is to an end point of at most 127
abbrev pub NamesEndFor : ℕ → Asked → Type 0
NamesEndFor node asked = asked.order.node ≡ node → asked.order.end ≤ 127

-- the host has the book of the courses' sessions; the nonces that it gave and saw are those of the courses; what waits to be sealed is the message of its last session; what is sealed and not written yet, and the nonces that wait, are these; and every order for the
-- node is to an end point of at most 127
pub record AtHost (past : Past) (node : ℕ) (c : Courses) (text : Option ℕ) (tasks : List ℕ) (h : HostState) : Type 0 where
  pub keys : h.keys ≡ past.keys
  pub book : ((node_of h node).book.commands ≡ c.sessions.host.commands) × ((node_of h node).book.outcome ≡ c.sessions.host.outcome)
  pub commands : past.commands ≡ c.sessions.host.commands
  pub orders : past.orders ≡ map asked_of h.commands
  pub ends : AllByRecursion (NamesEndFor node) past.orders
  pub gave : HasGiven past.shown c.host.given c.host.is_live (account_of h.nonces node)
  pub saw : HasSeen c.node.seen c.node.waits (node_of h node).seen (node_of h node).pending
  pub pending : (plain : List ℕ) → (node_of h node).pending ≡ Some plain → IsSealedMessage past (length past.commands) plain
  pub texts : TextIs past node (node_of h node).text text
  pub marks : List (Option ℕ)
  pub queue : Beside (TaskIs past node) h.requests.queue marks
  pub numbers : tasks ≡ labels marks

-- ---- what is asked of the host

-- orders for the node are to end points of at most 127, and what else is sent to it is no message of a session and no nonce
abbrev pub AsksFitly : ℕ → HostEvent → Type 0
AsksFitly node (Accepts order carriage) = NamesEndFor node (record { order = order; carriage = carriage })
AsksFitly node (Queues queued) = IsOtherTask node queued
AsksFitly node (Requests_do event moment) = PushesOther (IsOtherTask node) event
AsksFitly node event = Unit {0}
