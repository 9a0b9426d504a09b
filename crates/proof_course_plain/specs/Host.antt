-- The host in the course of one node whose commands go unsealed, whole or in segments (this project's own rule).
use Rattle.std.specs.Prelude.{◌≡◌, ◌≢◌, ℕ, ◌<◌, ◌≤◌, Option, None, List, map, length}
use Rattle.std.specs.List.{AllByRecursion}
use Rattle.supervision.specs.Host.{HostBook}
use Rattle.host_orders.specs.Wrapping.{form_of}
use Rattle.host_orders.specs.declared.carriage.Form.TheVariants.{Sealed}
use Rattle.host_requests.specs.declared.task.Task.{Task}
use Rattle.host_requests.specs.declared.task.Task.TheVariants as task
use Rattle.host_node.specs.State.{NodeState}
use Rattle.host_model.specs.State.{HostState, Command, node_of}
use Rattle.host_model.specs.Events.{HostEvent, Accepts, Queues, Requests_do}
use Rattle.host_requests.specs.Events.{RequestsEvent}
use Rattle.host_requests.specs.Events.RequestsEvent.{Pushes}
use Rattle.proof_once.specs.proof_messages.Others.{IsOther}
use Rattle.proof_course_plain.specs.Meaning.{Asked, IsSegmentOf}

-- the host keeps these commands of a node's sessions, and this outcome of the last; nothing of the running attempt is to be sealed, or waits sealed
abbrev pub NodeAs : List ℕ → Option ℕ → NodeState → Type 0
NodeAs commands outcome n = (n.book.commands ≡ commands) × ((n.book.outcome ≡ outcome) × ((n.text ≡ None) × (n.pending ≡ None)))

-- a command as it was accepted
abbrev pub asked_of : Command → Asked
asked_of command = record { order = command.order; carriage = command.carriage }

-- a command for the node goes unsealed, to an end point of at most 127
abbrev pub IsPlainFor : ℕ → Asked → Type 0
IsPlainFor node asked = asked.order.node ≡ node → (form_of asked.carriage.outer ≢ Sealed) × (asked.order.end ≤ 127)

-- what a task that is asked for brings the node is no message of a session
abbrev pub IsOtherTask : ℕ → Task → Type 0
IsOtherTask node (task.Plain n payload) = n ≡ node → IsOther payload
IsOtherTask node (task.Offer n nonce) = Unit {0}
IsOtherTask node (task.Segment n payload) = n ≢ node
IsOtherTask node other = Unit {0}

-- what a task that waits brings the node is a segment of the last session, or no message of a session
abbrev pub IsTaskFor : ℕ → List Asked → List ℕ → Task → Type 0
IsTaskFor node orders commands (task.Segment n payload) = n ≡ node → (0 < length commands) × IsSegmentOf orders commands (length commands) payload
IsTaskFor node orders commands other = IsOtherTask node other

pub record AtHost (node : ℕ) (orders : List Asked) (book : HostBook) (h : HostState) : Type 0 where
  pub node_as : NodeAs book.commands book.outcome (node_of h node)
  pub orders_are : orders ≡ map asked_of h.commands
  pub plain : AllByRecursion (IsPlainFor node) orders
  pub queue : AllByRecursion (IsTaskFor node orders book.commands) h.requests.queue

-- what is pushed is such a task
abbrev pub PushesOther : (Task → Type 0) → RequestsEvent → Type 0
PushesOther IsOther (Pushes pushed) = IsOther pushed
PushesOther IsOther event = Unit {0}

-- what is asked of the host: orders for the node go unsealed, and what else is sent to it is no message of a session
abbrev pub AsksPlainly : ℕ → HostEvent → Type 0
AsksPlainly node (Accepts order carriage) = IsPlainFor node (record { order = order; carriage = carriage })
AsksPlainly node (Queues queued) = IsOtherTask node queued
AsksPlainly node (Requests_do event moment) = PushesOther (IsOtherTask node) event
AsksPlainly node event = Unit {0}
