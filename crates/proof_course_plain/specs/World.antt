-- The whole machine, in the course of one node (this project's own rule).
use Rattle.std.specs.Prelude.{◌≡◌, ◌≢◌, ℕ, ◌≤◌, List, Some, slice_get}
use Rattle.std.specs.List.{AllByRecursion}
use Rattle.proof_course.specs.Sessions.{Course}
use Rattle.proof_course.specs.SessionFacts.{CourseFacts}
use Rattle.proof_course.specs.SessionLaws.{IsDone, IsApplied}
use Rattle.serial_frame.specs.declared.item.Item.{Item}
use Rattle.device_sim.specs.State.{State}
use Rattle.zw_text.specs.declared.line.Line.{Line}
use Rattle.zw_text.specs.declared.line.Line.TheVariants.{Command, Get}
use Rattle.host_orders.specs.Wrapping.{form_of}
use Rattle.host_orders.specs.declared.carriage.Form.TheVariants.{Sealed}
use Rattle.host_requests.specs.declared.task.Task.{Task}
use Rattle.host_requests.specs.declared.task.Task.TheVariants as task
use Rattle.host_requests.specs.Events.{RequestsEvent}
use Rattle.host_requests.specs.Events.RequestsEvent.{Pushes}
use Rattle.host_model.specs.Events.{HostEvent, Accepts, Queues, Requests_do, Finishes, Offers, Gives, Spends, Spends_unread, Takes_nonce, Resends}
use Rattle.host_model.specs.Facts.{HostFacts}
use Rattle.world_model.specs.State.{Machine}
use Rattle.world_model.specs.Events.{Event, Host_does}
use Rattle.proof_course_plain.specs.Ways.{Goes}
use Rattle.proof_course_plain.specs.Meaning.{Asked}
use Rattle.proof_course_plain.specs.Outside.{Follows}
use Rattle.proof_course_plain.specs.Host.{AtHost, AsksPlainly}
use Rattle.proof_course_plain.specs.HostGoing.{EndsNone}
use Rattle.proof_once.specs.Tied.{AreOutcomes, MakesWhatIsTaken}
use Rattle.proof_course_plain.specs.Told.{HasPast}

-- The course is where the machine is: where its host is, with its facts, and what is outside it; and the table of commands says what the host was told. These orders were accepted, and these items are on their way up
-- and down the line
pub record WorldFollows (node : ℕ) (orders : List Asked) (c : Course) (up down : List Item) (m : Machine) : Type 0 where
  pub outside : Follows node orders c m.host.decoder m.host.state.side.turn up down m.outside
  pub host : AtHost node orders c.host m.host.state
  pub facts : HostFacts m.host.state
  pub past : HasPast m.host.state
  pub course : CourseFacts c
  pub outcomes : AreOutcomes m.host.state.commands c.host.commands c.told

-- steps of the course lead to where the machine is
pub record WorldGoes (node : ℕ) (c : Course) (m : Machine) : Type 0 where
  pub orders : List Asked
  pub later : Course
  pub goes : Goes c later
  pub up : List Item
  pub down : List Item
  pub follows : WorldFollows node orders later up down m

-- So the course is where the machine is, over any events from the first on: the facts of courses hold, what the host was told is what the device did, and what the device applied is a part of the commands of the sessions. That the device
-- ended its sessions with the statuses of the course, and has changed by those that ended with success, is said by `follows`; so is that the host's sessions are the course's. The table of commands says of each session what the host was told,
-- and each change by a session has exactly the settings that the table says of its command
pub record HasCourse (node : ℕ) (m : Machine) : Type 0 where
  pub orders : List Asked
  pub course : Course
  pub up : List Item
  pub down : List Item
  pub follows : WorldFollows node orders course up down m
  pub facts : CourseFacts course
  pub done : IsDone course
  pub applied : IsApplied course
  pub outcomes : AreOutcomes m.host.state.commands course.host.commands course.told
  pub made : (place : ℕ) (device : State) → slice_get m.outside.devices place ≡ Some device → device.node ≡ node → AllByRecursion (MakesWhatIsTaken m.host.state.commands course.host.commands) device.journal

-- ---- what is assumed of events

-- the orders for the node go unsealed, and what else is queued for it is no message of a session
abbrev pub IsPlainly : ℕ → Event → Type 0
IsPlainly node (Host_does event) = AsksPlainly node event
IsPlainly node event = Unit {0}

-- the orders for the node go unsealed: no more is assumed of lines
abbrev pub OrderPlain : ℕ → HostEvent → Type 0
OrderPlain node (Accepts order carriage) = order.node ≡ node → form_of carriage.outer ≢ Sealed
OrderPlain node event = Unit {0}

abbrev pub OrdersPlain : ℕ → Event → Type 0
OrdersPlain node (Host_does event) = OrderPlain node event
OrdersPlain node event = Unit {0}

-- the end point that a line names is at most 127, as of each line that is read
abbrev pub NamesEnd : Line → Type 0
NamesEnd (Command order) = order.end ≤ 127
NamesEnd (Get n end) = end ≤ 127
NamesEnd line = Unit {0}

-- what a line asks to send a node without a session is such a payload; no line asks for a nonce or a segment of the node
abbrev pub IsAskedTask : (List ℕ → Type 0) → ℕ → Task → Type 0
IsAskedTask Is node (task.Plain n payload) = n ≡ node → Is payload
IsAskedTask Is node (task.Offer n nonce) = n ≢ node
IsAskedTask Is node (task.Segment n payload) = n ≢ node
IsAskedTask Is node other = Unit {0}

-- nothing is pushed
abbrev pub PushesNone : RequestsEvent → Type 0
PushesNone (Pushes pushed) = ⊥
PushesNone event = Unit {0}

-- What the host does of itself or for a line, where lines name such end points: it makes nothing of a payload of the node, so it ends no session of it, does nothing with nonces and sends no segment again; and what it is asked to send to it is such
abbrev pub IsOfLine : Type 0 → (List ℕ → Type 0) → ℕ → HostEvent → Type 0
IsOfLine Near Is node (Accepts order carriage) = Near → order.end ≤ 127
IsOfLine Near Is node (Queues queued) = Near → IsAskedTask Is node queued
IsOfLine Near Is node (Requests_do event moment) = PushesNone event
IsOfLine Near Is node (Finishes n session id command status wake_request) = n ≢ node
IsOfLine Near Is node (Offers n) = n ≢ node
IsOfLine Near Is node (Gives n drawn) = n ≢ node
IsOfLine Near Is node (Spends n) = n ≢ node
IsOfLine Near Is node (Spends_unread n payload) = n ≢ node
IsOfLine Near Is node (Takes_nonce n seen text) = n ≢ node
IsOfLine Near Is node (Resends n payload) = n ≢ node
IsOfLine Near Is node event = Unit {0}

abbrev pub ComesOfLine : Type 0 → (List ℕ → Type 0) → ℕ → Event → Type 0
ComesOfLine Near Is node (Host_does event) = IsOfLine Near Is node event
ComesOfLine Near Is node event = Unit {0}

-- the host ends a session of the node only by what it has taken out of its pipe
abbrev pub EndsByHearing : ℕ → Event → Type 0
EndsByHearing node (Host_does event) = EndsNone node event
EndsByHearing node event = Unit {0}
