-- The whole machine, in the courses of a lock (this project's own rule).
use Rattle.std.specs.Prelude.{◌≡◌, ℕ, List, Option, Some, slice_get}
use Rattle.std.specs.List.{AllByRecursion}
use Rattle.proof_course.specs.SessionLaws.{IsDone}
use Rattle.serial_frame.specs.declared.item.Item.{Item}
use Rattle.device_sim.specs.State.{State}
use Rattle.host_model.specs.Facts.{HostFacts}
use Rattle.world_model.specs.State.{Machine}
use Rattle.world_model.specs.Events.{Event, Host_does}
use Rattle.proof_course_plain.specs.Tied.{AreOutcomes, MakesWhatIsTaken}
use Rattle.proof_course_plain.specs.Told.{HasPast}
use Rattle.proof_course_sealed.specs.Courses.{Courses, CoursesGo, CoursesFacts}
use Rattle.proof_course_sealed.specs.Meaning.{Past, Grows}
use Rattle.proof_course_sealed.specs.Outside.{Follows}
use Rattle.proof_course_sealed.specs.Host.{AtHost, AsksFitly}
use Rattle.proof_course_sealed.specs.HostGoing.{IsUnheard}

-- The courses are where the machine is, with its keys: where its host is, with its facts, and what is outside it; and the table of commands says what the host was told. These items are on their way up and down the line
pub record WorldFollows (past : Past) (node : ℕ) (c : Courses) (up down : List Item) (m : Machine) : Type 0 where
  pub keys : m.keys ≡ past.keys
  pub text : Option ℕ
  pub tasks : List ℕ
  pub outside : Follows past node c text tasks m.host.decoder m.host.state.side.turn up down m.outside
  pub host : AtHost past node c text tasks m.host.state
  pub facts : HostFacts m.host.state
  pub recorded : HasPast m.host.state
  pub course : CoursesFacts c
  pub outcomes : AreOutcomes m.host.state.commands c.sessions.host.commands c.sessions.told

-- steps of the courses lead to where the machine is
pub record WorldGoes (past : Past) (node : ℕ) (c : Courses) (m : Machine) : Type 0 where
  pub later_past : Past
  pub later : Courses
  pub grows : Grows past later_past
  pub goes : CoursesGo c later
  pub up : List Item
  pub down : List Item
  pub follows : WorldFollows later_past node later up down m

-- so the courses are where the machine is, over any events from the first on: what the host was told is what the lock did, and each change by a session has exactly the settings that the table says of its command
pub record HasCourses (node : ℕ) (m : Machine) : Type 0 where
  pub past : Past
  pub courses : Courses
  pub up : List Item
  pub down : List Item
  pub follows : WorldFollows past node courses up down m
  pub done : IsDone courses.sessions
  pub made : (place : ℕ) (device : State) → slice_get m.outside.devices place ≡ Some device → device.node ≡ node → AllByRecursion (MakesWhatIsTaken m.host.state.commands courses.sessions.host.commands) device.journal

-- ---- what is assumed of events

-- the orders for the node are to end points of at most 127, and what else is queued for it is no message of a session and no nonce
abbrev pub IsFitly : ℕ → Event → Type 0
IsFitly node (Host_does event) = AsksFitly node event
IsFitly node event = Unit {0}

-- what the host makes of a payload of the node it does only where it takes bytes out of its pipe
abbrev pub HearsInPipe : ℕ → Event → Type 0
HearsInPipe node (Host_does event) = IsUnheard node event
HearsInPipe node event = Unit {0}
