-- What follows of a course (this project's own rule).
use Rattle.std.specs.Prelude.{◌≡◌, ℕ, ◌+◌, ◌≤◌, ◌⊎◌, List, ◌++◌, length, Some}
use Rattle.supervision.specs.Session.{wire_id}
use Rattle.supervision.specs.Host.{HostBook, begun_of, open_session, command_at, told_of}
use Rattle.supervision.specs.Device.{Taken, heard_of}
use Rattle.supervision.specs.Ends.{Report}
use Rattle.supervision.specs.declared.host_node.Told.TheVariants.{Final, Working}
use Rattle.supervision.specs.declared.device_book.Heard.TheVariants.{New, Again}
use Rattle.supervision.specs.declared.session.TheConstants.{SUCCESS}
use Rattle.proof_course.specs.Parts.{IsPart, Has, picked, successes}
use Rattle.proof_course.specs.Sessions.{Course, Message}

-- a message that is heard is new only where it is of the session after the last that was taken, and again only where it is of that one
pub record NamesOne (device : Taken) (message : Message) : Type 0 where
  pub is_new : (session : ℕ) → heard_of device (wire_id message.session) ≡ New session → (session ≡ message.session) × (message.session ≡ device.taken + 1)
  pub is_again : (status : ℕ) → heard_of device (wire_id message.session) ≡ Again status → message.session ≡ device.taken

-- a report that the host judges is of the open session where its id is that one's, and then tells what the device did
pub record TellsOne (host : HostBook) (device : Taken) (report : Report) : Type 0 where
  pub ends : (session : ℕ) → told_of host (wire_id report.session) report.status ≡ Final session
      → (session ≡ report.session) × ((open_session host ≡ Some report.session) × ((report.session ≡ device.taken) × (device.status ≡ report.status)))
  pub works : told_of host (wire_id report.session) report.status ≡ Working → open_session host ≡ Some report.session

-- a step takes no session, or the next one
abbrev pub TakesNext : Course → Course → Type 0
TakesNext old new = (new.device.taken ≡ old.device.taken) ⊎ (new.device.taken ≡ old.device.taken + 1)

-- what the host was told is what the device did, session by session; and it has begun no more than one session that it was not told of
pub record IsDone (c : Course) : Type 0 where
  pub rest : List ℕ
  pub prefix : c.ends ≡ c.told ++ rest
  pub begun : begun_of c.host ≤ length c.told + 1
  pub ended : length c.ends ≤ begun_of c.host

-- the commands of the sessions that ended in success are a part of those of all sessions, in order, each once; and a session of which the host was
-- told success is one of them
pub record IsApplied (c : Course) : Type 0 where
  pub part : IsPart (picked c.host.commands (successes 1 c.ends)) c.host.commands
  pub reported : (session : ℕ) → command_at c.told session ≡ Some SUCCESS → Has (successes 1 c.ends) session
