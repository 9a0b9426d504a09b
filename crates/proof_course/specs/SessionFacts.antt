-- What every step of a course keeps (this project's own rule).
use Rattle.std.specs.Prelude.{◌≡◌, ◌≢◌, ℕ, ◌+◌, ◌<◌, ◌≤◌, List, ◌++◌, length, Option, Some, None}
use Rattle.std.specs.List.{AllByRecursion}
use Rattle.supervision.specs.Host.{HostBook, begun_of, open_session, command_at}
use Rattle.supervision.specs.Device.{Taken}
use Rattle.supervision.specs.Ends.{Report, EndsAgree, GetFits, ReportFits}
use Rattle.supervision.specs.declared.session.TheConstants.{WORKING}
use Rattle.proof_course.specs.Ways.{NeverFalls, NoneAhead}
use Rattle.proof_course.specs.Flying.{Flight, hosts, KeepsUp}
use Rattle.proof_course.specs.Sessions.{Course, Message, Cargo, Command, Of_host, Answer, Of_node, session_of, is_of_host}

-- ---- up to the chip

-- a message that is still to go on the air is of the last session or of the one before it, and of none before one that went there
pub record IsDue (sent begun : ℕ) (message : Message) : Type 0 where
  pub from_one : 0 < message.session
  pub unsent : sent ≤ message.session
  pub has_begun : message.session ≤ begun
  pub near : begun ≤ message.session + 1

-- ---- on the air

-- a report of a session tells its final status, where it is final
abbrev pub Tells : List ℕ → ℕ → ℕ → Type 0
Tells ends session status = status ≢ WORKING → command_at ends session ≡ Some status

abbrev pub IsTrueReport : HostBook → Taken → List ℕ → Report → Type 0
IsTrueReport host device ends report = ReportFits (begun_of host) device report × Tells ends report.session report.status

-- a message carries the command of its session and went on the air before the second session after it began; a report is true
abbrev pub FitsBy : HostBook → Taken → ℕ → List ℕ → ℕ → Cargo → Type 0
FitsBy host device sent ends begun (Command message) =
    (message.session ≤ sent) × ((command : ℕ) × GetFits host.commands (record { session = message.session; command = command; begun = begun }))
FitsBy host device sent ends begun Of_host = Unit {0}
FitsBy host device sent ends begun (Answer session status) = IsTrueReport host device ends (record { session = session; status = status; begun = begun })
FitsBy host device sent ends begun Of_node = Unit {0}

abbrev pub Fits : Course → Flight Cargo → Type 0
Fits c flight = FitsBy c.host c.device c.sent c.ends flight.since flight.cargo

-- ---- down to the host

-- a report to the host is true, and at most 63 sessions began since its own; where it is just so many, the last one is open
pub record IsOnTime (host : HostBook) (device : Taken) (ends : List ℕ) (report : Report) : Type 0 where
  pub fits : IsTrueReport host device ends report
  pub near : begun_of host ≤ report.session + 63
  pub edge : begun_of host ≡ report.session + 63 → open_session host ≢ None

abbrev pub reported : Report → ℕ
reported report = report.session

-- ---- at the device

-- the segments that it keeps are of the session after the last that it took, of which a message was sent
abbrev pub IsOfNext : Taken → ℕ → Option ℕ → Type 0
IsOfNext device sent None = Unit {0}
IsOfNext device sent (Some session) = (session ≡ device.taken + 1) × (session ≤ sent)

-- ---- final statuses

-- the device came to one for each session that it took, but the one that it works on
pub record AreEnds (device : Taken) (ends : List ℕ) : Type 0 where
  pub works : device.status ≡ WORKING → device.taken ≡ length ends + 1
  pub rests : device.status ≢ WORKING → device.taken ≡ length ends
  pub last : device.status ≢ WORKING → 0 < device.taken → command_at ends device.taken ≡ Some device.status

-- the host was told one for each session but the one that is open, and they are those
pub record AreTold (host : HostBook) (ends told : List ℕ) : Type 0 where
  pub rest : List ℕ
  pub prefix : ends ≡ told ++ rest
  pub closed : open_session host ≡ None → length told ≡ begun_of host
  pub opened : (session : ℕ) → open_session host ≡ Some session → length told + 1 ≡ begun_of host

-- ---- all of it

pub record CourseFacts (c : Course) : Type 0 where
  pub agree : EndsAgree c.host c.device
  pub taken : c.device.taken ≤ c.sent
  pub of_next : IsOfNext c.device c.sent c.kept
  pub sent : c.sent ≤ begun_of c.host
  pub due : AllByRecursion (IsDue c.sent (begun_of c.host)) c.up
  pub in_turn : NeverFalls session_of c.up
  pub flying : AllByRecursion (Fits c) c.air
  pub flown : AllByRecursion (Fits c) c.old
  pub few : hosts is_of_host c.air ≤ 2
  pub keeps_up : KeepsUp is_of_host (begun_of c.host) c.sent c.air
  pub on_time : AllByRecursion (IsOnTime c.host c.device c.ends) c.down
  pub none_ahead : NoneAhead reported 63 (begun_of c.host) c.down
  pub ends_are : AreEnds c.device c.ends
  pub told_are : AreTold c.host c.ends c.told
