-- The sessions between a host and one device, and all that is on its way between them (this project's own model): what may happen, one
-- step at a time, and what it makes of them.
use Rattle.std.specs.Prelude.{◌≡◌, ◌≢◌, ℕ, ◌+◌, ◌<◌, ◌≤◌, ◌%◌, ◌==◌, ◌&&◌, max, if◌then◌else◌, Bool, true, false, List, [], ◌∷◌, ◌++◌, slice_get, Option, Some, None}
use Rattle.std.specs.List.{remove}
use Rattle.supervision.specs.Session.{wire_id}
use Rattle.supervision.specs.Host.{HostBook, no_sessions, begun_of, open_session, begins, with_attempts, told_of, after_report}
use Rattle.supervision.specs.Device.{Taken, none_taken, is_new, after_get, finished}
use Rattle.supervision.specs.Ends.{Report}
use Rattle.supervision.specs.declared.session.TheConstants.{WORKING}
use Rattle.supervision.specs.declared.host_node.Told.{Told}
use Rattle.supervision.specs.declared.host_node.Told.TheVariants.{Final, Working, Old}
use Rattle.proof_course.specs.Ways.{doubled}
use Rattle.proof_course.specs.Flying.{Flight, hosts}

-- ---- what is on its way

-- a message to the device: of that session, whole or one segment of it
pub record Message : Type 0 where
  pub session : ℕ
  pub is_segment : Bool

abbrev pub session_of : Message → ℕ
session_of message = message.session

-- what a frame holds: a message, or nothing for the device; a report of the device with its session and status, or something else
pub data Cargo : Type 0 where
  Command : (message : Message) → Cargo
  Of_host : Cargo
  Answer : (session status : ℕ) → Cargo
  Of_node : Cargo

-- the host sent it
abbrev pub is_of_host : Cargo → Bool
is_of_host (Command message) = true
is_of_host Of_host = true
is_of_host (Answer session status) = false
is_of_host Of_node = false

-- ---- what there is

-- what the host and the device know of sessions; the last session of which a message went on the air; the messages on their way to the chip,
-- first the one that it judges next; the frames on the air, with how many sessions had begun when each went there, oldest first; all frames that ever were there; the reports on their way
-- to the host, first the one that it judges next; the final statuses that the device came to, and those that the host was told,
-- one for each session from the first; and the session of which the device keeps segments, where it keeps any
pub record Course : Type 0 where
  pub host : HostBook
  pub device : Taken
  pub kept : Option ℕ
  pub sent : ℕ
  pub up : List Message
  pub air : List (Flight Cargo)
  pub old : List (Flight Cargo)
  pub down : List Report
  pub ends : List ℕ
  pub told : List ℕ

abbrev pub first_course : Course
first_course = record {
  host = no_sessions;
  device = none_taken;
  kept = None;
  sent = 0;
  up = [];
  air = [];
  old = [];
  down = [];
  ends = [];
  told = [];
}

-- ---- what may happen

-- the host begins a session, or counts an attempt; it writes a message of the last session, of which the chip may never hear or hear
-- twice; the chip puts the first message on the air, or another frame goes there; the device reports of its last session; the
-- oldest frame on the air is heard by whom it is for, or by nobody, where a segment may be the one that makes its message whole; any frame
-- that ever was on the air is heard again; the work of the device comes to a final status; a report on its way to the host is lost or
-- comes twice; the host judges the first of them
pub data Step : Type 0 where
  Begins : (command : ℕ) → Step
  Attempts : (count : ℕ) → Step
  Writes : (is_segment : Bool) → Step
  Up_loses : (at : ℕ) → Step
  Up_doubles : (at : ℕ) → Step
  Sends : Step
  Flies : (cargo : Cargo) → Step
  Reports : Step
  Lands : (is_heard is_whole : Bool) → Step
  Repeats : (at : ℕ) (is_whole : Bool) → Step
  Finishes : (status : ℕ) → Step
  Down_loses : (at : ℕ) → Step
  Down_doubles : (at : ℕ) → Step
  Judges : Step

-- ---- words

-- a segment is of the next session, as far as its id of four bits tells that
abbrev pub is_segment_of_next : Taken → ℕ → Bool
is_segment_of_next device session = session % 16 == (device.taken + 1) % 16

-- the device after a message: one in segments counts with the segment that makes it whole
abbrev pub after_message : Taken → Message → Bool → Taken
after_message device message is_whole =
    if message.is_segment
    then (if is_whole && is_segment_of_next device message.session then after_get device (wire_id message.session) else device)
    else after_get device (wire_id message.session)

-- what is kept of segments then: nothing once a message is whole, or is new
abbrev pub kept_after : Taken → Option ℕ → Message → Bool → Option ℕ
kept_after device kept message is_whole =
    if message.is_segment
    then (if is_segment_of_next device message.session then (if is_whole then None else Some message.session) else kept)
    else (if is_new device (wire_id message.session) then None else kept)

-- a frame goes on the air now
abbrev pub flies : Course → Cargo → Course
flies c cargo = record c {
  air = c.air ++ record { cargo = cargo; since = begun_of c.host } ∷ [];
  old = c.old ++ record { cargo = cargo; since = begun_of c.host } ∷ [];
}

-- a frame is heard by whom it is for
abbrev pub hears : Course → ℕ → Cargo → Bool → Course
hears c begun (Command message) is_whole = record c { device = after_message c.device message is_whole; kept = kept_after c.device c.kept message is_whole }
hears c begun Of_host is_whole = c
hears c begun (Answer session status) is_whole = record c { down = c.down ++ record { session = session; status = status; begun = begun } ∷ [] }
hears c begun Of_node is_whole = c

-- the first message goes on the air
abbrev pub sends : Course → List Message → Course
sends c [] = c
sends c (message ∷ messages) = record (flies c (Command message)) { up = messages; sent = max c.sent message.session }

-- the oldest frame is no longer on the air
abbrev pub lands : Course → List (Flight Cargo) → Bool → Bool → Course
lands c [] is_heard is_whole = c
lands c (flight ∷ flights) true is_whole = hears (record c { air = flights }) flight.since flight.cargo is_whole
lands c (flight ∷ flights) false is_whole = record c { air = flights }

abbrev pub repeats : Course → Option (Flight Cargo) → Bool → Course
repeats c None is_whole = c
repeats c (Some flight) is_whole = hears c flight.since flight.cargo is_whole

-- what the host was told then
abbrev pub told_by : Told → ℕ → List ℕ → List ℕ
told_by (Final session) status told = told ++ status ∷ []
told_by Working status told = told
told_by Old status told = told

abbrev pub judges : Course → List Report → Course
judges c [] = c
judges c (report ∷ reports) = record c {
  host = after_report c.host (wire_id report.session) report.status;
  down = reports;
  told = told_by (told_of c.host (wire_id report.session) report.status) report.status c.told;
}

-- ---- what is then

abbrev pub after : Course → Step → Course
after c (Begins command) = record c { host = begins c.host command }
after c (Attempts count) = record c { host = with_attempts c.host count }
after c (Writes is_segment) = record c { up = c.up ++ record { session = begun_of c.host; is_segment = is_segment } ∷ [] }
after c (Up_loses at) = record c { up = remove c.up at }
after c (Up_doubles at) = record c { up = doubled c.up at }
after c Sends = sends c c.up
after c (Flies cargo) = flies c cargo
after c Reports = flies c (Answer c.device.taken c.device.status)
after c (Lands is_heard is_whole) = lands c c.air is_heard is_whole
after c (Repeats at is_whole) = repeats c (slice_get c.old at) is_whole
after c (Finishes status) = record c { device = finished c.device status; ends = c.ends ++ status ∷ [] }
after c (Down_loses at) = record c { down = remove c.down at }
after c (Down_doubles at) = record c { down = doubled c.down at }
after c Judges = judges c c.down

-- ---- when it may happen

-- at most two frames of the host are on the air at once
abbrev pub HasRoom : Course → Type 0
HasRoom c = hosts is_of_host c.air ≤ 1

-- another frame holds neither message nor report
abbrev pub MayFly : Course → Cargo → Type 0
MayFly c (Command message) = ⊥
MayFly c Of_host = HasRoom c
MayFly c (Answer session status) = ⊥
MayFly c Of_node = Unit {0}

-- a frame that is heard again is fresh: fewer than 62 sessions began since, of a segment fewer than 14
abbrev pub IsFresh : ℕ → ℕ → Bool → Type 0
IsFresh now since true = now ≤ since + 13
IsFresh now since false = now ≤ since + 61

abbrev pub IsFreshCargo : ℕ → ℕ → Cargo → Type 0
IsFreshCargo now since (Command message) = IsFresh now since message.is_segment
IsFreshCargo now since Of_host = Unit {0}
IsFreshCargo now since (Answer session status) = IsFresh now since false
IsFreshCargo now since Of_node = Unit {0}

abbrev pub MayRepeat : Course → Option (Flight Cargo) → Type 0
MayRepeat c None = ⊥
MayRepeat c (Some flight) = IsFreshCargo (begun_of c.host) flight.since flight.cargo

-- a session begins only where none is open; a message is of a session that has begun; a device reports of a session that it has taken, and
-- ends the work that it is at
abbrev pub May : Course → Step → Type 0
May c (Begins command) = open_session c.host ≡ None
May c (Attempts count) = Unit {0}
May c (Writes is_segment) = 0 < begun_of c.host
May c (Up_loses at) = Unit {0}
May c (Up_doubles at) = Unit {0}
May c Sends = HasRoom c
May c (Flies cargo) = MayFly c cargo
May c Reports = 0 < c.device.taken
May c (Lands is_heard is_whole) = Unit {0}
May c (Repeats at is_whole) = MayRepeat c (slice_get c.old at)
May c (Finishes status) = (c.device.status ≡ WORKING) × (status ≢ WORKING)
May c (Down_loses at) = Unit {0}
May c (Down_doubles at) = Unit {0}
May c Judges = Unit {0}

-- one step after another
abbrev pub after_all : Course → List Step → Course
after_all c [] = c
after_all c (step ∷ steps) = after_all (after c step) steps

abbrev pub MayAll : Course → List Step → Type 0
MayAll c [] = Unit {0}
MayAll c (step ∷ steps) = May c step × MayAll (after c step) steps
