-- Both ends of one node over every list of events. A message once sent may be heard never, once or often, and in any
-- order, while it is fresh: that is loss, repetition and reordering.
use Rattle.std.specs.Prelude.{◌≡◌, ◌≢◌, ℕ, ◌+◌, ◌<◌, Bool, true, false, ◌==◌, ◌&&◌, not, nat_lt, nat_le, List, [], ◌∷◌, ◌++◌, slice_get, filter, All, Any, Contains, IsTrue, Option, Some, None, unwrap_or, if◌then◌else◌}
use Rattle.supervision.specs.Session.{wire_id, is_status}
use Rattle.supervision.specs.Host.{HostBook, no_sessions, begun_of, open_session, command_at, begins, told_of, after_report, with_attempts}
use Rattle.supervision.specs.Device.{Taken, none_taken, heard_of, after_get, finished}
use Rattle.supervision.specs.Ends.{Get, Report, is_fresh, is_fresh_on_line}
use Rattle.supervision.specs.declared.session.TheConstants.{SUCCESS, WORKING, FAIL}
use Rattle.supervision.specs.declared.host_node.Told.{Told}
use Rattle.supervision.specs.declared.host_node.Told.TheVariants.{Final, Working as still_working, Old as unknown}
use Rattle.supervision.specs.declared.device_book.Heard.{Heard}
use Rattle.supervision.specs.declared.device_book.Heard.TheVariants.{New, Again, Old}

-- a session that came to its end: its command, and the final status
pub record Ended : Type 0 where
  pub session : ℕ
  pub command : ℕ
  pub status : ℕ

-- one ended session comes before the other
abbrev pub IsEarlier : Ended → Ended → Type 0
IsEarlier a b = a.session < b.session

-- the host began that session, for that command
abbrev pub IsBegun : List ℕ → Ended → Type 0
IsBegun commands e = command_at commands e.session ≡ Some e.command

-- both ends, every message that was ever sent, the command of the last session taken, what the device brought to an
-- end and what the host was told so, each in order
pub record World : Type 0 where
  pub host : HostBook
  pub device : Taken
  pub gets : List Get
  pub reports : List Report
  pub held : ℕ
  pub done : List Ended
  pub told : List Ended

-- what may happen next. A loss is a message that never comes
pub data Event : Type 0 where
  -- the host is asked to begin a session for this command
  Begin : (command : ℕ) → Event
  -- an attempt of the series ends, or a new series starts
  Attempts : (now : ℕ) → Event
  -- a Get of this session goes on the air: of the last session begun, or of the one before
  Send : (session : ℕ) → Event
  -- the device hears one of the Gets ever sent
  Get_comes : (which : ℕ) → Event
  -- the commands of the last session taken come to their end
  Finish : (status : ℕ) → Event
  -- the device sends a report of the last session taken
  Answer : Event
  -- the host hears one of the reports ever sent
  Report_comes : (which : ℕ) → Event

-- the world in which nothing has happened
abbrev pub start : World
start = record {
  host = no_sessions;
  device = none_taken;
  gets = [];
  reports = [];
  held = 0;
  done = [];
  told = [];
}

-- a session begins only where none is open
abbrev pub begin_when : World → ℕ → Option ℕ → World
begin_when w command None = record w { host = begins w.host command }
begin_when w command (Some session) = w

-- a Get goes on the air with its session's command, before the second session after it
abbrev pub send_when : World → ℕ → Option ℕ → World
send_when w session None = w
send_when w session (Some command) =
    if nat_le (begun_of w.host) (session + 1)
    then record w { gets = w.gets ++ record { session = session; command = command; begun = begun_of w.host } ∷ [] }
    else w

-- what the device makes of a Get
abbrev pub take_when : World → Get → Heard → World
take_when w get (New session) = record w { device = after_get w.device (wire_id get.session); held = get.command }
take_when w get (Again status) = w
take_when w get Old = w

-- a Get is heard while it is fresh
abbrev pub hear_get : World → Option Get → World
hear_get w None = w
hear_get w (Some get) =
    if is_fresh (begun_of w.host) get.begun
    then take_when w get (heard_of w.device (wire_id get.session))
    else w

-- the commands come to their end once, with a final status
abbrev pub finish_when : World → ℕ → Bool → World
finish_when w status true =
    record w {
      device = finished w.device status;
      done = w.done ++ record { session = w.device.taken; command = w.held; status = status } ∷ [];
    }
finish_when w status false = w

-- a device that has taken a session reports of the last one
abbrev pub answer_when : World → Bool → World
answer_when w true =
    record w {
      reports = w.reports ++ record { session = w.device.taken; status = w.device.status; begun = begun_of w.host } ∷ [];
    }
answer_when w false = w

-- what the host makes of a report
abbrev pub tell_when : World → Report → Told → World
tell_when w report (Final session) =
    record w {
      host = after_report w.host (wire_id report.session) report.status;
      told = w.told ++ record {
        session = session;
        command = unwrap_or (command_at w.host.commands session) 0;
        status = report.status;
      } ∷ [];
    }
tell_when w report still_working = w
tell_when w report unknown = w

-- a report is heard while it is fresh
abbrev pub hear_report : World → Option Report → World
hear_report w None = w
hear_report w (Some report) =
    if is_fresh_on_line (begun_of w.host) report.begun
    then tell_when w report (told_of w.host (wire_id report.session) report.status)
    else w

-- the world after an event
abbrev pub happens : World → Event → World
happens w (Begin command) = begin_when w command (open_session w.host)
happens w (Attempts now) = record w { host = with_attempts w.host now }
happens w (Send session) = send_when w session (command_at w.host.commands session)
happens w (Get_comes which) = hear_get w (slice_get w.gets which)
happens w (Finish status) =
    finish_when w status (w.device.status == WORKING && (is_status status && not (status == WORKING)))
happens w Answer = answer_when w (nat_lt 0 w.device.taken)
happens w (Report_comes which) = hear_report w (slice_get w.reports which)

-- the world after these events
abbrev pub run : List Event → World → World
run [] w = w
run (event ∷ events) w = run events (happens w event)

-- the changes that the device made: one for each session that ended with success
abbrev pub changes : World → List Ended
changes w = filter (λ e. e.status == SUCCESS) w.done

-- P holds of the world after every list of events
abbrev pub Always : (World → Type 0) → Type 0
Always P = (events : List Event) → P (run events start)

-- a Get that was sent and is fresh names no session but its own: New is its own number, and Again is the last session
-- taken, which is its own
pub record GetsNameOne (w : World) (get : Get) : Type 0 where
  pub taken_as : (session : ℕ) → heard_of w.device (wire_id get.session) ≡ New session → session ≡ get.session
  pub repeated_as : (status : ℕ) → heard_of w.device (wire_id get.session) ≡ Again status → w.device.taken ≡ get.session

-- a report that was sent and is fresh names no session but its own, which is the open one
pub record ReportsNameOne (w : World) (report : Report) : Type 0 where
  pub ends : (session : ℕ) → told_of w.host (wire_id report.session) report.status ≡ Final session → session ≡ report.session
  pub is_open : told_of w.host (wire_id report.session) report.status ≢ unknown → open_session w.host ≡ Some report.session

-- a fresh Get
abbrev pub MayHearGet : World → Get → Type 0
MayHearGet w get = Contains w.gets get × IsTrue (is_fresh (begun_of w.host) get.begun)

-- a fresh report
abbrev pub MayHearReport : World → Report → Type 0
MayHearReport w report = Contains w.reports report × IsTrue (is_fresh_on_line (begun_of w.host) report.begun)

-- the host knows how the last session ended: the device has taken that one, and keeps that status
pub record KnowsEnd (w : World) (status : ℕ) : Type 0 where
  pub taken : w.device.taken ≡ begun_of w.host
  pub status_kept : w.device.status ≡ status

-- the host was told of success only where the device made the change, with that session's command
abbrev pub SuccessIsChange : World → Ended → Type 0
SuccessIsChange w told = told.status ≡ SUCCESS → Contains (changes w) told

-- the host was told of another end only where the device made no change by that session
abbrev pub RefusalIsNoChange : World → Ended → Type 0
RefusalIsNoChange w told = told.status ≢ SUCCESS → All (λ change. change.session ≢ told.session) (changes w)

-- each session before the last has its end
abbrev pub EachEndedBefore : World → Type 0
EachEndedBefore w = (session : ℕ) → 0 < session → session < begun_of w.host → Any (λ e. e.session ≡ session) w.told

-- a run: the first report is lost, the Get is repeated and answered again, and both are heard late once more
abbrev pub worked_events : List Event
worked_events =
    Begin 7 ∷ Send 1 ∷ Get_comes 0 ∷ Finish SUCCESS ∷ Answer ∷ Send 1 ∷ Get_comes 1 ∷ Answer ∷ Report_comes 1 ∷
    Begin 8 ∷ Send 2 ∷ Get_comes 0 ∷ Get_comes 2 ∷ Report_comes 0 ∷ Finish FAIL ∷ Get_comes 1 ∷ Answer ∷ Report_comes 2 ∷
    Begin 9 ∷ Send 3 ∷ Get_comes 3 ∷ Finish SUCCESS ∷ []

-- a session that ended so
abbrev pub ended_as : ℕ → ℕ → ℕ → Ended
ended_as session command status = record { session = session; command = command; status = status }
