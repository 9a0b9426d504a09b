-- What holds of both ends of one node at every moment, and of each message between them that may still arrive (this
-- project's own rule). A world with events of its own keeps these facts by the lemmas of `proofs/Ends.antt`.
use Rattle.std.specs.Prelude.{◌≡◌, ◌≢◌, ℕ, ◌+◌, ◌<◌, ◌≤◌, Bool, List, Some, nat_le, length}
use Rattle.supervision.specs.Host.{HostBook, begun_of, command_at}
use Rattle.supervision.specs.Device.{Taken}
use Rattle.supervision.specs.declared.session.TheConstants.{WORKING}

-- a Supervision Get: its session, the command in it, and how many sessions had begun when it was first sent
pub record Get : Type 0 where
  pub session : ℕ
  pub command : ℕ
  pub begun : ℕ

-- a Supervision Report: the session that it is of, its status, and how many sessions had begun when it was first sent
pub record Report : Type 0 where
  pub session : ℕ
  pub status : ℕ
  pub begun : ℕ

-- the air brings a message while at most 61 sessions have begun since it was first sent
abbrev pub is_fresh : ℕ → ℕ → Bool
is_fresh begun_now begun_then = nat_le begun_now (begun_then + 61)

-- a report waits on the serial line too, while at most one more session begins
abbrev pub is_fresh_on_line : ℕ → ℕ → Bool
is_fresh_on_line begun_now begun_then = nat_le begun_now (begun_then + 62)

-- the air brings a segment of a long message while at most 13 sessions have begun since it was first sent
abbrev pub is_fresh_segment : ℕ → ℕ → Bool
is_fresh_segment begun_now begun_then = nat_le begun_now (begun_then + 13)

-- the last session ended with this status: the device took it, and kept that status
pub record IsSettled (host : HostBook) (device : Taken) (status : ℕ) : Type 0 where
  pub begun : 0 < begun_of host
  pub taken : device.taken ≡ begun_of host
  pub status_kept : device.status ≡ status
  pub final : status ≢ WORKING

-- the device has taken every session begun, or all but the last, and knows how the last one ended where the host does
pub record EndsAgree (host : HostBook) (device : Taken) : Type 0 where
  pub not_ahead : device.taken ≤ begun_of host
  pub one_after : begun_of host ≤ device.taken + 1
  pub settled : (status : ℕ) → host.outcome ≡ Some status → IsSettled host device status

-- a Get is of a session begun, carries that session's command, and was first sent before the second one after it
pub record GetFits (commands : List ℕ) (get : Get) : Type 0 where
  pub carries : command_at commands get.session ≡ Some get.command
  pub after_begin : get.session ≤ get.begun
  pub before_second : get.begun ≤ get.session + 1
  pub already : get.begun ≤ length commands

-- a report is of a session taken, was first sent before the second session after it, and tells how the last session
-- taken ended, if it is of that one and final
pub record ReportFits (begun : ℕ) (device : Taken) (report : Report) : Type 0 where
  pub from_one : 0 < report.session
  pub of_taken : report.session ≤ device.taken
  pub after_begin : report.session ≤ report.begun
  pub before_second : report.begun ≤ report.session + 1
  pub already : report.begun ≤ begun
  pub tells : report.session ≡ device.taken → report.status ≢ WORKING → device.status ≡ report.status
