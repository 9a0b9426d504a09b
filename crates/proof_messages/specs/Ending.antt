-- How a device ended its sessions (this project's own): a final status for each session that it took, but for the one that it is at work at; and
-- a change by each session that ended with success, and by no other.
use Rattle.std.specs.Prelude.{◌≡◌, ◌≢◌, ℕ, ◌+◌, ◌<◌, ◌==◌, if◌then◌else◌, List, [], ◌∷◌, length}
use Rattle.supervision.specs.declared.session.TheConstants.{WORKING}
use Rattle.proof_course.specs.Parts.{numbered, successes}
use Rattle.device_sim.specs.State.{State}
use Rattle.device_sim.specs.Laws.{numbers}

-- one more for a device at work
abbrev pub one_at_work : ℕ → ℕ
one_at_work left = if left == 0 then 0 else 1

-- A device ended its sessions with these statuses, from session 1 on. What it says of the last session taken is that session's status, or that
-- it is at work; and it has changed by the sessions that ended with success.
pub record HasEnded (device : State) (finals : List ℕ) : Type 0 where
  pub count : length finals + one_at_work device.work_left ≡ device.sessions.taken
  pub at_work : 0 < device.work_left → device.sessions.status ≡ WORKING
  pub at_rest : device.work_left ≡ 0 → device.sessions.status ≢ WORKING
  pub told : device.work_left ≡ 0 → 0 < device.sessions.taken → numbered finals device.sessions.taken ≡ device.sessions.status ∷ []
  pub changed : numbers device.journal ≡ successes 1 finals
