-- Devices that change in sessions alone (Supervision Command Class; that a device which lists it makes nothing of a plain Set is this project's
-- own rule).
use Rattle.std.specs.Prelude.{◌≡◌, true}
use Rattle.std.specs.List.{AllByRecursion}
use Rattle.proof_messages.specs.device_sim.State.{State}
use Rattle.proof_host.specs.law_transcript.Nodes.{is_supervised}
use Rattle.proof_host.specs.law_transcript.Once.{IsSupervisedChange}

-- no change of a device that knows Supervision was made by a Set without a session
abbrev pub ChangesInSessions : State → Type 0
ChangesInSessions device = is_supervised device ≡ true → AllByRecursion IsSupervisedChange device.journal
