-- Runs of a host alone of which all is so that the course of its notes goes by (this project's own rule): they are careful, by messages that are heeded as the host took them.
use Rattle.std.specs.Prelude.{List}
use Rattle.zw_text.specs.declared.entry.Entry.{Entry}
use Rattle.host_heard.specs.declared.told.Told.{Told}
use Rattle.law_transcript.specs.Units.{Carried}
use Rattle.proof_hearing.specs.proof_queue.Heeding.{AllSteps, HeedsAs, HeedsSo}
use Rattle.proof_hearing.specs.proof_queue.proof_attempts.proof_requests.law_host.Heard.{heeds_alone}
use Rattle.proof_hearing.specs.proof_queue.proof_attempts.proof_requests.proof_alone.State.{HostMachine}
use Rattle.proof_hearing.specs.proof_queue.proof_attempts.proof_requests.proof_alone.Steps.{Step}
use Rattle.proof_hearing.specs.proof_queue.proof_attempts.proof_requests.proof_alone.Phases.{Phase}
use Rattle.proof_hearing.specs.proof_queue.proof_attempts.proof_requests.proof_alone.Runs.{Run}
use Rattle.proof_hearing.specs.proof_queue.proof_attempts.proof_requests.proof_alone.Careful.{Careful, StepsWell, stage_of}

-- ---- runs

pub record SureRun (taken : List Entry → Carried → List Told) (start : HostMachine) (here : Phase) (told : List Entry) (m : HostMachine) : Type 0 where
  pub run : Run start here told m
  pub careful : Careful run
  pub heeds_so : AllSteps (HeedsSo (heeds_alone taken)) run
  pub heeds_as : AllSteps (HeedsAs (heeds_alone taken)) run

-- and this step goes on with one
pub record SureStep (taken : List Entry → Carried → List Told) {start : HostMachine} {here : Phase} {told : List Entry} {m : HostMachine} (run : Run start here told m) (step : Step) : Type 0 where
  pub well : StepsWell (stage_of run) here step
  pub heeds_so : HeedsSo (heeds_alone taken) told m step
  pub heeds_as : HeedsAs (heeds_alone taken) told m step
