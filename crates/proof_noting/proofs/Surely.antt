-- A run of which all is so goes on with steps that are.
use Rattle.std.proofs.Common.{List, ◌++◌, refl}
use Rattle.zw_text.specs.declared.entry.Entry.{Entry}
use Rattle.host_heard.specs.declared.told.Told.{Told}
use Rattle.law_transcript.specs.Units.{Carried}
use Rattle.host_model.specs.Events.{HostEvent}
use Rattle.proof_hearing.specs.proof_queue.proof_attempts.proof_requests.proof_alone.State.{HostMachine, done}
use Rattle.proof_hearing.specs.proof_queue.proof_attempts.proof_requests.proof_alone.Steps.{Step, Does, entries, happens}
use Rattle.proof_hearing.specs.proof_queue.proof_attempts.proof_requests.proof_alone.Phases.{Phase, Risen, May}
use Rattle.proof_hearing.specs.proof_queue.proof_attempts.proof_requests.proof_alone.Careful.{MayHear}
use Rattle.proof_hearing.specs.proof_queue.proof_attempts.proof_requests.proof_alone.Runs.Run.{Stepped}
use Rattle.proof_noting.specs.Sure.{SureRun, SureStep}

module _ (taken : List Entry → Carried → List Told) (start : HostMachine) where
  pub sure_step : {here next : Phase} {past : List Entry} {m : HostMachine} → (sure : SureRun taken start here past m) → (step : Step) → May here m step next → SureStep taken sure.run step
      → SureRun taken start next (past ++ entries m step) (happens m step)
  sure_step sure step may so = record {
    run = Stepped step may refl refl sure.run;
    careful = (sure.careful, so.well);
    heeds_so = (sure.heeds_so, so.heeds_so);
    heeds_as = (sure.heeds_as, so.heeds_as);
  }

  does_hears : (here : Phase) (event : HostEvent) (told : List Entry) → MayHear here (Does event told)
  does_hears Risen event told = tt
  does_hears here event told = tt

  -- an event of the host
  pub sure_does : {here next : Phase} {past : List Entry} {m : HostMachine} → SureRun taken start here past m → (event : HostEvent) (told : List Entry) → May here m (Does event told) next
      → SureRun taken start next (past ++ told) (done m event)
  sure_does {here = here} sure event told may = sure_step sure (Does event told) may (record { well = (tt, does_hears here event told); heeds_so = tt; heeds_as = tt })
