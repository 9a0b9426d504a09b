-- What was asked was run.
use Rattle.std.proofs.Common.{Ok}
use Rattle.run_all.proofs.Asked.{named_runs}
use Rattle.run_all.proofs.console.run_command.Goals as goal

pub returns-in-Ok : goal.returns-in-Ok
returns-in-Ok g c = record {
  answer = Ok c.in-Ok.asked;
  asked = c.in-Ok.ensures.answers;
  runs = c.run_asked.ensures;
  named = named_runs _ _ _ _ _ _ c.in-Ok.ensures.valid c.run_asked.ensures;
}
