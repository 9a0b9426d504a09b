use Rattle.run_tools.proofs.EventsRun.{not_read}
use Rattle.run_tools.proofs.event_machine.EventMachineMachineUnitUnit.run_line.Goals as goal

pub returns-in-Err-clause-err : goal.returns-in-Err-clause-err
returns-in-Err-clause-err c = not_read c.in-Err.fault _ c.args.text.now _ c.in-Err.ensures.exact c.requires.empty
