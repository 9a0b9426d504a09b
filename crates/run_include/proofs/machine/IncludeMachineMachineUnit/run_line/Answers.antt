use Rattle.run_include.proofs.IncludeRun.{not_read}
use Rattle.run_include.proofs.machine.IncludeMachineMachineUnit.run_line.Goals as goal

pub returns-in-Err-clause-err : goal.returns-in-Err-clause-err
returns-in-Err-clause-err g c = not_read c.in-Err.fault _ c.args.text.now _ c.in-Err.ensures.exact c.requires.empty
