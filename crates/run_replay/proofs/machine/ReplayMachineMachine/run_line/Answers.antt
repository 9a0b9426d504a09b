use Rattle.run_replay.proofs.Steps.{replayed}
use Rattle.run_replay.proofs.ReplayRun.{not_read}
use Rattle.run_replay.proofs.machine.ReplayMachineMachine.run_line.Goals as goal

pub run_one-requires-clause-replayed : goal.run_one-requires-clause-replayed
run_one-requires-clause-replayed g c = replayed c.args.text.now c.in-Ok-Some.line (rw c.in-Ok-Some.field-0-is at c.in-Ok-Some.ensures.found)

pub returns-in-Err-clause-err : goal.returns-in-Err-clause-err
returns-in-Err-clause-err g c = not_read g.P.Keeper.shelf c.in-Err.fault _ c.args.text.now _ c.in-Err.ensures.exact c.requires.empty
