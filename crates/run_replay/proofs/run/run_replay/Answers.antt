use Rattle.std.proofs.Common.{◌∙◌}
use Rattle.run_replay.proofs.ReplayRun.{replay_ran, no_host}
use Rattle.run_replay.proofs.run.run_replay.Goals as goal

pub returns-in_default-clause-ran : goal.returns-in_default-clause-ran
returns-in_default-clause-ran g c = no_host _ _ _ _

pub returns-clause-ran : goal.returns-clause-ran
returns-clause-ran g c = replay_ran _ c.args.key _ _ _ _ _ _ _ c.run_scenario.ensures.ran (c.new-machine.ensures ∙ c.in-Ok.ensures)
