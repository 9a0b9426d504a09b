use Rattle.std.proofs.Common.{◌∙◌}
use Rattle.run_tools.proofs.EventsRun.{events_ran, no_world}
use Rattle.run_tools.proofs.events.run_events.Goals as goal

pub returns-in_default-clause-ran : goal.returns-in_default-clause-ran
returns-in_default-clause-ran g c = no_world _ _ c.events_flow.ensures

pub returns-clause-ran : goal.returns-clause-ran
returns-clause-ran g c = events_ran _ _ _ _ _ _ _ c.run_scenario.ensures.ran (c.new-machine.ensures ∙ c.in-Ok.ensures) c.events_flow.ensures
