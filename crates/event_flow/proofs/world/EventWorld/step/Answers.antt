-- What holds after every list of lines holds after one more.
use Rattle.event_flow.proofs.Arrivals.{step-flow}
use Rattle.event_flow.proofs.world.EventWorld.step.Goals as goal

pub returns-clause-flow : goal.returns-clause-flow
returns-clause-flow c = step-flow c.run_line.result c.args.self.now c.run_line.new.self c.args.line.now c.run_line.ensures.ok
