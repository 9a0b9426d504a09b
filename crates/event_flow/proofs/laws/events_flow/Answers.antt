-- What holds after every line gives it.
use Rattle.event_flow.proofs.FlowLaws.{flows}
use Rattle.event_flow.proofs.laws.events_flow.Goals as goal

pub returns : goal.returns
returns c = flows
