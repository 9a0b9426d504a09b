use Rattle.proof_traffic.proofs.Submissions.{pump_goes}
use Rattle.proof_traffic.proofs.Items.{items_go}
use Rattle.proof_traffic.proofs.HostTicks.{tick_goes}
use Rattle.proof_traffic.proofs.host_steps.hosts_make_requests.Goals as goal

pub returns-clause-pump : goal.returns-clause-pump
returns-clause-pump c = pump_goes c.callback_ids.ensures.function

pub returns-clause-items : goal.returns-clause-items
returns-clause-items c = items_go

pub returns-clause-tick : goal.returns-clause-tick
returns-clause-tick c = tick_goes
