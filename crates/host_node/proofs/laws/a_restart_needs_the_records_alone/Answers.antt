use Rattle.host_node.proofs.Recorded.{unrecorded}
use Rattle.host_node.proofs.laws.a_restart_needs_the_records_alone.Goals as goal

pub returns-clause-others : goal.returns-clause-others
returns-clause-others c = unrecorded
