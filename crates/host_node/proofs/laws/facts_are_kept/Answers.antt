use Rattle.host_node.proofs.Keeps.{kept, all_kept}
use Rattle.host_node.proofs.Quiet.{quiet, again_is_short}
use Rattle.host_node.proofs.laws.facts_are_kept.Goals as goal

pub returns-clause-each : goal.returns-clause-each
returns-clause-each c = kept

pub returns-clause-all : goal.returns-clause-all
returns-clause-all c = all_kept

pub returns-clause-again : goal.returns-clause-again
returns-clause-again c = again_is_short

pub returns-clause-quiet : goal.returns-clause-quiet
returns-clause-quiet c = quiet
