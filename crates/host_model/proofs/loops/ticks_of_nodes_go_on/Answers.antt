-- One more node is ticked.
use Rattle.host_model.proofs.Rounds.{none_ticked, one_more_ticked, all_ticked}
use Rattle.host_model.proofs.loops.ticks_of_nodes_go_on.Goals as goal

pub returns-clause-none : goal.returns-clause-none
returns-clause-none c = none_ticked

pub returns-clause-one_more : goal.returns-clause-one_more
returns-clause-one_more c = one_more_ticked

pub returns-clause-all : goal.returns-clause-all
returns-clause-all c = all_ticked
