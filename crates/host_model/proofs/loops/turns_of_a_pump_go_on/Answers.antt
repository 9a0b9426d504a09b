-- One more turn.
use Rattle.host_model.proofs.Rounds.{lets_one_more, lets_all, submits_one_more, submits_all}
use Rattle.host_model.proofs.loops.turns_of_a_pump_go_on.Goals as goal

pub returns-clause-lets_one_more : goal.returns-clause-lets_one_more
returns-clause-lets_one_more c = lets_one_more

pub returns-clause-lets_all : goal.returns-clause-lets_all
returns-clause-lets_all c = lets_all

pub returns-clause-submits_one_more : goal.returns-clause-submits_one_more
returns-clause-submits_one_more c = submits_one_more

pub returns-clause-submits_all : goal.returns-clause-submits_all
returns-clause-submits_all c = submits_all
