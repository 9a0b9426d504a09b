-- A node that was told wants it no more.
use Rattle.host_model.proofs.Pumps.{one_sleeps, few_sleepers}
use Rattle.host_model.proofs.pumping.nodes_are_told_in_few_turns.Goals as goal

pub returns-clause-may : goal.returns-clause-may
returns-clause-may c = λ h n least. (one_sleeps h n least).may

pub returns-clause-fewer : goal.returns-clause-fewer
returns-clause-fewer c = λ h n least. (one_sleeps h n least).less

pub returns-clause-most : goal.returns-clause-most
returns-clause-most c = few_sleepers
