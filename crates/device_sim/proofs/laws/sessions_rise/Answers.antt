-- Each clause is a lemma on the definition.
use Rattle.device_sim.proofs.OrderLemmas.{fresh_in_order, kept_in_order}
use Rattle.device_sim.proofs.laws.sessions_rise.Goals as goal

pub returns-clause-fresh : goal.returns-clause-fresh
returns-clause-fresh c = fresh_in_order

pub returns-clause-kept : goal.returns-clause-kept
returns-clause-kept c = kept_in_order
