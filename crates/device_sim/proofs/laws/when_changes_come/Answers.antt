-- Each clause is a lemma on one event.
use Rattle.device_sim.proofs.LawLemmas.{heard_as}
use Rattle.device_sim.proofs.OrderLemmas.{ticked_as, woken_as, by_hand_as}
use Rattle.device_sim.proofs.laws.when_changes_come.Goals as goal

pub returns-clause-heard : goal.returns-clause-heard
returns-clause-heard c = heard_as

pub returns-clause-ticked : goal.returns-clause-ticked
returns-clause-ticked c = ticked_as

pub returns-clause-woken : goal.returns-clause-woken
returns-clause-woken c = woken_as

pub returns-clause-by_hand : goal.returns-clause-by_hand
returns-clause-by_hand c = by_hand_as
