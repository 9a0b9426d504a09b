-- What the nodes keep, the host keeps.
use Rattle.host_model.proofs.FactsKept.{kept, first_kept}
use Rattle.host_model.proofs.event_laws.facts_are_kept.Goals as goal

pub returns-clause-first : goal.returns-clause-first
returns-clause-first c = first_kept c.facts_of_all_are_kept.ensures.each

pub returns-clause-each : goal.returns-clause-each
returns-clause-each c = λ h event f may. kept c.facts_of_all_are_kept.ensures.each h event may f
