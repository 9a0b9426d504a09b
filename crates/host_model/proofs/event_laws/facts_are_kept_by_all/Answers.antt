-- What the nodes keep, the host keeps.
use Rattle.host_model.proofs.FactsKept.{all_kept}
use Rattle.host_model.proofs.event_laws.facts_are_kept_by_all.Goals as goal

pub returns : goal.returns
returns c = λ h events f may. all_kept c.facts_of_all_are_kept.ensures.each h events may f
