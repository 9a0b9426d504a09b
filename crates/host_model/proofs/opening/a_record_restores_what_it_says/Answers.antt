use Rattle.host_model.proofs.Fold.{legal_alone}
use Rattle.host_model.proofs.Legal.{may_is_legal}
use Rattle.host_model.proofs.RestoredFacts.{restored_facts}
use Rattle.host_model.proofs.opening.a_record_restores_what_it_says.Goals as goal

pub returns-clause-may : goal.returns-clause-may
returns-clause-may c = may_is_legal

pub returns-clause-holds : goal.returns-clause-holds
returns-clause-holds c = legal_alone c.facts_are_kept.ensures.each c.facts_of_all_are_kept.ensures.each c.a_restart_needs_the_records_alone.ensures.others

pub returns-clause-facts : goal.returns-clause-facts
returns-clause-facts c = restored_facts c.facts_are_kept.ensures.each c.facts_of_all_are_kept.ensures.each
