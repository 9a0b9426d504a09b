use Rattle.host_model.proofs.Fold.{opened_alone, opened_facts}
use Rattle.host_model.proofs.Restarted.{restarted_facts, restarted_holds, restarted_alone}
use Rattle.host_model.proofs.opening.a_restart_keeps_what_is_held.Goals as goal

pub returns-clause-holds : goal.returns-clause-holds
returns-clause-holds c = restarted_holds c.a_restart_needs_the_records_alone.ensures.others

pub returns-clause-alone : goal.returns-clause-alone
returns-clause-alone c = restarted_alone c.a_restart_needs_the_records_alone.ensures.others

pub returns-clause-facts : goal.returns-clause-facts
returns-clause-facts c = restarted_facts c.facts_are_kept-2.ensures.each

pub returns-clause-opened : goal.returns-clause-opened
returns-clause-opened c = opened_alone c.facts_are_kept.ensures.each c.facts_of_all_are_kept.ensures.each c.a_restart_needs_the_records_alone.ensures.others c.facts_are_kept.ensures.first

pub returns-clause-opened_facts : goal.returns-clause-opened_facts
returns-clause-opened_facts c = opened_facts c.facts_are_kept.ensures.each c.facts_of_all_are_kept.ensures.each c.a_restart_needs_the_records_alone.ensures.others c.facts_are_kept.ensures.first c.facts_are_kept-2.ensures.each
