-- What the host keeps and what its nodes record give what the transcript keeps.
use Rattle.proof_host.proofs.FactsKept.{each_kept, all_kept, done_kept}
use Rattle.proof_host.proofs.laws.events_keep_facts.Goals as goal

pub returns-clause-each : goal.returns-clause-each
returns-clause-each c = each_kept c.facts_are_kept.ensures.each c.a_restart_needs_the_records_alone.ensures.others

pub returns-clause-all : goal.returns-clause-all
returns-clause-all c = all_kept c.facts_are_kept.ensures.each c.a_restart_needs_the_records_alone.ensures.others

pub returns-clause-done : goal.returns-clause-done
returns-clause-done c = done_kept c.facts_are_kept.ensures.each c.a_restart_needs_the_records_alone.ensures.others
