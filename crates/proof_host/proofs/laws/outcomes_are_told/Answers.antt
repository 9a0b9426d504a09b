use Rattle.proof_host.proofs.Restarts.{told_each, told_all}
use Rattle.proof_host.proofs.laws.outcomes_are_told.Goals as goal

pub returns-clause-each : goal.returns-clause-each
returns-clause-each c = told_each c.facts_are_kept.ensures.each c.a_restart_needs_the_records_alone.ensures.others

pub returns-clause-all : goal.returns-clause-all
returns-clause-all c = told_all c.facts_are_kept.ensures.each c.a_restart_needs_the_records_alone.ensures.others
