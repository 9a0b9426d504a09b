use Rattle.proof_host.proofs.Restarts.{restart_kept, runs_kept}
use Rattle.proof_host.proofs.laws.restarts_keep_facts.Goals as goal

pub returns-clause-one : goal.returns-clause-one
returns-clause-one c = restart_kept

pub returns-clause-runs : goal.returns-clause-runs
returns-clause-runs c = runs_kept c.facts_are_kept.ensures.each c.a_restart_needs_the_records_alone.ensures.others
