use Rattle.proof_traffic.proofs.FactsKept.{first_facts, each_kept, all_kept}
use Rattle.proof_traffic.proofs.request_steps.requests_keep_facts.Goals as goal

pub returns-clause-first : goal.returns-clause-first
returns-clause-first c = first_facts

pub returns-clause-each : goal.returns-clause-each
returns-clause-each c = each_kept

pub returns-clause-all : goal.returns-clause-all
returns-clause-all c = all_kept
