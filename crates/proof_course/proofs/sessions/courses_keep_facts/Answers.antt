use Rattle.proof_course.proofs.SessionFactsKept.{first_facts, each_kept, all_kept}
use Rattle.proof_course.proofs.sessions.courses_keep_facts.Goals as goal

pub returns-clause-first : goal.returns-clause-first
returns-clause-first c = first_facts

pub returns-clause-each : goal.returns-clause-each
returns-clause-each c = each_kept

pub returns-clause-all : goal.returns-clause-all
returns-clause-all c = all_kept
