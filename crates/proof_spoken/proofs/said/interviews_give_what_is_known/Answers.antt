use Rattle.proof_spoken.proofs.KnownClasses.{first_known, lines_know, machine_knows, same_records}
use Rattle.proof_spoken.proofs.said.interviews_give_what_is_known.Goals as goal

pub returns-clause-first : goal.returns-clause-first
returns-clause-first c = first_known

pub returns-clause-each : goal.returns-clause-each
returns-clause-each c = machine_knows c.a_restart_needs_the_records_alone.ensures.others

pub returns-clause-lines : goal.returns-clause-lines
returns-clause-lines c = λ listing past m lines are tells knows. (lines_know c.a_restart_needs_the_records_alone.ensures.others listing past m lines are tells knows).0

pub returns-clause-end : goal.returns-clause-end
returns-clause-end c = λ listing past m lines are tells knows. (lines_know c.a_restart_needs_the_records_alone.ensures.others listing past m lines are tells knows).1

pub returns-clause-again : goal.returns-clause-again
returns-clause-again c = same_records c.texts_give_one_thing.ensures.one
