use Rattle.proof_course.specs.Sessions.{first_course}
use Rattle.proof_course.proofs.SessionFactsKept.{first_facts, all_kept, step_takes, done_by_facts, applied_by_facts}
use Rattle.proof_course.specs.Sessions.{after_all}
use Rattle.proof_course.proofs.sessions.what_is_told_was_done.Goals as goal

pub returns-clause-taken : goal.returns-clause-taken
returns-clause-taken c = λ course step facts may. step_takes course step

pub returns-clause-done : goal.returns-clause-done
returns-clause-done c = λ steps may. done_by_facts (after_all first_course steps) (all_kept first_course steps first_facts may)

pub returns-clause-applied : goal.returns-clause-applied
returns-clause-applied c = λ steps may. applied_by_facts (after_all first_course steps) (all_kept first_course steps first_facts may)
