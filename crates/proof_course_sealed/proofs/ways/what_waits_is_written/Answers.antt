-- Each clause is a lemma on ways.
use Rattle.proof_course_sealed.proofs.ThinnedWays.{text_written, task_written}
use Rattle.proof_course_sealed.proofs.ways.what_waits_is_written.Goals as goal

pub returns-clause-text : goal.returns-clause-text
returns-clause-text c = text_written

pub returns-clause-task : goal.returns-clause-task
returns-clause-task c = task_written
