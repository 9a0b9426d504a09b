-- The clause is a lemma, over idle devices and locks as their makers left them.
use Rattle.proof_course_sealed.proofs.LockBeginning.{begin_courses}
use Rattle.proof_course_sealed.proofs.made.locks_as_made_begin_courses.Goals as goal

pub returns : goal.returns
returns c = begin_courses c.idle_devices_stay_idle.ensures.fresh c.locks_follow_the_courses.ensures.fresh
