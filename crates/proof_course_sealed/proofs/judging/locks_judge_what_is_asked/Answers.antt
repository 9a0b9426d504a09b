-- The clause is a lemma, over what a lock makes of what arrives.
use Rattle.outside_model.specs.Events.{mesh_of}
use Rattle.proof_course_plain.proofs.JudgedFrames.{event_judged}
use Rattle.proof_course_sealed.proofs.judging.locks_judge_what_is_asked.Goals as goal

pub returns : goal.returns
returns c = λ past node courses up down m event within follows none.
    let is = follows.outside.mesh in
    event_judged node past.orders past.commands m event is.device.place is.device.device is.device.first is.device.stands
    (c.arrivals_follow_the_courses.ensures.judges past node courses (mesh_of m.outside) within follows.course is) none
