use Rattle.proof_spoken.proofs.Devices.{made_unchanged}
use Rattle.proof_course_sealed.proofs.AsMade.{begins_course}
use Rattle.proof_headline.proofs.plain_nodes.devices_as_made_begin_courses.Goals as goal

pub returns-clause-begins : goal.returns-clause-begins
returns-clause-begins c = λ key devices node device all found plain.
    let begun = begins_course c.idle_devices_stay_idle.ensures.fresh c.devices_follow_the_course.ensures.fresh key devices node device all found plain.supervised plain.unsealed in
    (begun.0, begun.1.0)

pub returns-clause-unchanged : goal.returns-clause-unchanged
returns-clause-unchanged c = made_unchanged
