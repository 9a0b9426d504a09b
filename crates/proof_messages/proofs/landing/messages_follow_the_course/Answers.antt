-- Each clause is a lemma on a step.
use Rattle.proof_messages.proofs.Courses.{message_lands, part_lands, whole_lands}
use Rattle.proof_messages.proofs.landing.messages_follow_the_course.Goals as goal

pub returns-clause-message : goal.returns-clause-message
returns-clause-message c = message_lands

pub returns-clause-part : goal.returns-clause-part
returns-clause-part c = part_lands

pub returns-clause-whole : goal.returns-clause-whole
returns-clause-whole c = whole_lands
