-- Each clause is a lemma, over the laws of devices, of messages and of the nonces of each end.
use Rattle.proof_course_sealed.proofs.LockStates.{other_event, Laws}
use Rattle.proof_course_sealed.proofs.HeardPayloads.{payload_heard}
use Rattle.proof_course_sealed.proofs.JudgedPayloads.{payload_judges}
use Rattle.proof_course_sealed.proofs.MadeSettings.{payload_makes}
use Rattle.proof_course_sealed.proofs.device.locks_follow_the_courses.Goals as goal

laws_of : (c : goal.After-sealers_take_as_the_courses_do) → Laws
laws_of c = record {
  ended = c.devices_end_sessions.ensures.kept;
  same = c.devices_stay_the_same.ensures.event;
  can = c.reports_tell.ensures.kept;
  lands = c.messages_follow_the_course.ensures.message;
  asked = c.messages_do_what_is_asked.ensures.asked;
  left = c.others_are_no_messages.ensures.left;
  no_message = c.others_are_no_messages.ensures.nonce_report;
  gives = c.accounts_give_as_the_courses_do.ensures.node;
  offered = c.accounts_give_as_the_courses_do.ensures.offered;
  spends = c.accounts_spend_as_the_courses_do.ensures.node;
  spends_none = c.accounts_spend_as_the_courses_do.ensures.node_none;
  unnumbered = c.locks_hear_by_numbers.ensures.unnumbered;
  offer = c.locks_hear_by_numbers.ensures.offer;
  sealed = c.locks_hear_by_numbers.ensures.sealed;
  unnamed = c.locks_hear_by_numbers.ensures.unnamed;
  unheard = c.locks_hear_by_numbers.ensures.other;
  follows = c.locks_answer_sealed_messages.ensures.follows;
  waits = c.locks_answer_sealed_messages.ensures.waits;
  still_waits = c.locks_answer_sealed_messages.ensures.kept;
  says = c.locks_answer_sealed_messages.ensures.says;
}

pub returns-clause-hears : goal.returns-clause-hears
returns-clause-hears c = payload_heard (laws_of c)

pub returns-clause-makes : goal.returns-clause-makes
returns-clause-makes c = payload_makes (laws_of c)

pub returns-clause-judges : goal.returns-clause-judges
returns-clause-judges c = payload_judges (laws_of c)

pub returns-clause-other : goal.returns-clause-other
returns-clause-other c = other_event (laws_of c)
