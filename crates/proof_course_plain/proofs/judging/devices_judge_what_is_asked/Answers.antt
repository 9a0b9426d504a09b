-- Each clause is a lemma, over the laws of the air, of devices and of messages.
use Rattle.outside_model.specs.Events.{mesh_of}
use Rattle.proof_course_plain.proofs.Arrivals.{Laws as ArrivalLaws}
use Rattle.proof_course_plain.proofs.JudgedArrivals.{judges_each}
use Rattle.proof_course_plain.proofs.JudgedFrames.{event_judged}
use Rattle.proof_course_plain.proofs.JudgedMessages.{Judging, payload_judges}
use Rattle.proof_course_plain.proofs.judging.devices_judge_what_is_asked.Goals as goal

arrivals_of : (c : goal.After-segments_tell) → ArrivalLaws
arrivals_of c = record {
  flying = c.frames_follow_the_course.ensures.goes;
  same = c.devices_stay_the_same.ensures.event;
  hears = c.devices_follow_the_course.ensures.hears;
  makes = c.devices_follow_the_course.ensures.makes;
  landing_names = c.ids_name_one_session.ensures.landing;
  repeated_names = c.ids_name_one_session.ensures.repeated;
  facts = c.courses_keep_facts.ensures.each;
  kept = c.ids_name_one_session.ensures.kept;
  next = c.frames_fly_in_order.ensures.next;
  none = c.frames_fly_in_order.ensures.none;
  lands = c.frames_follow_the_course.ensures.lands;
  repeated = c.frames_follow_the_course.ensures.repeated;
}

hearing_of : (c : goal.After-segments_tell) → Judging
hearing_of c = payload_judges (record {
  follows = c.messages_do_what_is_asked.ensures.heard;
  asked = c.messages_do_what_is_asked.ensures.asked;
  left = c.others_are_no_messages.ensures.left;
  segments = record {
    part = c.segments_tell.ensures.part;
    next = c.segments_tell.ensures.next;
    slices = c.segments_tell.ensures.slices;
    other = c.segments_tell.ensures.other;
    other_says = c.segments_tell.ensures.other_says;
    elsewhere = c.segments_tell.ensures.elsewhere;
    no_get = c.segments_tell.ensures.no_get;
    acknowledged = c.segments_tell.ensures.acknowledged;
  };
  opens = c.messages_open.ensures.opened;
  target = c.messages_open.ensures.target;
})

pub returns-clause-hears : goal.returns-clause-hears
returns-clause-hears c = hearing_of c

pub returns-clause-event : goal.returns-clause-event
returns-clause-event c = λ node orders course up down m event within follows none.
    let is = follows.outside.mesh in
    event_judged node orders course.host.commands m event is.device.place is.device.device is.device.first is.device.stands
    (judges_each (arrivals_of c) (hearing_of c) node orders course (mesh_of m.outside) is follows.course within) none
