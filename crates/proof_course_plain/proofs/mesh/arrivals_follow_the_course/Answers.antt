-- Each clause is a lemma, over the laws of the air and of the device.
use Rattle.proof_course_plain.proofs.Arrivals.{arrives_go, repeats_go, Laws}
use Rattle.proof_course_plain.proofs.Replies.{own_goes, ticks_go}
use Rattle.proof_course_plain.proofs.mesh.arrivals_follow_the_course.Goals as goal

laws_of : (c : goal.After-ids_name_one_session) → Laws
laws_of c = record {
  flying = c.frames_follow_the_course.ensures.goes;
  same = c.devices_stay_the_same.ensures.event;
  hears = c.devices_follow_the_course.ensures.hears;
  makes = c.devices_follow_the_course.ensures.makes;
  landing_names = c.ids_name_one_session.ensures.landing;
  repeated_names = c.ids_name_one_session.ensures.repeated;
  facts = c.courses_keep_facts.ensures.each;
  kept = c.ids_name_one_session.ensures.kept;
  next = c.frames_fly_in_order.ensures.next;
  none = c.frames_fly_in_order.ensures.none;
  lands = c.frames_follow_the_course.ensures.lands;
  repeated = c.frames_follow_the_course.ensures.repeated;
}

pub returns-clause-arrives : goal.returns-clause-arrives
returns-clause-arrives c = arrives_go (laws_of c)

pub returns-clause-repeats : goal.returns-clause-repeats
returns-clause-repeats c = repeats_go (laws_of c)

pub returns-clause-own : goal.returns-clause-own
returns-clause-own c = own_goes c.frames_follow_the_course.ensures.goes c.devices_stay_the_same.ensures.event

pub returns-clause-ticks : goal.returns-clause-ticks
returns-clause-ticks c node orders course mesh place device drawn way is stood = ticks_go (record {
  flying = c.frames_follow_the_course.ensures.goes;
  same = c.devices_stay_the_same.ensures.event;
  ticks = c.devices_follow_the_course.ensures.ticks;
  keeps = c.devices_follow_the_course.ensures.keeps;
  idle = c.idle_devices_stay_idle.ensures.ticks;
}) node orders course mesh place device drawn way is stood
