-- Each clause is a lemma, over the laws of the air, of the lock and of the courses.
use Rattle.proof_course_sealed.proofs.Arrivals.{Laws, arrives_go, repeats_go, own_goes, ticks_go}
use Rattle.proof_course_sealed.proofs.JudgedArrivals.{judges_each}
use Rattle.proof_course_sealed.proofs.mesh.arrivals_follow_the_courses.Goals as goal

laws_of : (c : goal.After-first_bytes_name_one_of_the_host) → Laws
laws_of c = record {
  airing = record { goes = c.frames_follow_the_courses.ensures.goes; stays = c.frames_follow_the_courses.ensures.stays };
  same = c.devices_stay_the_same.ensures.event;
  hears = c.locks_follow_the_courses.ensures.hears;
  makes = c.locks_follow_the_courses.ensures.makes;
  judges = c.locks_follow_the_courses.ensures.judges;
  other = c.locks_follow_the_courses.ensures.other;
  keeps = c.devices_follow_the_course.ensures.keeps;
  idle = c.idle_devices_stay_idle.ensures.ticks;
  landing_names = c.ids_name_one_session.ensures.landing;
  repeated_names = c.ids_name_one_session.ensures.repeated;
  node_landing = c.first_bytes_name_one_of_the_node.ensures.landing;
  node_repeated = c.first_bytes_name_one_of_the_node.ensures.repeated;
  host_landing = c.first_bytes_name_one_of_the_host.ensures.landing;
  host_repeated = c.first_bytes_name_one_of_the_host.ensures.repeated;
  node_facts = c.nonces_of_nodes_keep_facts.ensures.each;
  next = c.frames_fly_in_order.ensures.next;
  none = c.frames_fly_in_order.ensures.none;
  lands = c.frames_follow_the_courses.ensures.lands;
  repeated = c.frames_follow_the_courses.ensures.repeated;
}

pub returns-clause-arrives : goal.returns-clause-arrives
returns-clause-arrives c past node = arrives_go (laws_of c) past node

pub returns-clause-repeats : goal.returns-clause-repeats
returns-clause-repeats c past node = repeats_go (laws_of c) past node

pub returns-clause-own : goal.returns-clause-own
returns-clause-own c past node = own_goes (laws_of c) past node

pub returns-clause-ticks : goal.returns-clause-ticks
returns-clause-ticks c past node = ticks_go (laws_of c) past node

pub returns-clause-judges : goal.returns-clause-judges
returns-clause-judges c past node courses mesh within facts is = judges_each (laws_of c) past node courses mesh within facts is
