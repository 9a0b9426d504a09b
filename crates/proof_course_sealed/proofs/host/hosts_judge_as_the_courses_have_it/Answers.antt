-- Each clause is a lemma, over the laws of the host, of what the bytes mean and of the courses.
use Rattle.proof_course_sealed.proofs.HostItems.{judge_items, Laws}
use Rattle.proof_course_sealed.proofs.TrueSuccesses.{items_true}
use Rattle.proof_course_sealed.proofs.host.hosts_judge_as_the_courses_have_it.Goals as goal

laws_of : (c : goal.After-sealers_take_as_the_courses_do) → Laws
laws_of c = record {
  does = c.hosts_do_as_the_courses_have_it.ensures;
  facts = record {
    sessions = c.courses_keep_facts.ensures.all;
    node = c.nonces_of_nodes_keep_facts.ensures.all;
    host = c.nonces_of_the_host_keep_facts.ensures.all;
  };
  past = record {
    each = c.events_keep_facts.ensures.each;
    legal = c.laws_follow.ensures.laws;
    tables = c.laws_follow.ensures.tables;
    stays = c.what_is_over_stays.ensures;
  };
  nonces = record {
    stays = c.frames_follow_the_courses.ensures.stays;
    thins = c.ways_thin_together.ensures.down;
    taken = c.sealers_take_as_the_courses_do.ensures.taken;
    names = c.first_bytes_name_one_of_the_node.ensures.judged;
    seals = c.hosts_seal_what_waits.ensures.seals;
    takes = c.hosts_leave_nonces.ensures.seals;
    spends = c.hosts_leave_nonces.ensures.spends;
    gives = c.accounts_give_as_the_courses_do.ensures.host;
  };
  opens = c.hosts_open_what_was_sealed.ensures.opens;
  bytes = c.reports_tell.ensures.status;
  names = c.first_bytes_name_one_of_the_host.ensures.judged;
}

pub returns-clause-judges : goal.returns-clause-judges
returns-clause-judges c past node courses rest up down items h w events within =
    judge_items (laws_of c) node within rest down past courses up h w items events

pub returns-clause-truth : goal.returns-clause-truth
returns-clause-truth c past node courses rest up down items h w events within =
    items_true (laws_of c) c.ids_name_one_session.ensures.judged node within rest down past courses up h w items events
