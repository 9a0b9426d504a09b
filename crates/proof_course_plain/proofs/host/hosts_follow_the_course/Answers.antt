-- Each clause is a lemma, over the laws of the air, of the host and of what the bytes mean.
use Rattle.proof_course_plain.proofs.HostItems.{nonces_other, own_goes, judge_items, Laws}
use Rattle.proof_course_plain.proofs.host.hosts_follow_the_course.Goals as goal

laws_of : (c : goal.After-reports_tell) → Laws
laws_of c = record {
  air = record { begins = c.frames_fly_in_order.ensures.begins };
  nonces = nonces_other c.others_are_no_messages.ensures.nonce_report;
  no_more = c.others_are_no_messages.ensures.no_more;
  past = record {
    each = c.events_keep_facts.ensures.each;
    legal = c.laws_follow.ensures.laws;
    tables = c.laws_follow.ensures.tables;
    stays = c.what_is_over_stays.ensures;
  };
  course = c.courses_keep_facts.ensures.all;
  bytes = c.reports_tell.ensures.status;
}

pub returns-clause-does : goal.returns-clause-does
returns-clause-does c node orders course rest up down h w event =
    own_goes (laws_of c) node rest down orders course up h w event

pub returns-clause-judges : goal.returns-clause-judges
returns-clause-judges c node orders course rest up down items h w events =
    judge_items (laws_of c) node rest down orders course up h w items events
