-- The law is a lemma, over the laws of the air, of the host, of what the bytes mean and of reports.
use Rattle.proof_course_plain.proofs.HostItems.{nonces_other}
use Rattle.proof_course_plain.proofs.TrueSuccesses.{items_true}
use Rattle.proof_course_plain.proofs.truth.hosts_are_told_the_truth.Goals as goal

pub returns : goal.returns
returns c = λ node orders course rest up down items h w events.
    items_true (record {
      air = record { begins = c.frames_fly_in_order.ensures.begins };
      nonces = nonces_other c.others_are_no_messages.ensures.nonce_report;
      no_more = c.others_are_no_messages.ensures.no_more;
      past = record {
        each = c.events_keep_facts.ensures.each;
        legal = c.laws_follow.ensures.laws;
        tables = c.laws_follow.ensures.tables;
        stays = c.what_is_over_stays.ensures;
      };
      course = c.courses_keep_facts.ensures.all;
      bytes = c.reports_tell.ensures.status;
    }) c.ids_name_one_session.ensures.judged node rest down orders course up h w items events
