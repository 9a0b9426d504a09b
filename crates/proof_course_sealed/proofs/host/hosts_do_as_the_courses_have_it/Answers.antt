-- The clause is a lemma, over the laws of the air, of ways, of the host and of what the bytes mean.
use Rattle.std.proofs.Common.{◌*◌, ◌%◌, length}
use Rattle.transport_segments.specs.Parts.{slice_at}
use Rattle.host_requests.specs.Frames.{no_more_information}
use Rattle.host_model.specs.Sessions.{nonce_get}
use Rattle.proof_course_sealed.proofs.UnsealedMessages.{others_leave, messages_leave, segments_leave}
use Rattle.proof_course_sealed.proofs.HostSteps.{aside_goes}
use Rattle.proof_course_sealed.proofs.host.hosts_do_as_the_courses_have_it.Goals as goal

pub returns : goal.returns
returns c =
    aside_goes (record {
      air = record {
        fly = record { begins = c.frames_fly_in_order.ensures.begins };
        stays = c.frames_follow_the_courses.ensures.stays;
        own = c.frames_follow_the_courses.ensures.begins;
        other = c.frames_follow_the_courses.ensures.elsewhere;
      };
      writing = record {
        thins = c.ways_thin_together.ensures.up;
        text = c.what_waits_is_written.ensures.text;
        task = c.what_waits_is_written.ensures.task;
        get = (c.others_carry_no_nonce.ensures.nonce_get, others_leave c.others_are_no_messages.ensures.left nonce_get c.others_are_no_messages.ensures.nonce_get);
        no_more = (c.others_carry_no_nonce.ensures.no_more, others_leave c.others_are_no_messages.ensures.left no_more_information c.others_are_no_messages.ensures.no_more);
        message = λ carriage order session fit end. (c.others_carry_no_nonce.ensures.message carriage order session, messages_leave c.messages_do_what_is_asked.ensures.deaf carriage order session fit end);
        segment = λ message session place has. (c.others_carry_no_nonce.ensures.segment (session % 16) (length message) (39 * place) (slice_at message place), segments_leave c.segments_tell.ensures.part c.segments_tell.ensures.elsewhere message session place has);
        aside = c.hosts_leave_nonces.ensures.aside;
        starts = c.hosts_leave_nonces.ensures.starts;
        sends = c.hosts_leave_nonces.ensures.sends;
      };
      past = record {
        each = c.events_keep_facts.ensures.each;
        legal = c.laws_follow.ensures.laws;
        tables = c.laws_follow.ensures.tables;
        stays = c.what_is_over_stays.ensures;
      };
    })
