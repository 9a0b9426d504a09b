-- Each clause is a lemma, over the laws of devices and of messages.
use Rattle.proof_course_plain.proofs.Devices.{fresh_at, payload_heard, tick_goes, wake_goes, set_goes, Laws}
use Rattle.proof_course_plain.proofs.MadeSettings.{payload_makes, event_makes}
use Rattle.proof_course_plain.proofs.device.devices_follow_the_course.Goals as goal

laws_of : (c : goal.After-segments_tell) → Laws
laws_of c = record {
  fresh_ended = c.devices_end_sessions.ensures.fresh;
  ended = c.devices_end_sessions.ensures.kept;
  follows = c.messages_do_what_is_asked.ensures.heard;
  opens = c.messages_open.ensures.opened;
  lands = c.messages_follow_the_course.ensures.message;
  left = c.others_are_no_messages.ensures.left;
  replies = c.reports_tell.ensures.replies;
  fresh_can = c.reports_tell.ensures.fresh;
  can = c.reports_tell.ensures.kept;
  same = c.devices_stay_the_same.ensures.event;
  part_lands = c.messages_follow_the_course.ensures.part;
  whole_lands = c.messages_follow_the_course.ensures.whole;
  segments = record {
    part = c.segments_tell.ensures.part;
    next = c.segments_tell.ensures.next;
    slices = c.segments_tell.ensures.slices;
    other = c.segments_tell.ensures.other;
    other_says = c.segments_tell.ensures.other_says;
    elsewhere = c.segments_tell.ensures.elsewhere;
    no_get = c.segments_tell.ensures.no_get;
    acknowledged = c.segments_tell.ensures.acknowledged;
  };
}

pub returns-clause-fresh : goal.returns-clause-fresh
returns-clause-fresh c = fresh_at (laws_of c)

pub returns-clause-hears : goal.returns-clause-hears
returns-clause-hears c = payload_heard (laws_of c)

pub returns-clause-ticks : goal.returns-clause-ticks
returns-clause-ticks c = tick_goes (laws_of c)

pub returns-clause-wakes : goal.returns-clause-wakes
returns-clause-wakes c = wake_goes (laws_of c)

pub returns-clause-sets : goal.returns-clause-sets
returns-clause-sets c = set_goes (laws_of c)

pub returns-clause-makes : goal.returns-clause-makes
returns-clause-makes c = payload_makes (record {
  follows = c.messages_do_what_is_asked.ensures.heard;
  asked = c.messages_do_what_is_asked.ensures.asked;
  left = c.others_are_no_messages.ensures.left;
  segments = record {
    part = c.segments_tell.ensures.part;
    next = c.segments_tell.ensures.next;
    slices = c.segments_tell.ensures.slices;
    other = c.segments_tell.ensures.other;
    other_says = c.segments_tell.ensures.other_says;
    elsewhere = c.segments_tell.ensures.elsewhere;
    no_get = c.segments_tell.ensures.no_get;
    acknowledged = c.segments_tell.ensures.acknowledged;
  };
  opens = c.messages_open.ensures.opened;
  target = c.messages_open.ensures.target;
})

pub returns-clause-keeps : goal.returns-clause-keeps
returns-clause-keeps c orders commands device event none makes = event_makes orders commands device makes event none
