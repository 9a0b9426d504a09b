-- Each clause is a lemma, over the law of the host and of the machine's events.
use Rattle.proof_course_plain.proofs.TrueLines.{event_true, events_true}
use Rattle.proof_course_plain.proofs.truth.worlds_tell_the_truth.Goals as goal

pub returns-clause-event : goal.returns-clause-event
returns-clause-event c node orders course up down m event within = event_true c.hosts_are_told_the_truth.ensures node within orders course up down m event

pub returns-clause-events : goal.returns-clause-events
returns-clause-events c node orders course up down m events within =
    events_true (record { goes = c.worlds_follow_the_course.ensures.event; held = c.restarts_go_on.ensures.each; judges = c.hosts_are_told_the_truth.ensures }) node within orders course up down m events
