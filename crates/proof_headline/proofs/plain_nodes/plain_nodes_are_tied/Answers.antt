-- The course of the node ties it, and the truth of what the host is told goes line by line.
use Rattle.std.proofs.Common.{[], Some, refl, sym, subst}
use Rattle.world_model.specs.State.{Machine, first_machine}
use Rattle.world_lines.specs.Spoken.{after_all}
use Rattle.world_lines.specs.Done.{events_of}
use Rattle.proof_spoken.proofs.SpokenLines.{lines_of, all_read, all_lines, all_may, all_after}
use Rattle.proof_course_sealed.specs.Plain.{HasCourse}
use Rattle.proof_headline.proofs.PlainTying.{all_name, course_ties, lines_true, plain_at}
use Rattle.proof_headline.proofs.plain_nodes.plain_nodes_are_tied.Goals as goal

pub returns-clause-tied : goal.returns-clause-tied
returns-clause-tied c = λ keys devices lines node device plain done found.
    let m = first_machine keys (Some []) devices in
    let events = events_of lines in
    let read = all_read m lines done in
    let are = all_lines m lines done in
    let may = all_may m lines done in
    let well = c.lines_keep_and_ask_well.ensures keys devices (lines_of lines) events are may in
    let course = c.lines_have_a_course.ensures.plain node keys (Some []) devices (lines_of lines) events plain.within plain.device refl (all_name c.lines_ask_plainly.ensures.text (lines_of lines) read) are may well.1 well.0 plain.orders in
    let at_end : HasCourse node (after_all m lines) = subst (λ (x : Machine). HasCourse node x) (sym (all_after m lines)) course in
    course_ties c.courses_tie_their_ends.ensures node (after_all m lines) device at_end.course (plain_at node (after_all m lines) at_end) found

pub returns-clause-truth : goal.returns-clause-truth
returns-clause-truth c = λ keys devices lines node plain done.
    let m = first_machine keys (Some []) devices in
    let events = events_of lines in
    let read = all_read m lines done in
    let are = all_lines m lines done in
    let may = all_may m lines done in
    let well = c.lines_keep_and_ask_well.ensures keys devices (lines_of lines) events are may in
    lines_true node m lines
    (c.lines_tell_the_truth.ensures.plain node keys (Some []) devices (lines_of lines) events plain.within plain.device refl (all_name c.lines_ask_plainly.ensures.text (lines_of lines) read) are may well.1 well.0 plain.orders)
