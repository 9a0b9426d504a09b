-- All the events of the lines are those of one list of lines.
use Rattle.std.proofs.Common.{[], Some, refl}
use Rattle.proof_once.specs.law_transcript.Nodes.{listing_of}
use Rattle.proof_once.specs.world_model.State.{first_machine}
use Rattle.proof_world.specs.world_lines.Done.{events_of}
use Rattle.proof_world.proofs.SpokenLines.{lines_of, all_lines, all_may}
use Rattle.proof_spoken.proofs.ToldLines.{are_spoken, lines_tell}
use Rattle.proof_spoken.proofs.interviews.lines_tell_what_nodes_list.Goals as goal

pub returns-clause-spoken : goal.returns-clause-spoken
returns-clause-spoken c = λ keys devices lines are.
    let m = first_machine keys (Some []) devices in
    let may = all_may m lines are in
    let well =
    c.lines_keep_and_ask_well.ensures keys devices (lines_of lines) (events_of lines) (all_lines m lines are) may in
    are_spoken m lines are
    (c.restarts_go_on.ensures.all [] m (events_of lines) (c.the_machine_keeps_facts.ensures.first keys (Some []) devices) (c.restarts_go_on.ensures.first keys (Some []) refl) may well.0).0

pub returns-clause-tell : goal.returns-clause-tell
returns-clause-tell c = λ keys devices lines are.
    let m = first_machine keys (Some []) devices in
    lines_tell (listing_of devices) m lines
    (c.interviews_tell_what_nodes_list.ensures.tell keys devices (lines_of lines) (events_of lines) (all_lines m lines are) (all_may m lines are))
