use Rattle.std.proofs.Common.{[], Some, refl}
use Rattle.proof_air.specs.world_model.State.{first_machine}
use Rattle.proof_air.specs.world_lines.Done.{events_of}
use Rattle.proof_spoken.proofs.SpokenLines.{all_lines, all_may, all_read, lines_of}
use Rattle.proof_transcript.proofs.FirstMachine.{first_told}
use Rattle.proof_transcript.proofs.LastTable.{lines_told}
use Rattle.proof_transcript.proofs.Over.{all_go_on}
use Rattle.proof_transcript.proofs.table.what_is_told.Goals as goal

pub returns : goal.returns
returns c = λ keys devices lines are whole.
    let m = first_machine keys (Some []) devices in
    let may = all_may m lines are in
    let well = c.lines_keep_and_ask_well.ensures keys devices (lines_of lines) (events_of lines) (all_lines m lines are) may in
    let along = all_go_on c.texts_give_one_thing.ensures.one c.a_restart_keeps_what_is_held.ensures.opened c.restarts_go_on.ensures.each c.the_machine_keeps_facts.ensures.each [] m (events_of lines)
    (c.the_machine_keeps_facts.ensures.first keys (Some []) devices) (c.restarts_go_on.ensures.first keys (Some []) refl) may well.0 in
    lines_told c.a_restart_needs_the_records_alone.ensures.others [] m lines are whole (all_read m lines are) along (first_told keys (Some []) devices)
