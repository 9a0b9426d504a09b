-- The units of each host are ones that the format carries, and what is on the line is whole: so the walk goes along all lines.
use Rattle.std.proofs.Common.{[], Some}
use Rattle.proof_air.specs.world_model.State.{first_machine}
use Rattle.proof_air.specs.world_lines.Done.{events_of}
use Rattle.proof_spoken.proofs.SpokenLines.{all_lines, all_may, lines_of}
use Rattle.proof_air.proofs.Where.{where_stand}
use Rattle.law_host.specs.law_transcript.Carrying.{MaySend}
use Rattle.proof_transcript.specs.Carrying.{IsWell}
use Rattle.proof_transcript.proofs.CarryingWalk.{KnowBoth, all_well, carrying_walk, first_underway}
use Rattle.proof_transcript.proofs.carrying.lines_carry_units.Goals as goal

pub returns : goal.returns
returns c = λ keys devices lines are.
    let m = first_machine keys (Some []) devices in
    let events = events_of lines in
    let these = all_lines m lines are in
    let may = all_may m lines are in
    let asks = c.lines_keep_and_ask_well.ensures keys devices (lines_of lines) events these may in
    let writes = c.hosts_write_well.ensures.run keys (Some []) devices events may asks.1 in
    let stays = c.units_are_judged_whole.ensures.lines keys (Some []) devices (lines_of lines) events these may writes in
    let rules = c.rules_of_events.ensures.starts in
    let keeps = c.units_are_judged_whole.ensures.each in
    where_stand IsWell MaySend KnowBoth (carrying_walk rules keeps c.history_goes_on.ensures.walk) [] m lines are (all_well m events stays.at_rest writes)
    (c.history_goes_on.ensures.first keys (Some []) devices, first_underway keys (Some []) devices)
