-- Over whole lines events are orderly, so both links are known as each line ends.
use Rattle.std.proofs.Common.{[]}
use Rattle.std.specs.Prelude.{Some}
use Rattle.proof_chip.specs.proof_line.Linked.{Anything, IsOrderly, KnowAll}
use Rattle.proof_chip.specs.proof_line.world_model.Did.{AllAlong}
use Rattle.proof_chip.specs.proof_line.world_model.State.{first_machine}
use Rattle.proof_chip.specs.proof_world.world_lines.Done.{events_of}
use Rattle.proof_chip.proofs.LinkSome.{lines_orderly}
use Rattle.proof_chip.proofs.SpokenLines.{all_lines, all_may, lines_of}
use Rattle.proof_chip.proofs.Where.{where_whole}
use Rattle.proof_ready.proofs.pipes.lines_lead_links.Goals as goal

pub returns : goal.returns
returns c = λ keys devices lines are whole.
    let start = first_machine keys (Some []) devices in
    let events = events_of lines in
    let these = all_lines start lines are in
    let may = all_may start lines are in
    let asks = c.lines_keep_and_ask_well.ensures keys devices (lines_of lines) events these may in
    let orderly : AllAlong IsOrderly start events = lines_orderly (lines_of lines) start events these (c.hosts_write_well.ensures.run keys (Some []) devices events may asks.1) asks.1 in
    where_whole IsOrderly Anything KnowAll c.links_go_on.ensures.walk [] start lines are whole orderly (c.links_go_on.ensures.first keys (Some []) devices)
