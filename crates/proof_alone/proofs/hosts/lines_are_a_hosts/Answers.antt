-- The machine is read so from the first line on.
use Rattle.std.proofs.Common.{[]}
use Rattle.std.specs.Prelude.{Some}
use Rattle.proof_line.specs.world_model.State.{first_machine}
use Rattle.proof_line.specs.world_lines.Spoken.{after_all, transcript_of}
use Rattle.proof_line.specs.world_lines.Done.{events_of}
use Rattle.proof_line.proofs.SpokenLines.{all_lines, all_may, lines_of}
use Rattle.proof_line.proofs.Where.{where_lead, where_whole}
use Rattle.proof_alone.specs.State.{first_alone}
use Rattle.proof_alone.specs.Reading.{Anything, IsFine, ReadsMarked}
use Rattle.proof_alone.proofs.ReadingWalk.{all_fine, all_told, first_reads, keeper_told, reading_walk}
use Rattle.proof_alone.proofs.hosts.lines_are_a_hosts.Goals as goal

pub returns-clause-carefully : goal.returns-clause-carefully
returns-clause-carefully c = λ keys devices lines are.
    let m = first_machine keys (Some []) devices in
    let start = first_alone keys (Some []) in
    let events = events_of lines in
    let these = all_lines m lines are in
    let may = all_may m lines are in
    let keeps = c.lines_keep_and_ask_well.ensures keys devices (lines_of lines) events these may in
    let writes = c.hosts_write_well.ensures.run keys (Some []) devices events may keeps.1 in
    let stays = c.units_are_judged_whole.ensures.lines keys (Some []) devices (lines_of lines) events these may writes in
    let lead =
    where_lead IsFine Anything (ReadsMarked start) (reading_walk start c.marks_go_on.ensures.walk) [] m lines are (all_fine m events stays.at_rest writes)
    (c.marks_go_on.ensures.first keys (Some []) devices, first_reads keys (Some []) devices) in
    all_told start lead.0 (transcript_of m lines) (after_all m lines) lead.1.1

pub returns-clause-rests : goal.returns-clause-rests
returns-clause-rests c = λ keys devices lines are whole.
    let m = first_machine keys (Some []) devices in
    let start = first_alone keys (Some []) in
    let events = events_of lines in
    let these = all_lines m lines are in
    let may = all_may m lines are in
    let keeps = c.lines_keep_and_ask_well.ensures keys devices (lines_of lines) events these may in
    let writes = c.hosts_write_well.ensures.run keys (Some []) devices events may keeps.1 in
    let stays = c.units_are_judged_whole.ensures.lines keys (Some []) devices (lines_of lines) events these may writes in
    let known =
    where_whole IsFine Anything (ReadsMarked start) (reading_walk start c.marks_go_on.ensures.walk) [] m lines are whole (all_fine m events stays.at_rest writes)
    (c.marks_go_on.ensures.first keys (Some []) devices, first_reads keys (Some []) devices) in
    keeper_told start (transcript_of m lines) (after_all m lines) known.1

pub returns-clause-told : goal.returns-clause-told
returns-clause-told c = λ keys devices lines are. let end = returns-clause-carefully c keys devices lines are in (end.0, end.1, end.2)

pub returns-clause-keeper : goal.returns-clause-keeper
returns-clause-keeper c = λ keys devices lines are whole. let end = returns-clause-rests c keys devices lines are whole in (end.0, end.1.0, end.2, end.3)

pub returns-clause-whole : goal.returns-clause-whole
returns-clause-whole c = λ keys devices lines are whole. let end = returns-clause-rests c keys devices lines are whole in (end.0, end.1.0)
