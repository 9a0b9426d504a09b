-- The walk over the machine as a host alone, to the end of whole lines.
use Rattle.std.proofs.Common.{List, [], ◌∷◌}
use Rattle.std.specs.Prelude.{Some}
use Rattle.proof_chip.specs.proof_line.world_model.State.{Machine, first_machine}
use Rattle.proof_chip.specs.proof_line.world_model.Events.{Event, happens}
use Rattle.proof_chip.specs.proof_line.world_model.Did.{AllAlong}
use Rattle.proof_chip.specs.proof_world.world_lines.Done.{events_of}
use Rattle.proof_chip.specs.proof_world.proof_serial.Line.{AllAtRest, AllWriteWell}
use Rattle.proof_chip.proofs.SpokenLines.{all_lines, all_may, lines_of}
use Rattle.proof_chip.proofs.Where.{where_whole}
use Rattle.proof_rests.specs.proof_requests.proof_alone.State.{first_alone}
use Rattle.proof_rests.specs.proof_requests.proof_alone.Reading.{Anything, IsFine, ReadsMarked}
use Rattle.proof_ready.proofs.at_rest.lines_leave_a_host_at_rest.Goals as goal

all_fine : (m : Machine) (events : List Event) → AllAtRest m events → AllWriteWell m events → AllAlong IsFine m events
all_fine m [] rests writes = tt
all_fine m (event ∷ events) rests writes = ((rests.0, writes.0), all_fine (happens m event) events rests.1 writes.1)

pub returns : goal.returns
returns c = λ keys devices lines are whole.
    let m = first_machine keys (Some []) devices in
    let start = first_alone keys (Some []) in
    let events = events_of lines in
    let these = all_lines m lines are in
    let may = all_may m lines are in
    let keeps = c.lines_keep_and_ask_well.ensures keys devices (lines_of lines) events these may in
    let writes = c.hosts_write_well.ensures.run keys (Some []) devices events may keeps.1 in
    let stays = c.units_are_judged_whole.ensures.lines keys (Some []) devices (lines_of lines) events these may writes in
    (where_whole IsFine Anything (ReadsMarked start) (c.machines_are_read_as_hosts.ensures.walk start) [] m lines are whole (all_fine m events stays.at_rest writes)
    (c.machines_are_read_as_hosts.ensures.first keys (Some []) devices)).1
