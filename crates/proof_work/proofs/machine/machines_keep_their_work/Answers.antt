-- The induction over the events of a run.
use Rattle.std.proofs.Common.{[], Some}
use Rattle.proof_walk.specs.world_model.State.{first_machine}
use Rattle.proof_work.proofs.Machines.{line_done, lines_done, machine_kept, machines_kept, tells_if}
use Rattle.proof_work.proofs.machine.machines_keep_their_work.Goals as goal

pub returns-clause-line : goal.returns-clause-line
returns-clause-line c = line_done

pub returns-clause-each : goal.returns-clause-each
returns-clause-each c = λ m event w may does well.
    machine_kept c.hosts_keep_their_work.ensures.each c.hosts_keep_their_work.ensures.opened m event w may does (tells_if m event well)

pub returns-clause-run : goal.returns-clause-run
returns-clause-run c = λ keys devices lines events are may.
    let first = first_machine keys (Some []) devices in
    machines_kept c.hosts_keep_their_work.ensures.each c.hosts_keep_their_work.ensures.opened first events (c.hosts_keep_their_work.ensures.first keys) may
    (lines_done lines first events are) (c.lines_keep_and_ask_well.ensures keys devices lines events are may).0
