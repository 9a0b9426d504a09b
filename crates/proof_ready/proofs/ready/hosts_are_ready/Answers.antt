-- Each node is still or one of these.
use Rattle.std.proofs.Common.{arith}
use Rattle.std.specs.Prelude.{Some, []}
use Rattle.proof_chip.specs.proof_line.world_model.State.{first_machine}
use Rattle.proof_chip.specs.proof_world.world_lines.Spoken.{after_all, transcript_of}
use Rattle.proof_ready.proofs.Workers.{ready}
use Rattle.proof_ready.proofs.ready.hosts_are_ready.Goals as goal

pub returns : goal.returns
returns c = λ keys devices lines are whole listing still these workers.
    let m = first_machine keys (Some []) devices in
    ready these (transcript_of m lines) (after_all m lines).host.state workers (c.calm_hosts_are_done.ensures.free keys devices lines are whole still.rest)
    (c.nodes_are_still.ensures.outside keys devices lines are whole)
    (λ n joined apart. c.nodes_are_still.ensures.inside keys devices lines are whole listing still n joined (workers.others n apart joined))
    (λ n joined.
    let there = c.joined_nodes_are_there.ensures keys devices lines are whole n joined in
    c.calm_hosts_are_done.ensures.idle keys devices lines are whole n (omega (arith, there.from)) there.to (still.idle n joined))
