-- A node that the chip has not joined is not joined by the transcript.
use Rattle.std.specs.Prelude.{Some, []}
use Rattle.proof_chip.specs.proof_line.world_model.State.{first_machine}
use Rattle.proof_chip.specs.proof_world.world_lines.Spoken.{after_all, transcript_of}
use Rattle.proof_ready.proofs.Reading.{not_joined}
use Rattle.proof_ready.proofs.nodes.hosts_know_their_members.Goals as goal

pub returns : goal.returns
returns c = λ keys devices lines are whole n apart.
    let m = first_machine keys (Some []) devices in
    c.nodes_are_still.ensures.blank keys devices lines are whole n
    (not_joined (after_all m lines).outside.outer.chip.state.joined (transcript_of m lines) n
    (λ joined. (c.lines_join_the_same_nodes.ensures keys devices lines are whole n (c.joined_nodes_are_there.ensures keys devices lines are whole n joined).in_air).is_joined) apart)
