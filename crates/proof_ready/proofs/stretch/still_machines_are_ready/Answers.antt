-- The nodes at work in a stretch are those for which a command waits, or is accepted in it.
use Rattle.std.specs.Prelude.{Some, []}
use Rattle.law_wire.specs.law_transcript.Nodes.{always, listing_of}
use Rattle.law_time.specs.Stretches.{workers}
use Rattle.proof_chip.specs.proof_line.world_model.State.{first_machine}
use Rattle.proof_chip.specs.proof_world.world_lines.Spoken.{after_all, transcript_of}
use Rattle.proof_ready.proofs.stretch.still_machines_are_ready.Goals as goal

pub returns : goal.returns
returns c = λ keys devices lines are whole up still key stretch quiet plain.
    let m = first_machine keys (Some []) devices in
    let past = transcript_of m lines in
    let known = c.workers_are_known.ensures keys devices lines are whole key stretch quiet plain in
    c.machines_are_ready.ensures keys devices lines are whole up (always (listing_of (after_all m lines).outside.devices)) still (workers past stretch) known.0 known.1
