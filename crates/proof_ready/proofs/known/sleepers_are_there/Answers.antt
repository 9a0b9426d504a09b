-- The first device of the node is of that kind at every moment.
use Rattle.std.specs.Prelude.{Some, []}
use Rattle.proof_chip.specs.proof_line.world_model.State.{first_machine}
use Rattle.proof_chip.specs.proof_world.world_lines.Spoken.{after_all}
use Rattle.proof_ready.proofs.Listening.{sleeper_at}
use Rattle.proof_ready.proofs.known.sleepers_are_there.Goals as goal

pub returns : goal.returns
returns c = λ keys devices lines are whole n device is sleeps.
    sleeper_at n devices (after_all (first_machine keys (Some []) devices) lines).outside.devices (c.devices_are_the_same.ensures keys devices lines are whole) device is sleeps
