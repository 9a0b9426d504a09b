-- Each event keeps what they are.
use Rattle.std.proofs.Common.{sym, subst}
use Rattle.std.specs.Prelude.{Some, []}
use Rattle.proof_rests.specs.proof_attempts.proof_walk.proof_device.GoingOn.{AreSame}
use Rattle.proof_chip.specs.proof_line.world_model.State.{Machine, first_machine}
use Rattle.proof_chip.specs.proof_line.world_model.Did.{happens_all}
use Rattle.proof_chip.specs.proof_world.world_lines.Done.{events_of}
use Rattle.proof_chip.proofs.SpokenLines.{all_after}
use Rattle.proof_ready.proofs.known.devices_are_the_same.Goals as goal

pub returns : goal.returns
returns c = λ keys devices lines are whole.
    let m = first_machine keys (Some []) devices in
    let events = events_of lines in
    subst (λ (k : Machine). AreSame devices k.outside.devices) (sym (all_after m lines))
    (c.devices_stay_the_same.ensures.all devices (happens_all m events).outside.devices (c.devices_go_on.ensures.all m events))
