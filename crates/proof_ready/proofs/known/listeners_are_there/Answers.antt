-- The first device of the node is one at first, and so at every moment.
use Rattle.std.proofs.Common.{sym, subst}
use Rattle.std.specs.Prelude.{Some, []}
use Rattle.proof_rests.specs.proof_attempts.world_model.State.{Machine}
use Rattle.proof_in_time.specs.proof_answered.Listening.{HasListener}
use Rattle.proof_chip.specs.proof_line.world_model.State.{first_machine}
use Rattle.proof_chip.specs.proof_world.world_lines.Done.{events_of}
use Rattle.proof_chip.proofs.SpokenLines.{all_after}
use Rattle.proof_ready.proofs.Listening.{listener_at}
use Rattle.proof_ready.proofs.known.listeners_are_there.Goals as goal

pub returns : goal.returns
returns c = λ keys devices lines are whole up n device is listens.
    let m = first_machine keys (Some []) devices in
    subst (λ (k : Machine). HasListener n k.outside.devices) (sym (all_after m lines)) (c.listeners_hear.ensures.all n m (events_of lines) (listener_at n devices up device is listens))
