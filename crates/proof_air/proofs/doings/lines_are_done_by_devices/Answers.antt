-- At first each node has the device that it has at entry.
use Rattle.std.proofs.Common.{[]}
use Rattle.proof_walk.specs.world_model.State.{first_machine}
use Rattle.proof_walk.proofs.Lines.{lines_stand}
use Rattle.proof_air.specs.Doing.{KnownDoers, MayDo}
use Rattle.proof_air.proofs.Doing.{doers_first, doers_walk}
use Rattle.proof_air.proofs.doings.lines_are_done_by_devices.Goals as goal

pub returns : goal.returns
returns c = λ keys records devices lines are.
    lines_stand (MayDo devices) (λ here past m. KnownDoers devices past m) (doers_walk devices) [] (first_machine keys records devices) lines are (doers_first (first_machine keys records devices))
