-- The induction over the events of a run, from the first on.
use Rattle.std.proofs.Common.{[], Some}
use Rattle.proof_device.specs.world_model.State.{first_machine}
use Rattle.proof_world.proofs.Runs.{all_ask, first_machine_asks}
use Rattle.proof_world.proofs.lines.runs_keep_and_ask_well.Goals as goal

pub returns : goal.returns
returns c = λ keys devices events may asked. all_ask (first_machine keys (Some []) devices) events (first_machine_asks keys devices) may asked
