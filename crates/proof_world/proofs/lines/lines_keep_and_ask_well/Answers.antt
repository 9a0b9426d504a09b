-- What lines ask, and so all that a run asks.
use Rattle.std.proofs.Common.{[], Some}
use Rattle.proof_device.specs.world_model.State.{first_machine}
use Rattle.proof_world.proofs.lines.lines_keep_and_ask_well.Goals as goal

pub returns : goal.returns
returns c = λ keys devices lines events are may.
    c.runs_keep_and_ask_well.ensures keys devices events may (c.lines_ask_well.ensures.lines lines (first_machine keys (Some []) devices) events are)
