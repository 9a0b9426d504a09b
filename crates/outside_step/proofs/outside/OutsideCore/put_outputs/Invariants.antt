use Rattle.std.proofs.Common.{take}
use Rattle.outside_model.specs.State.{Does, each}
use Rattle.outside_model.specs.Chip.{put_out}
use Rattle.outside_step.proofs.outside.OutsideCore.put_outputs.Given as goal

abbrev pub invariant-loop-output : goal.invariant-loop-output
invariant-loop-output l = Does (each put_out l.fn.self (take l.output-index l.outputs.items)) l.self l.fn.told.items l.told.items
