use Rattle.std.proofs.Common.{ℕ, ◌≤◌, length}
use Rattle.outside_model.specs.Schedules.{TakesBytes}
use Rattle.outside_step.proofs.outside.OutsideCore.chip_takes_all.Given as goal

abbrev pub invariant-loop-self : goal.invariant-loop-self
invariant-loop-self l = (count : ℕ) × (count ≤ length l.fn.self.to_chip.bytes) × TakesBytes count l.fn.self l.self l.fn.told.items l.told.items

abbrev pub decreases-loop-self : goal.decreases-loop-self
decreases-loop-self l = length l.self.to_chip.bytes
