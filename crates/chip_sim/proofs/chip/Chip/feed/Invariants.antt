use Rattle.std.proofs.Common.{◌≡◌, ℕ, List, ◌++◌, length}
use Rattle.chip_sim.specs.State.{ChipParts}
use Rattle.chip_sim.specs.Did.{Fed}
use Rattle.chip_sim.specs.declared.out.ChipOut.{ChipOut}
use Rattle.chip_sim.proofs.chip.Chip.feed.Given as goal

-- what is taken from here on is taken from the beginning on
abbrev pub invariant-loop-rest : goal.invariant-loop-rest
invariant-loop-rest l =
    (prefix : List ℕ) × (l.fn.piece ≡ prefix ++ l.left) × ((bytes : List ℕ) (new : ChipParts) (all : List ChipOut) →
    Fed l.self bytes new l.out.items all → Fed l.fn.self (prefix ++ bytes) new l.fn.out.items all)

abbrev pub decreases-loop-rest : goal.decreases-loop-rest
decreases-loop-rest l = length l.left
