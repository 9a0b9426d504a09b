use Rattle.std.proofs.Common.{ℕ, ◌<◌}
use Rattle.device_kinds.specs.Places.{IsAfter}
use Rattle.device_kinds.proofs.settings.place_of.Given as goal

abbrev pub invariant-loop-i : goal.invariant-loop-i
invariant-loop-i l = (k : ℕ) → k < l.i → IsAfter l.settings l.property k
