use Rattle.std.proofs.Common.{ℕ, ◌<◌}
use Rattle.transport_segments.specs.Places.{IsThere}
use Rattle.transport_segments.proofs.places.least_missing.Given as goal

-- a byte came for each of the first i places
abbrev pub invariant-loop-i : goal.invariant-loop-i
invariant-loop-i l = (at : ℕ) → at < l.i → IsThere l.places at
