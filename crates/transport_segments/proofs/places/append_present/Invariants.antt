use Rattle.std.proofs.Common.{◌≡◌, ◌++◌, take}
use Rattle.transport_segments.specs.Places.{present}
use Rattle.transport_segments.proofs.places.append_present.Given as goal

-- those of the first places are added
abbrev pub invariant-loop-place : goal.invariant-loop-place
invariant-loop-place l = l.bytes ≡ l.initial.bytes ++ present (take l.place-index l.places)
