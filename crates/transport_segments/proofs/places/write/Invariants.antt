use Rattle.std.proofs.Common.{◌≡◌, map, Some}
use Rattle.std.proofs.Math.Seq.{paste}
use Rattle.transport_segments.proofs.places.write.Given as goal

-- the first i bytes of the payload are written
abbrev pub invariant-loop-i : goal.invariant-loop-i
invariant-loop-i l = l.places ≡ paste l.initial.places l.offset (map Some l.payload) l.i
