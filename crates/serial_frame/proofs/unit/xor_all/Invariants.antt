use Rattle.std.proofs.Common.{◌≡◌, drop}
use Rattle.serial_frame.specs.Frame.{xor_all}
use Rattle.serial_frame.proofs.unit.xor_all.Given as goal

abbrev pub invariant-loop-byte : goal.invariant-loop-byte
invariant-loop-byte l = xor_all l.sum (drop l.byte-index l.bytes) ≡ xor_all l.start l.bytes
