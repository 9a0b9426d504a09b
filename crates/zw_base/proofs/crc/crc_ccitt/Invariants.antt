use Rattle.std.proofs.Common.{take}
use Rattle.zw_base.specs.Crc.{IsRemainder, dividend}
use Rattle.zw_base.proofs.crc.crc_ccitt.Given as goal

abbrev pub invariant-loop-byte : goal.invariant-loop-byte
invariant-loop-byte l = IsRemainder (dividend (take l.byte-index l.bytes)) l.register
