use Rattle.std.proofs.Common.{ℕ, ◌*◌, ◌^◌}
use Rattle.zw_base.specs.Crc.{IsRemainder}
use Rattle.zw_base.proofs.crc.with_byte.Given as goal

-- so many coefficients 0 were brought down
abbrev pub invariant-loop-bit : goal.invariant-loop-bit
invariant-loop-bit l = (p : ℕ) → IsRemainder p l.initial.left → IsRemainder (p * 2 ^ l._bit) l.left
