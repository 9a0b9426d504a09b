use Rattle.std.proofs.Common.{◌≡◌, ◌+◌, ◌*◌, ◌^◌, ◌%◌, ◌<◌, bit_xor, subst, arith, pow-add, ap}
use Rattle.zw_base.specs.Crc.{IsRemainder}
use Rattle.zw_base.proofs.CrcLemmas.{added, byte_down}
use Rattle.zw_base.proofs.crc.with_byte.Goals as goal

pub loop-bit-preserved : goal.loop-bit-preserved
loop-bit-preserved c = λ p h.
    let e : 2 * (p * 2 ^ c.loop-bit._bit) ≡ p * 2 ^ (c.loop-bit._bit + 1) = omega (arith, ap (λ x. p * x) (pow-add 2 c.loop-bit._bit 1)) in
    subst (λ x. IsRemainder x c.times_x-left.result) e
    (c.times_x-left.ensures (p * 2 ^ c.loop-bit._bit) (c.loop-bit.invariant p h))

pub returns : goal.returns
returns c = λ p h.
    let small : c.args.byte * 2 ^ 8 < 2 ^ 16 = omega arith in
    let e : c.args.byte * 2 ^ 8 ≡ c.args.byte * 256 % 65536 = omega arith in
    let done : c.loop-bit._bit ≡ 8 = omega arith in
    let start : IsRemainder (bit_xor p (c.args.byte * 2 ^ 8)) (bit_xor c.args.register (c.args.byte * 256 % 65536)) =
    subst (λ x. IsRemainder (bit_xor p (c.args.byte * 2 ^ 8)) (bit_xor c.args.register x)) e (added p c.args.register (c.args.byte * 2 ^ 8) small h) in
    let end : IsRemainder (bit_xor p (c.args.byte * 2 ^ 8) * 2 ^ 8) c.loop-bit.left =
    subst (λ x. IsRemainder (bit_xor p (c.args.byte * 2 ^ 8) * 2 ^ x) c.loop-bit.left) done (c.loop-bit.invariant _ start) in
    subst (λ x. IsRemainder x c.loop-bit.left) (byte_down p c.args.byte (omega arith)) end
