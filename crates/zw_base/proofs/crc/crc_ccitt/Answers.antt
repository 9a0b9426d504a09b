use Rattle.std.proofs.Common.{◌≡◌, ℕ, ◌+◌, ◌*◌, ◌^◌, ◌<◌, ◌++◌, ◌∷◌, [], take, get_or, length, bit_xor, add-one, subst, arith, sym, ◌∙◌, ap}
use Rattle.std.proofs.Math.Seq.{take-suc}
use Rattle.std.proofs.lemmas.List.{take_all}
use Rattle.zw_base.specs.Crc.{IsRemainder, dividend}
use Rattle.zw_base.proofs.CrcLemmas.{no_bytes, dividend-push, one_remainder, crc_is_remainder}
use Rattle.zw_base.proofs.crc.crc_ccitt.Goals as goal

pub loop-byte-init : goal.loop-byte-init
loop-byte-init c = no_bytes

pub loop-byte-preserved : goal.loop-byte-preserved
loop-byte-preserved c =
    let i : ℕ = c.loop-byte.byte-index in
    let byte : ℕ = get_or c.args.bytes.now c.loop-byte.byte-index 0 in
    let small : byte < 256 = omega (arith, c.type_inv.bytes c.loop-byte.byte-index) in
    let inside : c.loop-byte.byte-index < length c.args.bytes.now = omega arith in
    let more : take (c.loop-byte.byte-index + 1) c.args.bytes.now ≡ take c.loop-byte.byte-index c.args.bytes.now ++ byte ∷ [] =
    rw add-one (take-suc c.args.bytes.now c.loop-byte.byte-index 0 inside) in
    let e : bit_xor (dividend (take i c.args.bytes.now) * 2 ^ 8) (byte * 2 ^ 16) ≡ dividend (take (i + 1) c.args.bytes.now) =
    sym (ap dividend more ∙ dividend-push (take c.loop-byte.byte-index c.args.bytes.now) byte small) in
    subst (λ x. IsRemainder x c.with_byte-register.result) e (c.with_byte-register.ensures _ c.loop-byte.invariant)

-- all bytes are done
whole : (c : goal.After-loop-byte) → IsRemainder (dividend c.args.bytes.now) c.loop-byte.register
whole c =
    subst (λ x. IsRemainder (dividend x) c.loop-byte.register) (take_all c.loop-byte.byte-index c.args.bytes.now c.loop-byte-test.false) c.loop-byte.invariant

pub returns-clause-remainder : goal.returns-clause-remainder
returns-clause-remainder c = whole c

pub returns-clause-only : goal.returns-clause-only
returns-clause-only c = λ r h. one_remainder _ r _ h (whole c)

pub returns-clause-value : goal.returns-clause-value
returns-clause-value c = one_remainder _ _ _ (whole c) (crc_is_remainder c.args.bytes.now (λ i. omega (arith, c.type_inv.bytes i)))
