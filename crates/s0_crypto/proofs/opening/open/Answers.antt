use Rattle.std.proofs.Common.{Err, ◌∙◌, ap, arith}
use Rattle.s0_crypto.specs.declared.key_pair.Keys.{Keys}
use Rattle.s0_crypto.specs.Sealing.{unsealed_at}
use Rattle.s0_crypto.proofs.SealingLemmas.{opened_is, badly_coded, other_sequence}
use Rattle.s0_crypto.proofs.opening.open.Goals as goal

pub returns-in-Ok : goal.returns-in-Ok
returns-in-Ok c =
    opened_is c.keys.result c.args.nonce c.args.ends.now c.args.bytes.now c.in-Ok.plain c.requires.long c.requires.class c.requires.command c.requires.named
    c.in-Ok.ensures.opened c.in-Ok.ensures.sealed
    ∙ ap (λ (k : Keys). unsealed_at k c.args.nonce c.args.ends.now c.args.bytes.now) c.keys.ensures

pub returns-in-Err-Short : goal.returns-in-Err-Short
returns-in-Err-Short c =
    absurd (omega (arith, c.requires.long, c.in-Err-Short.ensures.short.0 (ap Err c.in-Err-Short.field-0-is)))

pub returns-in-Err-BadCode : goal.returns-in-Err-BadCode
returns-in-Err-BadCode c =
    badly_coded c.keys.result c.args.nonce c.args.ends.now c.args.bytes.now c.in-Err-BadCode.field-0-0 c.in-Err-BadCode.field-0-1
    ((c.in-Err-BadCode.ensures.bad_code c.in-Err-BadCode.field-0-0 c.in-Err-BadCode.field-0-1).0 (ap Err c.in-Err-BadCode.field-0-is))
    ∙ ap (λ (k : Keys). unsealed_at k c.args.nonce c.args.ends.now c.args.bytes.now) c.keys.ensures

pub returns-in-Err-Sequence : goal.returns-in-Err-Sequence
returns-in-Err-Sequence c =
    other_sequence c.keys.result c.args.nonce c.args.ends.now c.args.bytes.now c.in-Err-Sequence.field-0-0
    ((c.in-Err-Sequence.ensures.sequence c.in-Err-Sequence.field-0-0).0 (ap Err c.in-Err-Sequence.field-0-is))
    ∙ ap (λ (k : Keys). unsealed_at k c.args.nonce c.args.ends.now c.args.bytes.now) c.keys.ensures
