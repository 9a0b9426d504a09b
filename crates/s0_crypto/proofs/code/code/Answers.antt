use Rattle.std.proofs.Common.{take, refl, ap, ◌∙◌, arith, length-append}
use Rattle.s0_crypto.specs.Seal.{covered}
use Rattle.s0_crypto.proofs.ModesLemmas.{chained_none, chained_more, chained_whole}
use Rattle.s0_crypto.proofs.code.code.Goals as goal

pub loop-i-init : goal.loop-i-init
loop-i-init c = chained_none c.args.key.now (covered c.args.vector.now c.args.ends.now c.args.cipher_text.now)

pub loop-i-preserved : goal.loop-i-preserved
loop-i-preserved c =
    chained_more c.args.key.now (covered c.args.vector.now c.args.ends.now c.args.cipher_text.now) c.loop-i.i
    c.loop-i.invariant (c.add_block.ensures c.loop-i.i refl) c.encrypt-chained.ensures

pub returns : goal.returns
returns c =
    c.prefix.ensures ∙ ap (take 8) (chained_whole c.args.key.now (covered c.args.vector.now c.args.ends.now c.args.cipher_text.now) c.loop-i.i
    c.loop-i.invariant (simp length-append (omega (arith, c.div_ceil-blocks.ensures))))
