use Rattle.std.proofs.Common.{arith}
use Rattle.s0_crypto.specs.Seal.{covered}
use Rattle.s0_crypto.proofs.ModesLemmas.{sum_by_bytes}
use Rattle.s0_crypto.proofs.code.add_block.Goals as goal

pub returns : goal.returns
returns c = λ i at.
    sum_by_bytes c.loop-j.sum c.args.chained.now (covered c.args.vector.now c.args.ends.now c.args.cipher_text.now) c.args.first i
    c.loop-j.invariant.filled (λ k below. c.loop-j.invariant.each k (omega arith)) at
