use Rattle.std.proofs.Common.{◌+◌, ◌-◌, ◌/◌, arith, ap, ◌∙◌}
use Rattle.aes_block.specs.Cipher.{aes}
use Rattle.s0_crypto.proofs.ModesLemmas.{key_block_more}
use Rattle.s0_crypto.proofs.key_stream.next_block.Goals as goal

pub returns-then-place-eq0 : goal.returns-then-place-eq0
returns-then-place-eq0 c = λ vector block_is.
    c.encrypt.ensures ∙ ap (aes _) block_is ∙ key_block_more _ vector ((c.args.place - 1) / 16 + 1) (c.args.place / 16 + 1) (omega arith)
