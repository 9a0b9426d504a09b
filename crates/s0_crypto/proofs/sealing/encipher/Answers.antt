use Rattle.std.proofs.Common.{◌∙◌}
use Rattle.s0_crypto.proofs.StreamLemmas.{first_key_block, enciphered}
use Rattle.s0_crypto.proofs.sealing.encipher.Goals as goal

pub returns : goal.returns
returns c =
    enciphered c.args.cipher.now c.args.vector.now c.args.plain.now c.encrypt-block.result c.encrypt-block.ensures c.new-text.ensures c.in_ok-push.ensures.ok
    (c.in_ok-add_after_first.ensures c.args.vector.now (c.encrypt-block.ensures ∙ first_key_block c.args.cipher.now c.args.vector.now))
