use Rattle.std.proofs.Common.{refl}
use Rattle.aes_block.specs.Cipher.{add_round_key}
use Rattle.aes_block.proofs.state.add_round_key.Goals as goal

pub returns : goal.returns
unfolding add_round_key
returns c = refl
