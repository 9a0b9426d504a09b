use Rattle.std.proofs.Common.{refl}
use Rattle.aes_block.specs.Cipher.{shift_rows}
use Rattle.aes_block.proofs.state.shift_rows.Goals as goal

pub returns : goal.returns
unfolding shift_rows
returns c = refl
