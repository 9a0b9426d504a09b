use Rattle.aes_block.proofs.Inverses.{inverse_product}
use Rattle.aes_block.proofs.field.inverses_exist.Goals as goal

pub returns : goal.returns
returns c = inverse_product
