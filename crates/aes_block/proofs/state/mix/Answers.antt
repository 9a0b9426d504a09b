use Rattle.aes_block.specs.Cipher.{mixed}
use Rattle.aes_block.proofs.Products.{product_2, product_3}
use Rattle.aes_block.proofs.state.mix.Goals as goal

pub returns : goal.returns
unfolding mixed
returns c = rw (product_2, product_3, c.double.ensures, c.double-2.ensures)
