use Rattle.aes_block.proofs.Tables.{doubled_at}
use Rattle.aes_block.proofs.doubling.double.Goals as goal

pub returns : goal.returns
returns c = doubled_at c.args.byte c.ranges.byte.fits
