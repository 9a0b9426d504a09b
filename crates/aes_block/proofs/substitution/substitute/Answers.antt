use Rattle.aes_block.proofs.Tables.{substitution_at}
use Rattle.aes_block.proofs.substitution.substitute.Goals as goal

pub returns : goal.returns
returns c = substitution_at c.args.byte c.ranges.byte.fits
