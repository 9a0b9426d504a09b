use Rattle.aes_block.specs.Cipher.{mix_columns}
use Rattle.aes_block.proofs.Columns.{column_more}
use Rattle.std.proofs.Common.{refl}
use Rattle.aes_block.proofs.state.mix_columns.Goals as goal

pub returns : goal.returns
unfolding mix_columns
returns c =
    column_more c.mix.ensures c.mix-2.ensures c.mix-3.ensures c.mix-4.ensures
    (column_more c.mix-5.ensures c.mix-6.ensures c.mix-7.ensures c.mix-8.ensures
    (column_more c.mix-9.ensures c.mix-10.ensures c.mix-11.ensures c.mix-12.ensures
    (column_more c.mix-13.ensures c.mix-14.ensures c.mix-15.ensures c.mix-16.ensures refl)))
