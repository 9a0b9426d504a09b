use Rattle.aes_block.specs.Cipher.{sub_bytes}
use Rattle.aes_block.proofs.Columns.{column_more}
use Rattle.std.proofs.Common.{refl}
use Rattle.aes_block.proofs.state.sub_bytes.Goals as goal

pub returns : goal.returns
unfolding sub_bytes
returns c =
    column_more c.substitute.ensures c.substitute-2.ensures c.substitute-3.ensures c.substitute-4.ensures
    (column_more c.substitute-5.ensures c.substitute-6.ensures c.substitute-7.ensures c.substitute-8.ensures
    (column_more c.substitute-9.ensures c.substitute-10.ensures c.substitute-11.ensures c.substitute-12.ensures
    (column_more c.substitute-13.ensures c.substitute-14.ensures c.substitute-15.ensures c.substitute-16.ensures refl)))
