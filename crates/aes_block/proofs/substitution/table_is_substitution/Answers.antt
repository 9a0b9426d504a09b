use Rattle.aes_block.proofs.Tables.{substitution_table}
use Rattle.aes_block.proofs.substitution.table_is_substitution.Goals as goal

pub returns : goal.returns
returns c = substitution_table
