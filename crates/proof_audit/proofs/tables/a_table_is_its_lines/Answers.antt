use Rattle.proof_audit.proofs.WithTable.{table-is-lines}
use Rattle.proof_audit.proofs.tables.a_table_is_its_lines.Goals as goal

pub returns : goal.returns
returns c = λ listing ticks transcript devices. table-is-lines listing ticks transcript devices
