-- Words and values are one line each, and no other entry takes a text from outside.
use Rattle.proof_audit.proofs.Legibles.{all_legible, table_legible}
use Rattle.proof_audit.proofs.text.entries_are_legible.Goals as goal

pub returns-clause-entries : goal.returns-clause-entries
returns-clause-entries c = all_legible

pub returns-clause-table : goal.returns-clause-table
returns-clause-table c = λ listing clock past devices. table_legible listing past devices clock
