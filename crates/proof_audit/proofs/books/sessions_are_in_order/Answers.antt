use Rattle.proof_audit.proofs.BegunSessions.{keeps-sessions}
use Rattle.proof_audit.proofs.WithTable.{sessions-with-table}
use Rattle.proof_audit.proofs.books.sessions_are_in_order.Goals as goal

pub returns : goal.returns
returns c = λ listing transcript table laws asked all. sessions-with-table transcript table all (keeps-sessions listing transcript laws asked)
