use Rattle.audit_books.proofs.Follows.{begins, goes-on, judges}
use Rattle.audit_books.proofs.laws.tables_follow.Goals as goal

pub returns-clause-begin : goal.returns-clause-begin
returns-clause-begin c = begins

pub returns-clause-go_on : goal.returns-clause-go_on
returns-clause-go_on c = goes-on

pub returns-clause-judge : goal.returns-clause-judge
returns-clause-judge c = judges
