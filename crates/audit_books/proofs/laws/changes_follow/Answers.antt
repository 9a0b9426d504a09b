use Rattle.audit_books.proofs.Changed.{changes-begin, changes-go-on, judges-changes}
use Rattle.audit_books.proofs.laws.changes_follow.Goals as goal

pub returns-clause-begin : goal.returns-clause-begin
returns-clause-begin c = changes-begin

pub returns-clause-go_on : goal.returns-clause-go_on
returns-clause-go_on c = changes-go-on

pub returns-clause-judge : goal.returns-clause-judge
returns-clause-judge c = judges-changes
