use Rattle.std.proofs.Common.{◌≡◌, replicate}
use Rattle.audit_books.proofs.changes.Changes.new.Given as goal

abbrev pub invariant-loop : goal.invariant-loop
invariant-loop l = l.greatest.items ≡ replicate l.counter 0
