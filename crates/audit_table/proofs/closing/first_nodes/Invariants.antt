use Rattle.std.proofs.Common.{◌≡◌, replicate, false}
use Rattle.audit_table.proofs.closing.first_nodes.Given as goal

abbrev pub invariant-loop : goal.invariant-loop
invariant-loop l = l.joined.items ≡ replicate l.counter false
