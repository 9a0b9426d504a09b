use Rattle.std.proofs.Common.{◌≡◌, map, replicate, []}
use Rattle.audit_table.proofs.values.Values.new.Given as goal

abbrev pub invariant-loop : goal.invariant-loop
invariant-loop l = map (λ known. known.entries) l.nodes.items ≡ replicate l.counter []
