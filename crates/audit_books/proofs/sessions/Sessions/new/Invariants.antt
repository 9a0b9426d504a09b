use Rattle.std.proofs.Common.{◌≡◌, map, replicate, []}
use Rattle.audit_books.proofs.sessions.Sessions.new.Given as goal

abbrev pub invariant-loop : goal.invariant-loop
invariant-loop l = map (λ commands. commands.items) l.nodes.items ≡ replicate l.counter []
