use Rattle.std.proofs.Common.{◌≡◌, replicate}
use Rattle.audit_rules.specs.Flying.{no_nonces as blank}
use Rattle.audit_rules.proofs.frames.no_nonces.Given as goal

abbrev pub invariant-loop : goal.invariant-loop
invariant-loop l = l.shown.items ≡ replicate l.counter blank
