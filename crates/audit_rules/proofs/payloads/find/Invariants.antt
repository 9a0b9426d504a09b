use Rattle.std.proofs.Common.{◌≡◌, drop}
use Rattle.audit_rules.specs.Sending.{following}
use Rattle.audit_rules.proofs.payloads.find.Given as goal

-- those before this one are others
abbrev pub invariant-loop-at : goal.invariant-loop-at
invariant-loop-at l =
    following (record { node = l.node; payload = l.payload }) (drop l.from l.sendings)
    ≡ following (record { node = l.node; payload = l.payload }) (drop l.at l.sendings)
