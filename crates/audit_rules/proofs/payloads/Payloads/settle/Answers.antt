use Rattle.std.proofs.Common.{ap, ◌∙◌, sym}
use Rattle.audit_rules.specs.Sending.{settled}
use Rattle.audit_rules.proofs.Settled.{settled-push}
use Rattle.audit_rules.proofs.payloads.Payloads.settle.Goals as goal

pub returns-in_ok-push-in-None : goal.returns-in_ok-push-in-None
returns-in_ok-push-in-None c =
    let s = c.self.inside in
    settled-push s.passed s.asked.items c.push.new.self.items s.last c.take-last.new.self s.unmet c.in-Some-last.last s.written
    c.self.invariant c.in_ok-push-in-None.ensures.items (sym c.in-Some-last.ensures.value) c.take-last.ensures.after c.in-None.is
    ∙ ap settled c.self.view_is
